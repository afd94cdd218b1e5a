-- Converting cells to records and names, and back.
use Rattle.std.proofs.Common.{◌≡◌, ℕ, zero, suc, ◌+◌, ◌-◌, ◌<◌, ◌≤◌, Bool, true, false, List, [], ◌∷◌, ◌++◌, length}
use Rattle.std.proofs.Common.{take, drop, map, get_or, None, refl, sym, ap, ◌∙◌, subst, append_assoc, arith}
use Rattle.std.specs.Prelude.{◌≢◌, not, nat_le, nat_lt}
use Rattle.std.specs.List.{AllByRecursion, AllPairs, flat_map, list_all, list_any}
use Rattle.std.specs.Str.{bytes_eq}
use Rattle.std.proofs.lemmas.Bool.{true≢false, not-true, or_parts, and_parts}
use Rattle.std.proofs.lemmas.List.{append-nil, length-append, length-drop, length-take-le, take-append-drop, take_at}
use Rattle.std.proofs.lemmas.List.{drop_at, drop-drop, map-append, get_or_at, get_or_append_left}
use Rattle.std.proofs.lemmas.List.Quantifiers.{all_pairs_push}
use Rattle.std.proofs.lemmas.Slice.Eq.{bytes_eq-Decides}
use Rattle.ft_isa.specs.Words.{IsWord}
use Rattle.ft_types.specs.declared.object.Cell.{Cell}
use Rattle.ft_types.specs.Objects.{name_of}
use Rattle.ft_types.specs.Spellable.{IsBasic, is_letter, is_name_byte, is_name}
use Rattle.ft_format.specs.declared.object_error.ObjectError.TheVariants as errors
use Rattle.ft_format.specs.declared.header.Header.{Header}
use Rattle.ft_format.specs.declared.version.Version.{Version}
use Rattle.ft_format.specs.Versions.{version_of, longest_name, may_follow}
use Rattle.ft_format.specs.Layout.{cell_layout}
use Rattle.ft_format.specs.Rules.{must, ◌next◌, basic_broken, cell_broken}
use Rattle.ft_format.specs.Rows.{cell_row, cell_rows}
use Rattle.ft_format.specs.Values.{past_of, cell_of, cells_of}
use Rattle.ft_format.specs.Broken.{cells_broken, name_rest_broken, name_bytes_broken, name_broken, names_broken}
use Rattle.ft_format.proofs.Layouts.{Fit, AllFit}
use Rattle.ft_format.proofs.Unbroken.{held, both}
use Rattle.ft_format.proofs.Codes.{le_held, lt_held, eq_held, le_true, lt_true, eq_true, basic_again, basic_fine}
use Rattle.ft_format.proofs.Codes.{basic_back, base_small, type_small}
use Rattle.ft_format.proofs.Versions.{letter_follows, are_bytes_of_name}

-- the rules for a cell, except those for the bytes of its name
pub record IsCellBut (v : Version) (types : ℕ) (c : Cell) : Type 0 where
  pub some : 0 < length c.name
  pub name_length : length c.name ≤ longest_name v
  pub basic : IsBasic types c.basic
  pub init : IsWord c.init

-- two lists of five numbers are equal if their numbers are, one by one
same_five : {a b c d e a' b' c' d' e' : ℕ} → a ≡ a' → b ≡ b' → c ≡ c' → d ≡ d' → e ≡ e' →
    ◌≡◌ {A = List ℕ} (a ∷ b ∷ c ∷ d ∷ e ∷ []) (a' ∷ b' ∷ c' ∷ d' ∷ e' ∷ [])
same_five p q r s t = rw (p, q, r, s, t) refl

-- what holds of a valid cell record and of the cell that it encodes
pub record CellAgain (h : Header) (names : List ℕ) (start : ℕ) (row : List ℕ) : Type 0 where
  pub written : cell_row (past_of row) (cell_of names start row) ≡ row
  pub cell : IsCellBut (version_of h) h.types (cell_of names start row)
  pub past : start + length (cell_of names start row).name ≡ past_of row
  pub within : past_of row ≤ h.names
  pub split : drop start names ≡ (cell_of names start row).name ++ drop (past_of row) names

cell_again : (h : Header) (names : List ℕ) (start at : ℕ) (row : List ℕ) → length names ≡ h.names →
    Fit cell_layout row → cell_broken h start at row ≡ None → CellAgain h names start row
cell_again h names start at (past ∷ refs ∷ base ∷ code_type ∷ init ∷ []) all fit n =
    let basic_rule = basic_broken h.types (at + 4) refs base code_type in
    let longest = longest_name (version_of h) in
    let r1 = both (must (nat_lt start past) (errors.Order at))
    (must (nat_le past h.names) (errors.Order at) next
    (must (nat_le past (start + longest)) (errors.Name at) next basic_rule)) n in
    let r2 = both (must (nat_le past h.names) (errors.Order at))
    (must (nat_le past (start + longest)) (errors.Name at) next basic_rule) r1.1 in
    let r3 = both (must (nat_le past (start + longest)) (errors.Name at)) basic_rule r2.1 in
    let after = lt_held start past (errors.Order at) r1.0 in
    let within = le_held past h.names (errors.Order at) r2.0 in
    let short = le_held past (start + longest) (errors.Name at) r3.0 in
    let basic = basic_again h.types (at + 4) refs base code_type r3.1 in
    let long : length (take (past - start) (drop start names))
    ≡ past - start = length-take-le (past - start) (drop start names) (omega (arith, length-drop start names)) in
    let place : start + (past - start) ≡ past = omega arith in
    record {
      written = same_five refl refl basic.code basic.own refl;
      cell = record { some = omega arith; name_length = omega arith; basic = basic.basic; init = fit.1.1.1.1.0 };
      past = omega arith;
      within = within;
      split = sym (take-append-drop (past - start) (drop start names))
          ∙ ap (λ l. take (past - start) (drop start names) ++ l) (drop-drop (past - start) start names
          ∙ ap (λ k. drop k names) place);
    }
cell_again h names start at [] all fit n = absurd fit
cell_again h names start at (a ∷ []) all fit n = absurd fit.1
cell_again h names start at (a ∷ b ∷ []) all fit n = absurd fit.1.1
cell_again h names start at (a ∷ b ∷ c ∷ []) all fit n = absurd fit.1.1.1
cell_again h names start at (a ∷ b ∷ c ∷ d ∷ []) all fit n = absurd fit.1.1.1.1
cell_again h names start at (a ∷ b ∷ c ∷ d ∷ e ∷ z ∷ zs) all fit n = absurd fit.1.1.1.1.1

-- what holds of valid cell records and of the cells that they encode
pub record CellsAgain (h : Header) (names : List ℕ) (start : ℕ) (rs : List (List ℕ)) : Type 0 where
  pub written : cell_rows start (cells_of names start rs) ≡ rs
  pub cells : AllByRecursion (IsCellBut (version_of h) h.types) (cells_of names start rs)
  pub left : List ℕ
  pub split : drop start names ≡ flat_map name_of (cells_of names start rs) ++ left

pub cells_again : (h : Header) (names : List ℕ) (start at : ℕ) (rs : List (List ℕ)) → length names ≡ h.names →
    AllFit cell_layout rs → cells_broken h start at rs ≡ None → CellsAgain h names start rs
unfolding cells_broken
cells_again h names start at [] all fit n = record { written = refl; cells = tt; left = drop start names; split = refl }
cells_again h names start at (r ∷ rs) all fit n =
    let parts = both (cell_broken h start at r) (cells_broken h (past_of r) (at + 16) rs) n in
    let here = cell_again h names start at r all fit.0 parts.0 in
    let after = cells_again h names (past_of r) (at + 16) rs all fit.1 parts.1 in
    let c = cell_of names start r in
    let cs = cells_of names (past_of r) rs in
    record {
      written = rw (here.past, here.written, after.written) refl;
      cells = (here.cell, after.cells);
      left = after.left;
      split = here.split ∙ ap (λ l. c.name ++ l) after.split
          ∙ sym (append_assoc c.name (flat_map name_of cs) after.left);
    }

-- the records of cells are valid, and decode to these cells
pub record CellsFine (h : Header) (names : List ℕ) (start at : ℕ) (cs : List Cell) : Type 0 where
  pub unbroken : cells_broken h start at (cell_rows start cs) ≡ None
  pub back : cells_of names start (cell_rows start cs) ≡ cs
  pub fit : AllFit cell_layout (cell_rows start cs)

pub cells_fine : (h : Header) (names : List ℕ) (start at : ℕ) (cs : List Cell) → h.types ≤ 4096 → h.names ≤ 40960 →
    length names ≡ h.names → start ≤ h.names → AllByRecursion (IsCellBut (version_of h) h.types) cs → drop start names
    ≡ flat_map name_of cs → CellsFine h names start at cs
unfolding cells_broken
cells_fine h names start at [] m k all le i e = record { unbroken = refl; back = refl; fit = tt }
cells_fine h names start at (c ∷ cs) m k all le i e =
    let past = start + length c.name in
    let own = i.0 in
    let long : length (drop start names) ≡ length c.name + length (flat_map name_of cs) = ap length e
    ∙ length-append c.name (flat_map name_of cs) in
    let within : past ≤ h.names = omega (arith, length-drop start names) in
    let size : past - start ≡ length c.name = omega arith in
    let rest : drop past names ≡ flat_map name_of cs = sym (drop-drop (length c.name) start names)
    ∙ ap (drop (length c.name)) e ∙ drop_at c.name (flat_map name_of cs) (length c.name) refl in
    let name : take (past - start) (drop start names) ≡ c.name = ap (λ n. take n (drop start names)) size
    ∙ ap (take (length c.name)) e ∙ take_at c.name (flat_map name_of cs) (length c.name) refl in
    let after = cells_fine h names past (at + 16) cs m k all within i.1 rest in
    record {
      unbroken = rw (
        lt_true start past (omega (arith, own.some)),
        le_true past h.names within,
        le_true past (start + longest_name (version_of h)) (omega (arith, own.name_length)),
        basic_fine h.types (at + 4) c.basic own.basic,
        after.unbroken,
      ) refl;
      back = rw (name, basic_back c.basic, after.back) refl;
      fit = (
        (
          omega arith,
          (
            omega (arith, own.basic.refs),
            (
              omega (arith, base_small c.basic.base),
              (type_small h.types c.basic.base m own.basic.base, (own.init, tt)),
            ),
          ),
        ),
        after.fit,
      );
    }

-- the cell has a well-formed name that the version allows
pub record IsNamed (v : Version) (c : Cell) : Type 0 where
  pub name : is_name c.name ≡ true
  pub bytes : list_all (may_follow v) c.name ≡ true

-- a name that breaks no rule is well formed, and its bytes are allowed
rest_again : (v : Version) (at : ℕ) (bs : List ℕ) → name_rest_broken v at bs ≡ None → list_all (may_follow v) bs ≡ true
unfolding name_rest_broken
rest_again v at [] n = refl
rest_again v at (b ∷ bs) n =
    let parts = both (must (may_follow v b) (errors.Name at)) (name_rest_broken v (at + 1) bs) n in
    let here : may_follow v b ≡ true = held (may_follow v b) (errors.Name at) parts.0 in
    rw (here, rest_again v (at + 1) bs parts.1) refl

name_again : (v : Version) (at : ℕ) (name : List ℕ) → 0 < length name → name_bytes_broken v at name ≡ None →
    (is_name name ≡ true) × (list_all (may_follow v) name ≡ true)
unfolding name_bytes_broken
name_again v at [] some n = absurd (omega arith)
name_again v at (b ∷ bs) some n =
    let parts = both (must (is_letter b) (errors.Name at)) (name_rest_broken v (at + 1) bs) n in
    let here : is_letter b ≡ true = held (is_letter b) (errors.Name at) parts.0 in
    let rest = rest_again v (at + 1) bs parts.1 in
    (rw (here, are_bytes_of_name v bs rest) refl, rw (letter_follows v b here, rest) refl)

rest_fine : (v : Version) (at : ℕ) (bs : List ℕ) → list_all (may_follow v) bs ≡ true → name_rest_broken v at bs ≡ None
unfolding name_rest_broken
rest_fine v at [] h = refl
rest_fine v at (b ∷ bs) h = let two = and_parts (may_follow v b) (list_all (may_follow v) bs) h in
    rw (two.0, rest_fine v (at + 1) bs two.1) refl

name_fine : (v : Version) (at : ℕ) (name : List ℕ) → is_name name ≡ true → list_all (may_follow v) name ≡ true →
    name_bytes_broken v at name ≡ None
unfolding name_bytes_broken
name_fine v at [] h k = refl
name_fine v at (b ∷ bs) h k =
    let letter = and_parts (is_letter b) (list_all is_name_byte bs) h in
    let rest = and_parts (may_follow v b) (list_all (may_follow v) bs) k in
    rw (letter.0, rest_fine v (at + 1) bs rest.1) refl

none_has : (name : List ℕ) (cs : List Cell) → list_any (λ c. bytes_eq name c.name) cs ≡ false → (k : ℕ) (d : List ℕ) →
    k < length (map name_of cs) → get_or (map name_of cs) k d ≢ name
none_has name [] h k d lt = absurd (omega arith)
none_has name (c ∷ cs) h zero d lt = λ e. absurd (true≢false (sym ((bytes_eq-Decides name c.name).1 (sym e))
    ∙ (or_parts (bytes_eq name c.name) (list_any (λ (x : Cell). bytes_eq name x.name) cs) h).0))
none_has name (c ∷ cs) h (suc k) d lt = none_has name cs
    (or_parts (bytes_eq name c.name) (list_any (λ (x : Cell). bytes_eq name x.name) cs) h).1 k d (omega arith)

differs : (x y : List ℕ) (b : Bool) → bytes_eq x y ≡ b → (x ≡ y → ⊥) → b ≡ false
differs x y true e h = absurd (h ((bytes_eq-Decides x y).0 e))
differs x y false e h = refl

has_none : (name : List ℕ) (cs : List Cell) → ((k : ℕ) (d : List ℕ) → k < length (map name_of cs) →
    get_or (map name_of cs) k d ≢ name) → list_any (λ c. bytes_eq name c.name) cs ≡ false
has_none name [] h = refl
has_none name (c ∷ cs) h =
    let here : bytes_eq name c.name ≡ false = differs name c.name (bytes_eq name c.name) refl (λ e.
    h 0 [] (omega arith) (sym e)) in
    rw (here, has_none name cs (λ k d lt. h (suc k) d (omega arith))) refl

-- what holds of names that break no rule
pub record NamesAgain (v : Version) (end : ℕ) (earlier : List Cell) (at : ℕ) (cs : List Cell) : Type 0 where
  pub named : AllByRecursion (IsNamed v) cs
  pub apart : AllPairs (λ x y. x ≢ y) (map name_of (earlier ++ cs))
  pub ends : at + length (flat_map name_of cs) ≡ end

pub names_again : (v : Version) (types end : ℕ) (earlier : List Cell) (at : ℕ) (cs : List Cell) →
    AllByRecursion (IsCellBut v types) cs → AllPairs (λ x y. x ≢ y) (map name_of earlier) →
    names_broken v end earlier at cs ≡ None → NamesAgain v end earlier at cs
unfolding names_broken
names_again v types end earlier at [] i apart n =
    record {
      named = tt;
      apart = subst (λ l. AllPairs (λ x y. x ≢ y) (map name_of l)) (sym (append-nil earlier)) apart;
      ends = omega (arith, eq_held at end (errors.Order at) n);
    }
names_again v types end earlier at (c ∷ cs) i apart n =
    let rest = names_broken v end (earlier ++ c ∷ []) (at + length c.name) cs in
    let r0 = both (name_broken v earlier at c.name) rest n in
    let r1 = both (name_bytes_broken v at c.name) (must (not (list_any (λ (x : Cell). bytes_eq c.name x.name) earlier))
    (errors.Name at)) r0.0 in
    let fresh = not-true _ (held (not (list_any (λ (x : Cell). bytes_eq c.name x.name) earlier)) (errors.Name at) r1.1)
    in
    let more : AllPairs (λ x y. x ≢ y) (map name_of (earlier ++ c ∷ [])) =
    subst (AllPairs (λ x y. x ≢ y)) (sym (map-append name_of earlier (c ∷ [])))
    (all_pairs_push (λ x y. x ≢ y) (map name_of earlier) c.name apart (none_has c.name earlier fresh)) in
    let own = name_again v at c.name i.0.some r1.0 in
    let after = names_again v types end (earlier ++ c ∷ []) (at + length c.name) cs i.1 more r0.1 in
    record {
      named = (record { name = own.0; bytes = own.1 }, after.named);
      apart = subst (λ l. AllPairs (λ x y. x ≢ y) (map name_of l)) (append_assoc earlier (c ∷ []) cs) after.apart;
      ends = omega (arith, after.ends, length-append c.name (flat_map name_of cs));
    }

-- distinct, well-formed names break no rule
pub names_fine : (v : Version) (end : ℕ) (earlier : List Cell) (at : ℕ) (cs : List Cell) →
    AllByRecursion (IsNamed v) cs → AllPairs (λ x y. x ≢ y) (map name_of (earlier ++ cs)) →
    at + length (flat_map name_of cs) ≡ end
    → names_broken v end earlier at cs ≡ None
unfolding names_broken
names_fine v end earlier at [] named apart e = rw (eq_true at end (omega (arith, e))) refl
names_fine v end earlier at (c ∷ cs) named apart e =
    let all = map name_of earlier ++ c.name ∷ map name_of cs in
    let is : map name_of (earlier ++ c ∷ cs) ≡ all = map-append name_of earlier (c ∷ cs) in
    let pairs : AllPairs (λ x y. x ≢ y) all = subst (AllPairs (λ x y. x ≢ y)) is apart in
    let own : (d : List ℕ) → get_or all (length (map name_of earlier)) d ≡ c.name = λ d.
    get_or_at (map name_of earlier) c.name (map name_of cs) d (length (map name_of earlier)) refl in
    let fresh : list_any (λ (x : Cell). bytes_eq c.name x.name) earlier ≡ false =
    has_none c.name earlier (λ k d lt same. pairs k (length (map name_of earlier)) d lt
    (omega (arith, length-append (map name_of earlier) (c.name ∷ map name_of cs)))
    (get_or_append_left (map name_of earlier) (c.name ∷ map name_of cs) d k lt ∙ same ∙ sym (own d))) in
    let after = names_fine v end (earlier ++ c ∷ []) (at + length c.name) cs named.1
    (subst (λ l. AllPairs (λ x y. x ≢ y) (map name_of l)) (sym (append_assoc earlier (c ∷ []) cs)) apart)
    (omega (arith, e, length-append c.name (flat_map name_of cs))) in
    rw (name_fine v at c.name named.0.name named.0.bytes, fresh, after) refl
