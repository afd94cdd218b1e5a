-- Declared cells have different, valid names.
use Rattle.std.proofs.Common.{◌≡◌, ◌≢◌, ℕ, zero, suc, ◌+◌, ◌≤◌, Bool, true, false, cond, ◌&&◌, List, [], ◌∷◌, ◌++◌}
use Rattle.std.proofs.Common.{length, map, Option, Some, None, refl, sym, ap, ◌∙◌, subst, arith, rules, append_assoc}
use Rattle.std.proofs.Common.{length-append, get_or}
use Rattle.std.specs.Prelude.{All, is_some, nat_lt, if◌then◌else◌}
use Rattle.std.specs.List.{AllPairs, list_all}
use Rattle.std.specs.Str.{bytes_eq}
use Rattle.std.proofs.lemmas.Bool.{and_parts, and_from, ltb-true, lt-ltb, eqb-true}
use Rattle.std.proofs.lemmas.List.{map-append, append-nil}
use Rattle.ft_isa.specs.Words.{IsWord}
use Rattle.ft_isa.proofs.Lists.{all_append}
use Rattle.ft_lexer.specs.Bytes.{is_letter, is_name_byte}
use Rattle.ft_lexer.proofs.FitLexemes.{IsNameText}
use Rattle.ft_syntax.specs.Syntax.{Named, cell, var, array}
use Rattle.ft_syntax.specs.Syntax as syntax
use Rattle.ft_syntax.proofs.FitTrees.{IsFitDeclaration}
use Rattle.ft_scope.specs.declared.slot.Slot.{Slot}
use Rattle.ft_scope.specs.declared.slot.Slot.TheVariants as slots
use Rattle.ft_scope.specs.CellNames.{array_names, cell_names}
use Rattle.ft_scope.specs.Scope.{declared_name, found_after, find, repeated, is_length, wrong_length}
use Rattle.ft_scope.proofs.MadeCells.{array_length}
use Rattle.ft_scope.proofs.LawfulNames.{names_lawful, names_differ}
use Rattle.ft_compile.specs.Cells.{IsCellName, AreCells}
use Rattle.ft_compile.proofs.Names.{names_same}
use Rattle.ft_flow.specs.Fields.{is_plain_name, index_of}
use Rattle.ft_flow.specs.Heads.{Declaration, Declared, none_declared, many_fit, declared_cells, with_declaration}
use Rattle.ft_flow.specs.Lawful.{text_of, IsLawful}

-- no declaration
pub none_lawful : IsLawful none_declared
none_lawful = record {
  like = [];
  names = refl;
  cells = refl;
  fit = tt;
  lengths = refl;
  once = refl;
  many = refl;
  few = omega arith;
}

-- the declaration of a source with the same name
abbrev named_as : List ℕ → Named
named_as text = record { text = text; at = 0 }

abbrev like_of : Bool → List ℕ → ℕ → syntax.Declared
like_of false text n = cell (named_as text) 0
like_of true text n = array (named_as text) n 0 0

-- the cells of one more declaration come last
cells_push : (ds : List syntax.Declared) (x : syntax.Declared) → cell_names (ds ++ x ∷ []) ≡ cell_names ds
    ++ cell_names (x ∷ [])
cells_push [] x = refl
cells_push (cell n w ∷ ds) x = ap (λ l. n.text ∷ l) (cells_push ds x)
cells_push (var n ∷ ds) x = cells_push ds x
cells_push (array n l at w ∷ ds) x =
    ap (λ r. array_names n.text 0 l ++ r) (cells_push ds x)
    ∙ sym (append_assoc (array_names n.text 0 l) (cell_names ds) (cell_names (x ∷ [])))

-- the lengths of one more declaration
lengths_push : (ds : List syntax.Declared) (x : syntax.Declared) → wrong_length ds ≡ None → wrong_length (x ∷ [])
    ≡ None →
    wrong_length (ds ++ x ∷ []) ≡ None
lengths_push [] x h e = e
lengths_push (cell n w ∷ ds) x h e = lengths_push ds x h e
lengths_push (var n ∷ ds) x h e = lengths_push ds x h e
lengths_push (array n l at w ∷ ds) x h e = by (is_length l) (λ g. lengths_push ds x g e) h
  where
    by : (b : Bool) → (wrong_length ds ≡ None → wrong_length (ds ++ x ∷ []) ≡ None) →
        cond b (wrong_length ds) (Some at) ≡ None → cond b (wrong_length (ds ++ x ∷ [])) (Some at) ≡ None
    by true next g = next g
    by false next g = g

-- a text that is none of the names is not found
not_found : (ds : List syntax.Declared) (c v : ℕ) (text : List ℕ) →
    length (map text_of ds) ≤ index_of (map text_of ds) text →
    found_after c v ds text ≡ None
not_found [] c v text le = refl
not_found (cell n w ∷ ds) c v text le = by (bytes_eq n.text text) (λ h. not_found ds (c + 1) v text h) le
  where
    by : (b : Bool) → (length (map text_of ds) ≤ index_of (map text_of ds) text → found_after (c + 1) v ds text
        ≡ None) →
        length (n.text ∷ map text_of ds) ≤ (if b then 0 else suc (index_of (map text_of ds) text)) →
        cond b (Some (slots.Cell c)) (found_after (c + 1) v ds text) ≡ None
    by true next le = absurd (omega (arith, le))
    by false next le = next (omega (arith, le))
not_found (var n ∷ ds) c v text le = by (bytes_eq n.text text) (λ h. not_found ds c (v + 1) text h) le
  where
    by : (b : Bool) → (length (map text_of ds) ≤ index_of (map text_of ds) text → found_after c (v + 1) ds text
        ≡ None) →
        length (n.text ∷ map text_of ds) ≤ (if b then 0 else suc (index_of (map text_of ds) text)) →
        cond b (Some (slots.Var v)) (found_after c (v + 1) ds text) ≡ None
    by true next le = absurd (omega (arith, le))
    by false next le = next (omega (arith, le))
not_found (array n l at w ∷ ds) c v text le = by (bytes_eq n.text text) (λ h. not_found ds (c + l) v text h) le
  where
    by : (b : Bool) → (length (map text_of ds) ≤ index_of (map text_of ds) text → found_after (c + l) v ds text
        ≡ None) →
        length (n.text ∷ map text_of ds) ≤ (if b then 0 else suc (index_of (map text_of ds) text)) →
        cond b (Some (slots.Run c l)) (found_after (c + l) v ds text) ≡ None
    by true next le = absurd (omega (arith, le))
    by false next le = next (omega (arith, le))

-- one more name is declared once, if it was not found before
once_push : (before ds : List syntax.Declared) (x : syntax.Declared) → repeated before ds ≡ None →
    find (before ++ ds) (declared_name x).text ≡ None → repeated before (ds ++ x ∷ []) ≡ None
once_push before [] x h e =
    ap (λ (o : Option Slot). cond (is_some o) (Some (declared_name x).at) None)
    (ap (λ l. find l (declared_name x).text) (sym (append-nil before)) ∙ e)
once_push before (d ∷ ds) x h e =
    by (is_some (find before (declared_name d).text))
    (λ g. once_push (before ++ d ∷ []) ds x g (ap (λ l. find l (declared_name x).text) (append_assoc before (d ∷ []) ds)
    ∙ e))
    h
  where
    by : (b : Bool) → (repeated (before ++ d ∷ []) ds ≡ None → repeated (before ++ d ∷ []) (ds ++ x ∷ []) ≡ None) →
        cond b (Some (declared_name d).at) (repeated (before ++ d ∷ []) ds) ≡ None →
        cond b (Some (declared_name d).at) (repeated (before ++ d ∷ []) (ds ++ x ∷ [])) ≡ None
    by true next g = g
    by false next g = next g

-- a plain name is the text of a name
name_text : (t : List ℕ) → is_plain_name t ≡ true → IsNameText t
name_text [] e = absurd (search (rules, e))
name_text (b ∷ bs) e =
    let p = and_parts (is_letter b && list_all is_name_byte bs) (nat_lt (length bs) 32) e in
    let lt = ltb-true (length bs) 32 p.1 in
    record { word = p.0; short = omega (arith, lt) }

-- the cells of a declaration are those of the declaration of a source, as many as its words, and it fits
record IsLike (t : Declaration) (x : syntax.Declared) : Type 0 where
  cells : declared_cells t ≡ cell_names (x ∷ [])
  fit : IsFitDeclaration x
  lengths : wrong_length (x ∷ []) ≡ None
  text : text_of x ≡ t.name
  many : length (declared_cells t) ≡ length t.words

like_by : (b : Bool) (name : List ℕ) (words : List ℕ) → is_plain_name name ≡ true → many_fit b (length words) ≡ true →
    length words ≤ 1024 → IsLike (record { array = b; name = name; words = words }) (like_of b name (length words))
like_by false name words plain fit few = record {
  cells = refl;
  fit = (name_text name plain, omega arith);
  lengths = refl;
  text = refl;
  many = sym (eqb-true (length words) 1 fit);
}
like_by true name words plain fit few = record {
  cells = sym (append-nil (array_names name 0 (length words)));
  fit = (name_text name plain, omega arith);
  lengths = ap (λ b. cond b None (Some 0)) (and_from (nat_lt 0 (length words)) (nat_lt (length words) 1025) fit
      (lt-ltb (length words) 1025 (omega (arith, few))));
  text = refl;
  many = array_length name 0 (length words);
}

-- one more declaration
pub more_lawful : (d : Declared) (t : Declaration) → IsLawful d → is_plain_name t.name ≡ true →
    length d.names ≤ index_of d.names t.name → many_fit t.array (length t.words) ≡ true →
    length d.inits + length t.words ≤ 1024 → IsLawful (with_declaration d t)
more_lawful d t L plain new fit few =
    let x = like_of t.array t.name (length t.words) in
    let K : IsLike t x = like_by t.array t.name t.words plain fit (omega (arith, few)) in
    let unseen : length (map text_of L.like) ≤ index_of (map text_of L.like) t.name =
    subst (λ ns. length ns ≤ index_of ns t.name) L.names new in
    record {
      like = L.like ++ x ∷ [];
      names = ap (λ l. l ++ t.name ∷ []) L.names ∙ ap (λ n. map text_of L.like ++ n ∷ []) (sym K.text)
          ∙ sym (map-append text_of L.like (x ∷ []));
      cells = ap (λ l. l ++ declared_cells t) L.cells ∙ ap (λ l. cell_names L.like ++ l) K.cells
          ∙ sym (cells_push L.like x);
      fit = all_append IsFitDeclaration L.like (x ∷ []) L.fit (K.fit, tt);
      lengths = lengths_push L.like x L.lengths K.lengths;
      once = once_push [] L.like x L.once (ap (find L.like) K.text ∙ not_found L.like 0 0 t.name unseen);
      many = omega (arith, length-append d.cells (declared_cells t), length-append d.inits t.words, L.many, K.many);
      few = omega (arith, length-append d.inits t.words, few);
    }

-- lawful declarations declare cells of an object
pub cells_lawful : (d : Declared) → IsLawful d → All IsWord d.inits → AreCells d.cells d.inits
cells_lawful d L words =
    let names = names_lawful L.like L.fit L.lengths in
    record {
      lawful = subst (All IsCellName) (sym L.cells) (λ k e lt.
          let name = names k e lt in
          record {
            bytes = sym (names_same (get_or (cell_names L.like) k e)) ∙ name.bytes;
            short = omega (arith, name.short);
          });
      differ = subst (AllPairs (λ x y. x ≢ y)) (sym L.cells) (names_differ L.like L.fit L.lengths L.once);
      as_many = L.many;
      few = L.few;
      words = words;
    }
