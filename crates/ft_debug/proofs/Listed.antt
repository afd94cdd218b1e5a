-- Finding cells by name, and writing the store queue.
use Rattle.std.proofs.Common.{◌≡◌, ℕ, suc, ◌+◌, ◌<◌, ◌≤◌, Bool, true, false, cond, List, [], ◌∷◌, ◌++◌, length, map}
use Rattle.std.proofs.Common.{take, drop, get_or, Option, Some, None, nat_lt, refl, ap, sym, ◌∙◌, subst, ⊎_elim, arith}
use Rattle.std.specs.Prelude.{slice_get}
use Rattle.std.specs.List.{position_or_len}
use Rattle.std.specs.Option.{option_map}
use Rattle.std.proofs.Math.Seq.{split_at}
use Rattle.std.proofs.lemmas.Bool.{lt-ltb, cases_lt}
use Rattle.std.proofs.lemmas.Bool.Decides.{nat_tests}
use Rattle.std.proofs.lemmas.Slice.Eq.{bytes_eq-Decides}
use Rattle.std.proofs.lemmas.List.{take_more, take_all, map-append}
use Rattle.std.proofs.lemmas.List.Elements.{All-get_or}
use Rattle.std.proofs.lemmas.List.Sums.{position_or_len_is}
use Rattle.std.proofs.lemmas.Option.{get_or_from_slice_get, slice_get_within}
use Rattle.ft_isa.specs.Pending.{Pending}
use Rattle.ft_isa.specs.declared.basic.Base.TheVariants.{Int}
use Rattle.ft_edge.specs.Lines.{BreaksOff, with_lines}
use Rattle.ft_edge.specs.Logs.{SinkLog}
use Rattle.ft_edge.proofs.Lines.{lines_then, breaks_then, breaks_before}
use Rattle.ft_types.specs.declared.object.Object.{Object}
use Rattle.ft_types.specs.declared.object.Cell.{Cell}
use Rattle.ft_types.specs.Objects.{name_of}
use Rattle.ft_types.specs.Spellable.{IsSpellable, IsCell}
use Rattle.ft_debug.specs.Sessions.{is_named, named_cell, entry_line, queue_lines}

-- CELLS

-- none of the first k cells has the name
abbrev pub NoneNamed : Object → List ℕ → ℕ → Type 0
NoneNamed o name k = (j : ℕ) (d : Cell) → j < k → is_named name (get_or o.cells j d) ≡ false

has_name : (c : Option Cell) (n : List ℕ) → option_map name_of c ≡ Some n → (x : Cell) × (c ≡ Some x) × (name_of x ≡ n)
has_name None n e = absurd (cc)
has_name (Some x) n e = (x, refl, cc)

pub found_name : (o : Object) (name n : List ℕ) (k : ℕ) → option_map name_of (slice_get o.cells k) ≡ Some n → n ≡ name →
    NoneNamed o name k → named_cell o name ≡ Some k
found_name o name n k e same none =
    let c = has_name (slice_get o.cells k) n e in
    let below : k < length o.cells = slice_get_within o.cells k c.0 c.1 in
    let named : is_named name (get_or o.cells k c.0)
    ≡ true = ap (is_named name) (get_or_from_slice_get o.cells k c.0 c.0 c.1)
    ∙ (bytes_eq-Decides _ _).1 (c.2 ∙ same) in
    let at : position_or_len (is_named name) o.cells
    ≡ k = position_or_len_is (is_named name) o.cells k c.0 (omega arith) (λ j l. none j c.0 l) (λ l. named) in
    ap (λ m. cond (nat_lt m (length o.cells)) (Some m) None) at
    ∙ ap (λ t. cond t (Some k) None) (lt-ltb k (length o.cells) below)

pub short_name : (o : Object) (name n : List ℕ) (k : ℕ) → IsSpellable o → option_map name_of (slice_get o.cells k)
    ≡ Some n → n ≡ name → length name ≤ 40
short_name o name n k ok e same =
    let c = has_name (slice_get o.cells k) n e in
    let x = All-get_or (IsCell (length o.types)) o.cells k c.0 (slice_get_within o.cells k c.0 c.1) ok.cells in
    let whole : (get_or o.cells k c.0).name ≡ name = ap name_of (get_or_from_slice_get o.cells k c.0 c.0 c.1) ∙ c.2
    ∙ same in
    subst (λ (l : List ℕ). length l ≤ 40) whole x.name_length

false_of : (b : Bool) → ¬ (b ≡ true) → b ≡ false
false_of true h = absurd (h refl)
false_of false h = refl

pub other_name : (o : Object) (name n : List ℕ) (k : ℕ) → option_map name_of (slice_get o.cells k) ≡ Some n →
    ¬ (n ≡ name) → NoneNamed o name k → NoneNamed o name (k + 1)
other_name o name n k e other none = λ j d l.
    ⊎_elim (λ (b : j < k). none j d b)
    (λ (at : k ≤ j).
    let c = has_name (slice_get o.cells k) n e in
    let here : j ≡ k = omega arith in
    ap (λ i. is_named name (get_or o.cells i d)) here ∙ ap (is_named name) (get_or_from_slice_get o.cells k c.0 d c.1)
    ∙ false_of _ (λ t. other (sym c.2 ∙ (bytes_eq-Decides _ _).0 t)))
    (cases_lt j k)

pub no_name : (o : Object) (name : List ℕ) (k : ℕ) → length o.cells ≤ k → NoneNamed o name k → named_cell o name ≡ None
no_name o name k le none =
    let d : Cell = record { name = []; basic = record { refs = 0; base = Int }; init = 0 } in
    let at : position_or_len (is_named name) o.cells
    ≡ length o.cells = position_or_len_is (is_named name) o.cells (length o.cells) d (omega arith) (λ j l.
    none j d (omega arith)) (λ l. absurd (omega arith)) in
    ap (λ m. cond (nat_lt m (length o.cells)) (Some m) None) at
    ∙ ap (λ t. cond t (Some (length o.cells)) None) (not_below (length o.cells))
  where
    not_below : (n : ℕ) → nat_lt n n ≡ false
    not_below n = grind (arith, nat_tests)

-- THE QUEUE

-- the lines of the first i entries were written
abbrev pub PutsEntries : Pending → ℕ → SinkLog → SinkLog → Type 0
PutsEntries q i old new = new ≡ with_lines (map entry_line (take i q)) old

pub entries_more : (q : Pending) (i : ℕ) (e : ℕ × ℕ) (old mid new : SinkLog) → slice_get q i ≡ Some e
    → PutsEntries q i old mid
    → new ≡ with_lines (entry_line e ∷ []) mid → PutsEntries q (i + 1) old new
entries_more q i e old mid new there before here =
    let next : take (i + 1) q ≡ take i q ++ e ∷ [] = take_more q i e (slice_get_within q i e there)
    ∙ ap (λ x. take i q ++ x ∷ []) (get_or_from_slice_get q i e e there) in
    lines_then (map entry_line (take i q)) (entry_line e ∷ []) old mid new before here
    ∙ ap (λ ls. with_lines ls old) (sym (ap (map entry_line) next ∙ map-append entry_line (take i q) (e ∷ [])))

some_lines : (q : Pending) → ¬ (q ≡ []) → queue_lines q ≡ map entry_line q
some_lines [] ne = absurd (ne refl)
some_lines (e ∷ q) ne = refl

pub entries_break : (q : Pending) (i : ℕ) (e : ℕ × ℕ) (old mid new : SinkLog) → ¬ (q ≡ []) → slice_get q i ≡ Some e
    → PutsEntries q i old mid
    → BreaksOff (entry_line e ∷ []) mid new → BreaksOff (queue_lines q) old new
entries_break q i e old mid new ne there before here =
    let whole : q ≡ take i q ++ e ∷ drop (suc i) q = split_at q i e (slice_get_within q i e there)
    ∙ ap (λ x. take i q ++ x ∷ drop (suc i) q) (get_or_from_slice_get q i e e there) in
    let more = map entry_line (drop (suc i) q) in
    let lines = some_lines q ne ∙ ap (map entry_line) whole ∙ map-append entry_line (take i q) (e ∷ drop (suc i) q) in
    subst (λ ls. BreaksOff ls old new) (sym lines) (breaks_then (map entry_line (take i q)) (entry_line e ∷ more) old
    mid new before (breaks_before (entry_line e ∷ []) more mid new here))

pub entries_all : (q : Pending) (i : ℕ) (old new : SinkLog) → ¬ (q ≡ []) → length q ≤ i → PutsEntries q i old new
    → new ≡ with_lines (queue_lines q) old
entries_all q i old new ne le h =
    h ∙ ap (λ ls. with_lines ls old) (sym (some_lines q ne ∙ ap (map entry_line) (sym (take_all i q le))))
