-- The element at a given position of a list of rows, cells or types, or of a type's rows.
use Rattle.std.proofs.Common.{◌≡◌, ℕ, zero, suc, ◌+◌, ◌-◌, ◌<◌, ◌≤◌, List, [], ◌∷◌, length, map, take, drop, Some, refl}
use Rattle.std.proofs.Common.{sym, ap, ◌∙◌, subst, arith}
use Rattle.std.specs.Prelude.{slice_get}
use Rattle.std.specs.Option.{option_map}
use Rattle.std.proofs.lemmas.List.{length-take-le, length-drop}
use Rattle.std.proofs.lemmas.Option.{slice_get-map}
use Rattle.ft_isa.proofs.Lists.{get_taken, get_dropped}
use Rattle.ft_types.specs.declared.object.CodeType.{CodeType}
use Rattle.ft_types.specs.declared.object.RegType.{RegType}
use Rattle.ft_format.specs.Values.{past_of, cell_of, cells_of, regs_end_of, queue_end_of, type_ints_of, type_memory_of}
use Rattle.ft_format.specs.Values.{types_of}
use Rattle.ft_view.specs.Ends.{AreEnds}
use Rattle.ft_view.specs.Viewed.{last_end}
use Rattle.ft_view.proofs.EndsRise.{types_more}

-- the value at a position is the one that the record at this position encodes
pub mapped : {X : Type 0} (v : List ℕ → X) (rs : List (List ℕ)) (i : ℕ) (row : List ℕ) (x : X) → slice_get rs i
    ≡ Some row → x ≡ v row → slice_get (map v rs) i ≡ Some x
mapped v rs i row x there is = slice_get-map v rs i ∙ ap (option_map v) there ∙ ap Some (sym is)

-- the rows of the records up to and including record k end where the rows of record k end
pub last_at : (end_of : List ℕ → ℕ) (start : ℕ) (rs : List (List ℕ)) (k : ℕ) (row : List ℕ) → slice_get rs k
    ≡ Some row → last_end end_of start (take (suc k) rs) ≡ end_of row
last_at end_of start [] k row e = absurd (cc)
last_at end_of start (r ∷ rs) zero row e = let same : r ≡ row = cc in ap end_of same
last_at end_of start (r ∷ rs) (suc k) row e = last_at end_of (end_of r) rs k row e

pub ends_at : (end_of : List ℕ → ℕ) (all start : ℕ) (rs : List (List ℕ)) (k : ℕ) (row : List ℕ) →
    AreEnds end_of all start rs → slice_get rs k ≡ Some row → (last_end end_of start (take k rs) ≤ end_of row)
    × (end_of row ≤ all)
unfolding AreEnds
ends_at end_of all start [] k row h e = absurd (cc)
ends_at end_of all start (r ∷ rs) zero row h e = let same : r ≡ row = cc in
    (subst (λ x. start ≤ end_of x) same h.0, subst (λ x. end_of x ≤ all) same h.1)
ends_at end_of all start (r ∷ rs) (suc k) row h e = ends_at end_of all (end_of r) rs k row h.2 e

-- cell k is the one that record k encodes, and its name begins where the names before it end
pub cell_at : (names : List ℕ) (start : ℕ) (rs : List (List ℕ)) (k : ℕ) (row : List ℕ) → slice_get rs k ≡ Some row →
    slice_get (cells_of names start rs) k ≡ Some (cell_of names (last_end past_of start (take k rs)) row)
cell_at names start [] k row e = absurd (cc)
cell_at names start (r ∷ rs) zero row e = let same : r ≡ row = cc in ap (λ x. Some (cell_of names start x)) same
cell_at names start (r ∷ rs) (suc k) row e = cell_at names (past_of r) rs k row e

-- the type that a record encodes, if the rows before it end at these places
abbrev pub type_taken : ℕ → ℕ → List ℕ → List RegType → List (ℕ × ℕ) → CodeType
type_taken from queue_from row regs queue = record {
  ints = type_ints_of row;
  regs = take (regs_end_of row - from) (drop from regs);
  queue = take (queue_end_of row - queue_from) (drop queue_from queue);
  memory = type_memory_of row;
}

pub type_at : (from queue_from all queue_all : ℕ) (rs : List (List ℕ)) (t : ℕ) (row : List ℕ) (regs : List RegType)
    (queue : List (ℕ × ℕ)) → AreEnds regs_end_of all from rs → AreEnds queue_end_of queue_all queue_from rs →
    slice_get rs t ≡ Some row
    → slice_get (types_of from queue_from rs (drop from regs) (drop queue_from queue)) t
    ≡ Some (type_taken (last_end regs_end_of from (take t rs)) (last_end queue_end_of queue_from (take t rs)) row regs
    queue)
unfolding AreEnds
type_at from queue_from all queue_all [] t row regs queue h q e = absurd (cc)
type_at from queue_from all queue_all (r ∷ rs) zero row regs queue h q e = let same : r ≡ row = cc in
    ap (λ x. Some (type_taken from queue_from x regs queue)) same
type_at from queue_from all queue_all (r ∷ rs) (suc t) row regs queue h q e =
    ap (λ l. slice_get l (suc t)) (types_more from queue_from r rs regs queue
    (take (regs_end_of r - from) (drop from regs)) (take (queue_end_of r - queue_from) (drop queue_from queue)) h.0
    q.0 refl refl)
    ∙ type_at (regs_end_of r) (queue_end_of r) all queue_all rs t row regs queue h.2 q.2 e

-- row j of a type is row `from` + j of all rows
pub taken_at : {X : Type 0} (from past j : ℕ) (xs : List X) (x : X) → from + j < past → slice_get xs (from + j)
    ≡ Some x → slice_get (take (past - from) (drop from xs)) j ≡ Some x
taken_at from past j xs x lt there = get_taken (past - from) (drop from xs) j (omega arith) ∙ get_dropped from xs j
    ∙ there

-- a type takes as many rows as there are between its bounds
pub taken_count : {X : Type 0} (from past : ℕ) (xs : List X) → from ≤ past → past ≤ length xs →
    length (take (past - from) (drop from xs)) ≡ past - from
taken_count from past xs le within = length-take-le (past - from) (drop from xs) (omega (arith, length-drop from xs))
