-- Ends of rows, one type after the other.
use Rattle.std.proofs.Common.{length, ◌≡◌, ℕ, zero, suc, ◌+◌, ◌-◌, ◌≤◌, List, ◌∷◌, take, drop, Option, None, Result, Ok}
use Rattle.std.proofs.Common.{Err, refl, sym, ap, ◌∙◌, subst, arith}
use Rattle.std.specs.Int.{Width}
use Rattle.std.proofs.lemmas.List.{drop-drop}
use Rattle.ft_types.specs.declared.object.RegType.{RegType}
use Rattle.ft_format.specs.Values.{past_of, regs_end_of, queue_end_of, type_memory_of, type_ints_of, types_of}
use Rattle.ft_format.specs.Layout.{size, numbers, rows, type_layout, cell_layout}
use Rattle.std.proofs.lemmas.Bool.Decides.{nat_tests}
use Rattle.ft_static.specs.declared.node.Node.{Node}
use Rattle.ft_format.specs.declared.header.Header.{Header}
use Rattle.ft_format.specs.declared.object_error.ObjectError.{ObjectError}
use Rattle.ft_view.specs.Found.{Finds}
use Rattle.std.specs.Prelude.{OnOk}
use Rattle.ft_format.specs.Rules.{type_broken, cell_broken}
use Rattle.ft_format.specs.Broken.{types_broken, cells_broken}
use Rattle.ft_view.specs.Ends.{AreEnds}
use Rattle.ft_format.proofs.Unbroken.{both}
use Rattle.ft_format.proofs.Shapes.{shape_5, shape_7}
use Rattle.ft_format.proofs.Layouts.{rows_more}

-- the first record's end is within the bounds, and the other ends do not decrease from there
pub first_end : (end_of : List ℕ → ℕ) (all start : ℕ) (ws : List Width) (m n : ℕ) (bs row : List ℕ) → m ≡ suc n → row
    ≡ numbers ws (take (size ws) bs)
    → AreEnds end_of all start (rows ws m bs) → (start ≤ end_of row) × (end_of row ≤ all)
    × AreEnds end_of all (end_of row) (rows ws n (drop (size ws) bs))
unfolding AreEnds
first_end end_of all start ws m n bs row e is h =
    subst (AreEnds end_of all start) (rows_more ws m n bs e ∙ ap (λ r. r ∷ rows ws n (drop (size ws) bs)) (sym is)) h

-- the first code type takes its rows, and leaves the others to the next
pub types_more : (from queue_from : ℕ) (row : List ℕ) (rest : List (List ℕ)) (regs : List RegType)
    (queue : List (ℕ × ℕ)) (own_regs : List RegType) (own_queue : List (ℕ × ℕ))
    → from ≤ regs_end_of row → queue_from ≤ queue_end_of row
    → own_regs ≡ take (regs_end_of row - from) (drop from regs) → own_queue
    ≡ take (queue_end_of row - queue_from) (drop queue_from queue)
    → types_of from queue_from (row ∷ rest) (drop from regs) (drop queue_from queue)
    ≡ record { ints = type_ints_of row; regs = own_regs; queue = own_queue; memory = type_memory_of row }
    ∷ types_of (regs_end_of row) (queue_end_of row) rest (drop (regs_end_of row) regs) (drop (queue_end_of row) queue)
types_more from queue_from row rest regs queue own_regs own_queue le queue_le p q =
    let a : from + (regs_end_of row - from) ≡ regs_end_of row = omega arith in
    let b : queue_from + (queue_end_of row - queue_from) ≡ queue_end_of row = omega arith in
    let k : drop (regs_end_of row - from) (drop from regs) ≡ drop (regs_end_of row) regs =
    drop-drop (regs_end_of row - from) from regs ∙ ap (λ n. drop n regs) a in
    let l : drop (queue_end_of row - queue_from) (drop queue_from queue) ≡ drop (queue_end_of row) queue =
    drop-drop (queue_end_of row - queue_from) queue_from queue ∙ ap (λ n. drop n queue) b in
    rw (k, l, p, q) refl

-- if a type breaks no rule, the ends of its rows are within the bounds
type_ends : (h : Header) (nodes : List Node) (regs queue at : ℕ) (row : List ℕ) → length row ≡ 7 →
    type_broken h nodes regs queue at row ≡ None
    → (regs ≤ regs_end_of row) × (regs_end_of row ≤ h.regs) × (queue ≤ queue_end_of row) × (queue_end_of row ≤ h.queue)
type_ends h nodes regs queue at row seven =
    shape_7 (λ r. type_broken h nodes regs queue at r ≡ None → (regs ≤ regs_end_of r) × (regs_end_of r ≤ h.regs)
    × (queue ≤ queue_end_of r) × (queue_end_of r ≤ h.queue))
    (λ a b c d e f g none. (
      grind (arith, nat_tests),
      grind (arith, nat_tests),
      grind (arith, nat_tests),
      grind (arith, nat_tests),
    )) row seven

-- if types break no rule, the ends of their rows do not decrease
pub ends_of_types : (h : Header) (nodes : List Node) (n : ℕ) (bs : List ℕ) (regs queue at : ℕ) →
    types_broken h nodes regs queue at (rows type_layout n bs) ≡ None
    → AreEnds regs_end_of h.regs regs (rows type_layout n bs)
    × AreEnds queue_end_of h.queue queue (rows type_layout n bs)
unfolding rows numbers types_broken AreEnds
ends_of_types h nodes zero bs regs queue at none = (tt, tt)
ends_of_types h nodes (suc n) bs regs queue at none =
    let row = numbers type_layout (take 16 bs) in
    let rest = rows type_layout n (drop 16 bs) in
    let parts = both (type_broken h nodes regs queue at row)
    (types_broken h nodes (regs_end_of row) (queue_end_of row) (at + 16) rest) none in
    let here = type_ends h nodes regs queue at row refl parts.0 in
    let after = ends_of_types h nodes n (drop 16 bs) (regs_end_of row) (queue_end_of row) (at + 16) parts.1 in
    ((here.0, here.1, after.0), (here.2, here.3, after.1))

-- if cells break no rule, the ends of their names do not decrease
cell_ends : (h : Header) (start at : ℕ) (row : List ℕ) → length row ≡ 5 → cell_broken h start at row ≡ None →
    (start ≤ past_of row) × (past_of row ≤ h.names)
cell_ends h start at row five =
    shape_5 (λ r. cell_broken h start at r ≡ None → (start ≤ past_of r) × (past_of r ≤ h.names)) (λ a b c d e none.
    (grind (arith, nat_tests), grind (arith, nat_tests))) row five

pub ends_of_cells : (h : Header) (n : ℕ) (bs : List ℕ) (start at : ℕ) → cells_broken h start at (rows cell_layout n bs)
    ≡ None → AreEnds past_of h.names start (rows cell_layout n bs)
unfolding rows numbers cells_broken AreEnds
ends_of_cells h zero bs start at none = tt
ends_of_cells h (suc n) bs start at none =
    let row = numbers cell_layout (take 16 bs) in
    let rest = rows cell_layout n (drop 16 bs) in
    let parts = both (cell_broken h start at row) (cells_broken h (past_of row) (at + 16) rest) none in
    let here = cell_ends h start at row refl parts.0 in
    (here.0, here.1, ends_of_cells h n (drop 16 bs) (past_of row) (at + 16) parts.1)

-- what holds if no rule is broken holds if a reader found no broken rule
pub found_fine : {X : Type 0} (r : Result X ObjectError) (rule : Option ObjectError) (P : Type 0) → Finds r rule →
    (rule ≡ None → P) → OnOk r P
found_fine (Ok x) rule P h f = f h
found_fine (Err e) rule P h f = tt
