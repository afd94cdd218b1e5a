-- A bound on the size of the cells' names.
use Rattle.std.proofs.Common.{◌≡◌, ℕ, zero, suc, ◌+◌, ◌-◌, ◌<◌, ◌≤◌, List, length, take, drop, None, refl, arith}
use Rattle.std.specs.List.{sum_by}
use Rattle.std.proofs.lemmas.Bool.Decides.{nat_tests}
use Rattle.std.proofs.lemmas.List.{length-take}
use Rattle.std.proofs.lemmas.List.Sums.{sum_by-cons}
use Rattle.ft_types.specs.declared.object.Cell.{Cell}
use Rattle.ft_types.specs.Objects.{name_of}
use Rattle.ft_format.specs.declared.header.Header.{Header}
use Rattle.ft_format.specs.Layout.{rows, numbers, cell_layout}
use Rattle.ft_format.specs.Rules.{cell_broken}
use Rattle.ft_format.specs.Values.{past_of, cell_of, cells_of}
use Rattle.ft_format.specs.Broken.{cells_broken}
use Rattle.ft_format.proofs.Shapes.{shape_5}
use Rattle.ft_format.proofs.Unbroken.{both}

-- if a cell's record breaks no rule, its name ends after `start` and within the name bytes, and has at most as many
-- bytes as lie between `start` and its end
name_within : (h : Header) (names : List ℕ) (start at : ℕ) (row : List ℕ) → length row ≡ 5 → cell_broken h start at row
    ≡ None
    → (start < past_of row) × (past_of row ≤ h.names) × (length (cell_of names start row).name ≤ past_of row - start)
name_within h names start at row five =
    shape_5 (λ r. cell_broken h start at r ≡ None → (start < past_of r) × (past_of r ≤ h.names)
    × (length (cell_of names start r).name ≤ past_of r - start))
    (λ a b c d e none. (
      grind (arith, nat_tests),
      grind (arith, nat_tests),
      omega (arith, length-take (a - start) (drop start names)),
    )) row five

-- the names of cells that break no rule end within the name bytes
pub names_within : (h : Header) (names : List ℕ) (n : ℕ) (bs : List ℕ) (start at : ℕ) →
    cells_broken h start at (rows cell_layout n bs) ≡ None → start ≤ h.names
    → sum_by (λ x. length (name_of x)) (cells_of names start (rows cell_layout n bs)) + start ≤ h.names
unfolding rows numbers cells_broken
names_within h names zero bs start at none le = omega arith
names_within h names (suc n) bs start at none le =
    let row = numbers cell_layout (take 16 bs) in
    let rest = rows cell_layout n (drop 16 bs) in
    let parts = both (cell_broken h start at row) (cells_broken h (past_of row) (at + 16) rest) none in
    let here = name_within h names start at row refl parts.0 in
    let after = names_within h names n (drop 16 bs) (past_of row) (at + 16) parts.1 here.1 in
    omega (
      arith,
      here.0,
      here.1,
      here.2,
      after,
      sum_by-cons (λ (x : Cell).
          length (name_of x)) (cell_of names start row) (cells_of names (past_of row) rest),
    )
