-- That the order of the table's rows does not matter.
use Rattle.std.specs.Prelude.{ℕ, ◌≡◌, true, List, [], ◌∷◌, Some, ◌⊎◌}
use Rattle.ft_riscv.specs.declared.table.Row.{Row}
use Rattle.ft_riscv.specs.Table.{table, fits, spelled, decoded}

-- a row is one of these
abbrev pub IsRow : Row → List Row → Type 0
IsRow r [] = ⊥
IsRow r (x ∷ xs) = (r ≡ x) ⊎ IsRow r xs

-- a word stands for what any row that fits it spells
abbrev pub IsUnambiguous : Type 0
IsUnambiguous = (w : ℕ) (r : Row) → IsRow r table → fits r w ≡ true → decoded w ≡ Some (spelled r.form w)
