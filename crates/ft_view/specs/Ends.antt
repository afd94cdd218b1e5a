-- Ends of rows or names that do not decrease from record to record: private to the code.
use Rattle.std.specs.Prelude.{ℕ, ◌≤◌, List, [], ◌∷◌}

-- the ends in these records do not decrease, and lie between `start` and `all`
unfoldable pub AreEnds : (List ℕ → ℕ) → ℕ → ℕ → List (List ℕ) → Type 0
AreEnds end_of all start [] = Unit {0}
AreEnds end_of all start (row ∷ rest) = (start ≤ end_of row) × (end_of row ≤ all) × AreEnds end_of all (end_of row) rest
