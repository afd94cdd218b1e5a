-- The number that digits spell.
use Rattle.std.specs.Prelude.{ℕ, ◌+◌, ◌*◌, ◌-◌, List, [], ◌∷◌}

-- the number that digits spell in base ten, after digits that spell n
abbrev pub numeral : ℕ → List ℕ → ℕ
numeral n [] = n
numeral n (d ∷ ds) = numeral (n * 10 + (d - 48)) ds
