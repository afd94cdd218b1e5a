-- The names and initial words of a program's cells.
use Rattle.std.specs.Prelude.{◌≡◌, ◌≢◌, ℕ, ◌≤◌, true, List, length, All}
use Rattle.std.specs.List.{AllPairs}
use Rattle.ft_isa.specs.Words.{IsWord}
use Rattle.ft_types.specs.Spellable.{is_name}

-- a name that a cell of an object may have
pub record IsCellName (n : List ℕ) : Type 0 where
  pub bytes : is_name n ≡ true
  pub short : length n ≤ 40

-- at most 1,024 cells, with different names and as many words
pub record AreCells (names : List (List ℕ)) (inits : List ℕ) : Type 0 where
  pub lawful : All IsCellName names
  pub differ : AllPairs (λ x y. x ≢ y) names
  pub as_many : length names ≡ length inits
  pub few : length inits ≤ 1024
  pub words : All IsWord inits
