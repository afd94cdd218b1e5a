-- A program with other initial words.
use Rattle.std.specs.Prelude.{◌≡◌, ℕ, List, length, All}
use Rattle.ft_isa.specs.Words.{IsWord}
use Rattle.ft_scope.specs.Resolved.{Program}

-- the program with these initial words in its cells
abbrev pub program_with_words : Program → List ℕ → Program
program_with_words p words = record p { inits = words }

-- a word for each of the program's cells
pub record AreInitialWords (p : Program) (words : List ℕ) : Type 0 where
  pub as_many : length words ≡ length p.inits
  pub are_words : All IsWord words
