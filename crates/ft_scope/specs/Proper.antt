-- What holds of every text's program.
use Rattle.std.specs.Prelude.{◌≡◌, ◌≢◌, ℕ, ◌≤◌, Bool, true, false, ◌&&◌, ◌||◌, ◌==◌, List, [], ◌∷◌, length, All}
use Rattle.std.specs.List.{list_all, AllPairs}
use Rattle.ft_isa.specs.Words.{IsWord}
use Rattle.ft_lexer.specs.Bytes.{is_letter, is_name_byte}
use Rattle.ft_scope.specs.Resolved.{Program, program_need, program_weight}
use Rattle.ft_scope.specs.Size.{StatementsFit}

-- a letter, a digit, an underscore or a square bracket
abbrev pub is_cell_byte : ℕ → Bool
is_cell_byte b = is_name_byte b || (b == 91 || b == 93)

-- a letter or an underscore, and then letters, digits, underscores and square brackets
abbrev pub is_cell_text : List ℕ → Bool
is_cell_text [] = false
is_cell_text (b ∷ bs) = is_letter b && list_all is_cell_byte bs

-- a name of a cell: such a text of at most 38 bytes, 32 for the declared name and 6 for a place in an array
pub record IsCellName (t : List ℕ) : Type 0 where
  pub bytes : is_cell_text t ≡ true
  pub short : length t ≤ 38

-- a program within the limits
pub record IsWithinLimits (p : Program) : Type 0 where
  pub few : length p.inits ≤ 1024
  pub need : program_need p ≤ 32
  pub weight : program_weight p ≤ 65536

-- the cells have lawful names, all different, and one initial word each; statements name existing cells and variables,
-- with an index exactly where an array is named; literals are words; and the program is within the limits
pub record IsProper (p : Program) : Type 0 where
  pub names : All IsCellName p.names
  pub differ : AllPairs (λ x y. x ≢ y) p.names
  pub as_many : length p.names ≡ length p.inits
  pub words : All IsWord p.inits
  pub fits : StatementsFit (length p.inits) p.vars p.body
  pub limits : IsWithinLimits p
