-- The program of a syntax tree, or the tree's first refusal.
use Rattle.std.specs.Prelude.{ℕ, List, Option, Some, None, Result, Ok, Err, length, if◌then◌else◌, nat_lt, []}
use Rattle.ft_syntax.specs.Plain.{StatementList}
use Rattle.ft_syntax.specs.Syntax.{SyntaxTree, Declared}
use Rattle.ft_syntax.specs.declared.source_error.SourceError.{SourceError}
use Rattle.ft_syntax.specs.declared.source_error.SourceError.TheVariants.{Twice, Unknown, Array, Length, Cells, Registers, Weight}
use Rattle.ft_scope.specs.declared.slot.Slot.{Slot}
use Rattle.ft_scope.specs.CellNames.{cell_names}
use Rattle.ft_scope.specs.Scope.{find, repeated, renamed, misused, wrong_length, cell_words, variable_count}
use Rattle.ft_scope.specs.Size.{whole_need, whole_weight}

-- a program: the cells' names and initial words, in order, how many variables there are, and the statements
pub record Program : Type 0 where
  pub names : List (List ℕ)
  pub inits : List ℕ
  pub vars : ℕ
  pub body : StatementList Slot

-- the need of a program
abbrev pub program_need : Program → ℕ
program_need p = whole_need p.vars p.body

-- the weight of a program
abbrev pub program_weight : Program → ℕ
program_weight p = whole_weight p.vars p.body

-- a refusal if a number is above its limit, otherwise the other result
abbrev pub refused_above : ℕ → ℕ → SourceError → Result Program SourceError → Result Program SourceError
refused_above limit n e other = if nat_lt limit n then Err e else other

-- the program, if it has at most 1,024 cells, needs at most 32 register pairs and weighs at most 65,536
abbrev pub limited : Program → Result Program SourceError
limited p =
    refused_above 1024 (length p.inits) (Cells (length p.inits))
    (refused_above 32 (program_need p) (Registers (program_need p))
    (refused_above 65536 (program_weight p) (Weight (program_weight p)) (Ok p)))

-- a refusal at a place if there is one, otherwise the other result
abbrev pub refused_at : (ℕ → SourceError) → Option ℕ → Result Program SourceError → Result Program SourceError
refused_at e (Some at) other = Err (e at)
refused_at e None other = other

-- the program with these declarations, given the place of the first misused name, and the renamed statements or the
-- place of the first unknown name; it is refused for the first unknown name, then for the first misused one, then for
-- the first wrong length, and last for a limit
abbrev pub program_with : List Declared → Option ℕ → Result (StatementList Slot) ℕ → Result Program SourceError
program_with ds misuse (Err at) = Err (Unknown at)
program_with ds misuse (Ok body) =
    refused_at Array misuse
    (refused_at Length (wrong_length ds)
    (limited (record { names = cell_names ds; inits = cell_words ds; vars = variable_count ds; body = body })))

-- the program of a tree, or the tree's first refusal
abbrev pub resolved : SyntaxTree → Result Program SourceError
resolved t = refused_at Twice (repeated [] t.decls) (program_with t.decls (misused (find t.decls) t.body) (renamed (find t.decls) t.body))
