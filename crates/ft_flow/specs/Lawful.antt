-- Declarations whose cells have different, valid names: private to the code.
use Rattle.std.specs.Prelude.{◌≡◌, ℕ, ◌≤◌, List, [], length, map, None}
use Rattle.std.specs.List.{AllByRecursion}
use Rattle.ft_syntax.specs.Syntax.{Named}
use Rattle.ft_syntax.specs.Syntax as syntax
use Rattle.ft_syntax.proofs.FitTrees.{IsFitDeclaration}
use Rattle.ft_scope.specs.CellNames.{cell_names}
use Rattle.ft_scope.specs.Scope.{declared_name, repeated, wrong_length}
use Rattle.ft_flow.specs.Heads.{Declared}

-- the declared text
abbrev pub text_of : syntax.Declared → List ℕ
text_of x = (declared_name x).text

-- the cells are those of declarations of sources, each name declared once, and there is a word for each
pub record IsLawful (d : Declared) : Type 0 where
  pub like : List syntax.Declared
  pub names : d.names ≡ map text_of like
  pub cells : d.cells ≡ cell_names like
  pub fit : AllByRecursion IsFitDeclaration like
  pub lengths : wrong_length like ≡ None
  pub once : repeated [] like ≡ None
  pub many : length d.cells ≡ length d.inits
  pub few : length d.inits ≤ 1024
