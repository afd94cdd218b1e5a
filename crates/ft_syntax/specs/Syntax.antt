-- The syntax tree as plain data: names with their places, declarations and statements.
use Rattle.std.specs.Prelude.{ℕ, List, map, Option, Some, None}
use Rattle.ft_syntax.specs.declared.spot.Spot.{Spot}
use Rattle.ft_syntax.specs.declared.decl.Decl.{Decl}
use Rattle.ft_syntax.specs.declared.decl.Decl.TheVariants as decls
use Rattle.ft_syntax.specs.Plain.{StatementList}

-- a name as it is written, and the place of its first byte
pub record Named : Type 0 where
  pub text : List ℕ
  pub at : ℕ

abbrev pub named : Spot → Named
named s = record { text = s.text.now; at = s.at }

-- a declaration: a cell with its initial word, a variable, or an array with its length, the length's place, and the
-- initial word of its cells
pub data Declared : Type 0 where
  cell : Named → ℕ → Declared
  var : Named → Declared
  array : Named → ℕ → ℕ → ℕ → Declared

-- a cell, or an array with its length and the length's place
abbrev pub cell_or_array : Named → Option (ℕ × ℕ) → ℕ → Declared
cell_or_array n None v = cell n v
cell_or_array n (Some l) v = array n l.0 l.1 v

abbrev pub declared : Decl → Declared
declared (decls.Cell n v) = cell (named n) v
declared (decls.Var n) = var (named n)
declared (decls.Array n l at v) = array (named n) l at v

unfoldable pub declared_list : List Decl → List Declared
declared_list ds = map declared ds

-- a syntax tree
pub record SyntaxTree : Type 0 where
  pub decls : List Declared
  pub body : StatementList Named
