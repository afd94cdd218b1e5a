-- The syntax tree that a value of the code represents.
use Rattle.std.specs.Prelude.{List}
use Rattle.ft_syntax.specs.declared.decl.Decl.{Decl}
use Rattle.ft_syntax.specs.declared.spot.Spot.{Spot}
use Rattle.ft_syntax.specs.declared.stmt.Stmt.{Stmt}
use Rattle.ft_syntax.specs.declared.tree.Tree.{Tree}
use Rattle.ft_syntax.specs.Plain.{plain_list}
use Rattle.ft_syntax.specs.Syntax.{SyntaxTree, declared_list, named}

-- the tree of these declarations and statements
abbrev pub tree_from : List Decl → List (Stmt Spot) → SyntaxTree
tree_from ds ss = record { decls = declared_list ds; body = plain_list named ss }

abbrev pub tree_of : Tree → SyntaxTree
tree_of t = tree_from t.decls.items t.body.items
