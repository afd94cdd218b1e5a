-- How many declarations, statements and expression nodes a tree has.
use Rattle.std.specs.Prelude.{ℕ, ◌+◌, List, length}
use Rattle.ft_syntax.specs.declared.decl.Decl.{Decl}
use Rattle.ft_syntax.specs.declared.spot.Spot.{Spot}
use Rattle.ft_syntax.specs.declared.stmt.Stmt.{Stmt}
use Rattle.ft_syntax.specs.Plain.{Expression, literal, name, indexed, operation, StatementList, none, assign, assign_at, loop, choose, plain_list}
use Rattle.ft_syntax.specs.Syntax.{named}

-- the nodes of an expression: each literal, name, indexed read or operator counts as one
abbrev pub expression_nodes : {N : Type 0} → Expression N → ℕ
expression_nodes (literal w) = 1
expression_nodes (name n) = 1
expression_nodes (indexed n i) = expression_nodes i + 1
expression_nodes (operation o a b) = expression_nodes a + expression_nodes b + 1

-- the statements and the nodes of their expressions
abbrev pub statement_nodes : {N : Type 0} → StatementList N → ℕ
statement_nodes none = 0
statement_nodes (assign to e rest) = expression_nodes e + 1 + statement_nodes rest
statement_nodes (assign_at to i e rest) = expression_nodes i + expression_nodes e + 1 + statement_nodes rest
statement_nodes (loop e body rest) = expression_nodes e + 1 + statement_nodes body + statement_nodes rest
statement_nodes (choose e if_so if_not rest) = expression_nodes e + 1 + statement_nodes if_so + statement_nodes if_not + statement_nodes rest

-- the declarations, statements and expression nodes of a tree
unfoldable pub node_count : List Decl → List (Stmt Spot) → ℕ
node_count ds ss = length ds + statement_nodes (plain_list named ss)
