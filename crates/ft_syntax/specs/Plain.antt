-- Expressions and statements as plain data, over names of any kind. Higher crates use this form.
use Rattle.std.specs.Prelude.{ℕ, List, [], ◌∷◌, Option, Some, None}
use Rattle.ft_isa.specs.declared.op.Op.{Op}
use Rattle.ft_syntax.specs.declared.expr.Expr.{Expr, Literal, Name, At', Op'}
use Rattle.ft_syntax.specs.declared.stmt.Stmt.{Stmt, Assign, AssignAt, While', If', Row_of-Stmt, end_of-Stmt, more_of-Stmt}

-- an expression
pub data Expression (N : Type 0) : Type 0 where
  literal : ℕ → Expression N
  name : N → Expression N
  indexed : N → Expression N → Expression N
  operation : Op → Expression N → Expression N → Expression N

-- a list of statements: none, or a first one and those after it
pub data StatementList (N : Type 0) : Type 0 where
  none : StatementList N
  assign : N → Expression N → StatementList N → StatementList N
  assign_at : N → Expression N → Expression N → StatementList N → StatementList N
  loop : Expression N → StatementList N → StatementList N → StatementList N
  choose : Expression N → StatementList N → StatementList N → StatementList N → StatementList N

-- statements followed by others
abbrev pub follow : {N : Type 0} → StatementList N → StatementList N → StatementList N
follow none after = after
follow (assign to e rest) after = assign to e (follow rest after)
follow (assign_at to i e rest) after = assign_at to i e (follow rest after)
follow (loop e body rest) after = loop e body (follow rest after)
follow (choose e if_so if_not rest) after = choose e if_so if_not (follow rest after)

-- an assignment to a name, which may have an index
abbrev pub assigning : {N : Type 0} → N → Option (Expression N) → Expression N → StatementList N → StatementList N
assigning to None e rest = assign to e rest
assigning to (Some i) e rest = assign_at to i e rest

-- the plain form of an expression, given that of each name
abbrev pub plain_expression : {N M : Type 0} → (N → M) → Expr N → Expression M
plain_expression f (Literal w) = literal w
plain_expression f (Name n) = name (f n)
plain_expression f (At' n p i) = indexed (f n) (plain_expression f i)
plain_expression f (Op' o p a q b) = operation o (plain_expression f a) (plain_expression f b)

-- the plain form of a statement followed by others, and that of a body, which is a row of statements
unfoldable mutual
  pub plain_statement : {N M : Type 0} → (N → M) → Stmt N → StatementList M → StatementList M
  plain_statement f (Assign to e) after = assign (f to) (plain_expression f e) after
  plain_statement f (AssignAt to i e) after = assign_at (f to) (plain_expression f i) (plain_expression f e) after
  plain_statement f (While' e shape body) after = loop (plain_expression f e) (plain_row f body) after
  plain_statement f (If' e shape if_so shape2 if_not) after = choose (plain_expression f e) (plain_row f if_so) (plain_row f if_not) after

  pub plain_row : {N M : Type 0} {m : _} → (N → M) → Row_of-Stmt N m → StatementList M
  plain_row f end_of-Stmt = none
  plain_row f (more_of-Stmt s rest) = plain_statement f s (plain_row f rest)

-- the plain form of a list of statements
unfoldable pub plain_list : {N M : Type 0} → (N → M) → List (Stmt N) → StatementList M
plain_list f [] = none
plain_list f (s ∷ ss) = plain_statement f s (plain_list f ss)
