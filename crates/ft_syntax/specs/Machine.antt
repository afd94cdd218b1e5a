-- A machine that reads the lexemes one by one and keeps a stack of everything that is open. Only private clauses cite
-- it.
use Rattle.std.specs.Prelude.{ℕ, Bool, true, false, List, [], ◌∷◌, ◌++◌, Option, Some, None, Ok, Err}
use Rattle.ft_isa.specs.declared.op.Op.{Op}
use Rattle.ft_isa.specs.declared.op.Op.TheVariants.{Add, Sub, Mul, Ltu, Eq}
use Rattle.ft_isa.specs.declared.op.Op.TheVariants as ops
use Rattle.ft_lexer.specs.declared.kind.Kind.{Kind}
use Rattle.ft_lexer.specs.declared.kind.Kind.TheVariants.{Name, Number, Cell, Var, While, If, Else, Assign, Semi, LParen, RParen, LBrace, RBrace, Plus, Minus, Star, Less, EqEq, LBracket, RBracket, And, Or, Xor, Shl, Shr}
use Rattle.ft_lexer.specs.Numeral.{numeral}
use Rattle.ft_lexer.specs.Scan.{Lexeme}
use Rattle.ft_syntax.specs.Plain.{Expression, literal, name, indexed, operation, StatementList, none, assigning, loop, choose, follow}
use Rattle.ft_syntax.specs.Syntax.{Named, Declared, var, cell_or_array, SyntaxTree}
use Rattle.ft_syntax.specs.Limits.{Tally, tally, deep}
use Rattle.ft_syntax.specs.Refusal.{syntax_at, deep_at, Answer}

abbrev pub NamedExpression : Type 0
NamedExpression = Expression Named

abbrev pub NamedStatements : Type 0
NamedStatements = StatementList Named

-- the left operands that wait for their right ones, the loosest operator first
pub record Waiting : Type 0 where
  pub equal : Option NamedExpression
  pub less : Option NamedExpression
  pub bits : Option (Op × NamedExpression)
  pub shift : Option (Op × NamedExpression)
  pub sum : Option (Op × NamedExpression)
  pub product : Option NamedExpression

abbrev pub empty : Waiting
empty = record { equal = None; less = None; bits = None; shift = None; sum = None; product = None }

abbrev pub join : Op → Option NamedExpression → NamedExpression → NamedExpression
join o None b = b
join o (Some a) b = operation o a b

abbrev pub join_signed : Option (Op × NamedExpression) → NamedExpression → NamedExpression
join_signed None b = b
join_signed (Some p) b = operation p.0 p.1 b

abbrev pub product_of : Waiting → NamedExpression → NamedExpression
product_of p a = join Mul p.product a

abbrev pub sum_of : Waiting → NamedExpression → NamedExpression
sum_of p a = join_signed p.sum (product_of p a)

abbrev pub shift_of : Waiting → NamedExpression → NamedExpression
shift_of p a = join_signed p.shift (sum_of p a)

abbrev pub bits_of : Waiting → NamedExpression → NamedExpression
bits_of p a = join_signed p.bits (shift_of p a)

abbrev pub less_of : Waiting → NamedExpression → NamedExpression
less_of p a = join Ltu p.less (bits_of p a)

-- the whole expression, with `a` as its last operand
abbrev pub close : Waiting → NamedExpression → NamedExpression
close p a = join Eq p.equal (less_of p a)

-- what waits after a `+` or a `-`
abbrev pub after_term : Op → Waiting → NamedExpression → Waiting
after_term o p a = record { equal = p.equal; less = p.less; bits = p.bits; shift = p.shift; sum = Some (o, sum_of p a); product = None }

-- what waits after a `<<` or a `>>`
abbrev pub after_shift : Op → Waiting → NamedExpression → Waiting
after_shift o p a = record { equal = p.equal; less = p.less; bits = p.bits; shift = Some (o, shift_of p a); sum = None; product = None }

-- what waits after a `&`, a `|` or a `^`
abbrev pub after_bits : Op → Waiting → NamedExpression → Waiting
after_bits o p a = record { equal = p.equal; less = p.less; bits = Some (o, bits_of p a); shift = None; sum = None; product = None }

-- what waits after an operator
abbrev pub push : Kind → Waiting → NamedExpression → Option Waiting
push Star p a = Some (record { equal = p.equal; less = p.less; bits = p.bits; shift = p.shift; sum = p.sum; product = Some (product_of p a) })
push Plus p a = Some (after_term Add p a)
push Minus p a = Some (after_term Sub p a)
push Shl p a = Some (after_shift ops.Shl p a)
push Shr p a = Some (after_shift ops.Shr p a)
push And p a = Some (after_bits ops.And p a)
push Or p a = Some (after_bits ops.Or p a)
push Xor p a = Some (after_bits ops.Xor p a)
push Less p a = Some (record { equal = p.equal; less = Some (less_of p a); bits = None; shift = None; sum = None; product = None })
push EqEq p a = Some (record { equal = Some (close p a); less = None; bits = None; shift = None; sum = None; product = None })
push _ p a = None

-- what is open around statements
pub data Block : Type 0 where
  top : List Declared → Block
  in_loop : NamedExpression → NamedStatements → Block → Block
  in_yes : NamedExpression → NamedStatements → Block → Block
  in_no : NamedExpression → NamedStatements → NamedStatements → Block → Block

-- what is open around an expression
pub data Context : Type 0 where
  paren : Waiting → Context → Context
  index_of : Waiting → Named → Context → Context
  target_of : Named → NamedStatements → Block → Context
  value_of : Named → Option NamedExpression → NamedStatements → Block → Context
  loop_test : NamedStatements → Block → Context
  choice_test : NamedStatements → Block → Context

pub data State : Type 0 where
  decls : List Declared → State
  cell_name : List Declared → State
  cell_is : List Declared → Named → State
  cell_length : List Declared → Named → State
  cell_close : List Declared → Named → ℕ × ℕ → State
  cell_sized : List Declared → Named → Option (ℕ × ℕ) → State
  cell_number : List Declared → Named → Option (ℕ × ℕ) → State
  cell_end : List Declared → Named → Option (ℕ × ℕ) → ℕ → State
  var_name : List Declared → State
  var_end : List Declared → Named → State
  stmts : NamedStatements → Block → State
  target_is : Named → NamedStatements → Block → State
  assign_is : Named → Option NamedExpression → NamedStatements → Block → State
  loop_open : NamedStatements → Block → State
  choice_open : NamedStatements → Block → State
  want : Waiting → Context → State
  had_name : Waiting → Named → Context → State
  had : Waiting → NamedExpression → Context → State
  loop_brace : NamedExpression → NamedStatements → Block → State
  choice_brace : NamedExpression → NamedStatements → Block → State
  may_else : NamedExpression → NamedStatements → NamedStatements → Block → State
  else_brace : NamedExpression → NamedStatements → NamedStatements → Block → State

abbrev pub spot : Lexeme → Named
spot t = record { text = t.text; at = t.at }

abbrev pub want_by : Kind → Lexeme → Waiting → Context → Option State
want_by Name t p x = Some (had_name p (spot t) x)
want_by Number t p x = Some (had p (literal (numeral 0 t.text)) x)
want_by LParen t p x = Some (want empty (paren p x))
want_by _ t p x = None

-- the state after a whole expression e
abbrev pub ended : Kind → NamedExpression → Context → Option State
ended RParen e (paren p x) = Some (had p e x)
ended RParen e (loop_test ss b) = Some (loop_brace e ss b)
ended RParen e (choice_test ss b) = Some (choice_brace e ss b)
ended RBracket e (index_of p n x) = Some (had p (indexed n e) x)
ended RBracket e (target_of n ss b) = Some (assign_is n (Some e) ss b)
ended Semi e (value_of n o ss b) = Some (stmts (follow ss (assigning n o e none)) b)
ended _ e x = None

abbrev pub had_by : Kind → Option Waiting → Waiting → NamedExpression → Context → Option State
had_by k (Some q) p a x = Some (want q x)
had_by k None p a x = ended k (close p a) x

-- the state after a name, given the next kind: a bracket opens an index
abbrev pub had_name_by : Kind → Waiting → Named → Context → Option State
had_name_by LBracket p n x = Some (want empty (index_of p n x))
had_name_by k p n x = had_by k (push k p (name n)) p (name n) x

abbrev pub close_block : NamedStatements → Block → Option State
close_block ss (top ds) = None
close_block ss (in_loop e before b) = Some (stmts (follow before (loop e ss none)) b)
close_block ss (in_yes e before b) = Some (may_else e ss before b)
close_block ss (in_no e chosen before b) = Some (stmts (follow before (choose e chosen ss none)) b)

abbrev pub stmts_by : Kind → Lexeme → NamedStatements → Block → Option State
stmts_by Name t ss b = Some (target_is (spot t) ss b)
stmts_by While t ss b = Some (loop_open ss b)
stmts_by If t ss b = Some (choice_open ss b)
stmts_by RBrace t ss b = close_block ss b
stmts_by _ t ss b = None

abbrev pub decls_by : Kind → Lexeme → List Declared → Option State
decls_by Cell t ds = Some (cell_name ds)
decls_by Var t ds = Some (var_name ds)
decls_by Name t ds = Some (target_is (spot t) none (top ds))
decls_by While t ds = Some (loop_open none (top ds))
decls_by If t ds = Some (choice_open none (top ds))
decls_by _ t ds = None

abbrev pub may_else_by : Kind → Lexeme → NamedExpression → NamedStatements → NamedStatements → Block → Option State
may_else_by Else t e chosen ss b = Some (else_brace e chosen ss b)
may_else_by k t e chosen ss b = stmts_by k t (follow ss (choose e chosen none none)) b

abbrev pub is_name : Kind → Option State → Option State
is_name Name s = s
is_name _ s = None

abbrev pub is_number : Kind → Option State → Option State
is_number Number s = s
is_number _ s = None

abbrev pub is_assign : Kind → Option State → Option State
is_assign Assign s = s
is_assign _ s = None

-- the state after the name that begins a statement: a bracket opens its index
abbrev pub target_by : Kind → Named → NamedStatements → Block → Option State
target_by LBracket n ss b = Some (want empty (target_of n ss b))
target_by k n ss b = is_assign k (Some (want empty (value_of n None ss b)))

abbrev pub is_closing : Kind → Option State → Option State
is_closing RBracket s = s
is_closing _ s = None

-- the state after the name of a cell: a bracket opens its length
abbrev pub cell_by : Kind → List Declared → Named → Option State
cell_by LBracket ds n = Some (cell_length ds n)
cell_by k ds n = is_assign k (Some (cell_number ds n None))

abbrev pub is_semi : Kind → Option State → Option State
is_semi Semi s = s
is_semi _ s = None

abbrev pub is_paren : Kind → Option State → Option State
is_paren LParen s = s
is_paren _ s = None

abbrev pub is_brace : Kind → Option State → Option State
is_brace LBrace s = s
is_brace _ s = None

abbrev pub step : State → Lexeme → Option State
step (decls ds) t = decls_by t.kind t ds
step (cell_name ds) t = is_name t.kind (Some (cell_is ds (spot t)))
step (cell_is ds n) t = cell_by t.kind ds n
step (cell_length ds n) t = is_number t.kind (Some (cell_close ds n (numeral 0 t.text, t.at)))
step (cell_close ds n l) t = is_closing t.kind (Some (cell_sized ds n (Some l)))
step (cell_sized ds n o) t = is_assign t.kind (Some (cell_number ds n o))
step (cell_number ds n o) t = is_number t.kind (Some (cell_end ds n o (numeral 0 t.text)))
step (cell_end ds n o v) t = is_semi t.kind (Some (decls (ds ++ cell_or_array n o v ∷ [])))
step (var_name ds) t = is_name t.kind (Some (var_end ds (spot t)))
step (var_end ds n) t = is_semi t.kind (Some (decls (ds ++ var n ∷ [])))
step (stmts ss b) t = stmts_by t.kind t ss b
step (target_is n ss b) t = target_by t.kind n ss b
step (assign_is n o ss b) t = is_assign t.kind (Some (want empty (value_of n o ss b)))
step (loop_open ss b) t = is_paren t.kind (Some (want empty (loop_test ss b)))
step (choice_open ss b) t = is_paren t.kind (Some (want empty (choice_test ss b)))
step (want p x) t = want_by t.kind t p x
step (had_name p n x) t = had_name_by t.kind p n x
step (had p a x) t = had_by t.kind (push t.kind p a) p a x
step (loop_brace e ss b) t = is_brace t.kind (Some (stmts none (in_loop e ss b)))
step (choice_brace e ss b) t = is_brace t.kind (Some (stmts none (in_yes e ss b)))
step (may_else e chosen ss b) t = may_else_by t.kind t e chosen ss b
step (else_brace e chosen ss b) t = is_brace t.kind (Some (stmts none (in_no e chosen ss b)))

abbrev pub tree_at : NamedStatements → Block → Option SyntaxTree
tree_at ss (top ds) = Some (record { decls = ds; body = ss })
tree_at ss _ = None

abbrev pub final : State → Option SyntaxTree
final (decls ds) = Some (record { decls = ds; body = none })
final (stmts ss b) = tree_at ss b
final (may_else e chosen ss b) = tree_at (follow ss (choose e chosen none none)) b
final _ = None

abbrev pub go_on : Lexeme → Bool → Option State → (State → Answer) → Answer
go_on t d None rest = Err (syntax_at t.at)
go_on t true (Some s) rest = Err (deep_at t.at)
go_on t false (Some s) rest = rest s

abbrev pub at_end : ℕ → Option SyntaxTree → Answer
at_end end None = Err (syntax_at end)
at_end end (Some p) = Ok p

abbrev pub walk : ℕ → Tally → State → List Lexeme → Answer
walk end c s [] = at_end end (final s)
walk end c s (t ∷ ts) = go_on t (deep t.kind c) (step s t) (λ s'. walk end (tally t.kind c) s' ts)
