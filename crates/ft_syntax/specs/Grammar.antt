-- The grammar: a data type for each of its rules. A value is a derivation, with the lexemes that it uses.
use Rattle.std.specs.Prelude.{◌≡◌, ℕ, Option, Some, None, List, [], ◌∷◌, ◌++◌}
use Rattle.ft_isa.specs.declared.op.Op.{Op}
use Rattle.ft_isa.specs.declared.op.Op.TheVariants.{Add, Sub, Mul, Ltu, Eq}
use Rattle.ft_isa.specs.declared.op.Op.TheVariants as ops
use Rattle.ft_lexer.specs.declared.kind.Kind.{Kind}
use Rattle.ft_lexer.specs.declared.kind.Kind.TheVariants.{Name, Number, Cell, Var, While, If, Else, Assign, Semi, LParen, RParen, LBrace, RBrace, Plus, Minus, Star, Less, EqEq, LBracket, RBracket, And, Or, Xor, Shl, Shr}
use Rattle.ft_lexer.specs.Numeral.{numeral}
use Rattle.ft_lexer.specs.Scan.{Lexeme}
use Rattle.ft_syntax.specs.Plain.{Expression, literal, name, indexed, operation, StatementList, none, assigning, loop, choose}
use Rattle.ft_syntax.specs.Syntax.{Named, Declared, var, cell_or_array, SyntaxTree}

-- the lexeme of this kind with this text at this place
abbrev pub of_kind : Kind → Named → Lexeme
of_kind k l = record { kind = k; text = l.text; at = l.at }

-- "&" | "|" | "^"
pub data BitSign : Type 0 where
  and_sign : BitSign
  or_sign : BitSign
  xor_sign : BitSign

abbrev pub bit_kind : BitSign → Kind
bit_kind and_sign = And
bit_kind or_sign = Or
bit_kind xor_sign = Xor

abbrev pub bit_op : BitSign → Op
bit_op and_sign = ops.And
bit_op or_sign = ops.Or
bit_op xor_sign = ops.Xor

-- "<<" | ">>"
pub data ShiftSign : Type 0 where
  up_sign : ShiftSign
  down_sign : ShiftSign

abbrev pub shift_kind : ShiftSign → Kind
shift_kind up_sign = Shl
shift_kind down_sign = Shr

abbrev pub shift_op : ShiftSign → Op
shift_op up_sign = ops.Shl
shift_op down_sign = ops.Shr

mutual
  -- expr = less { "==" less }
  pub data Equality : Type 0 where
    comparison : Comparison → Equality
    equals : Equality → Named → Comparison → Equality

  -- less = bits { "<" bits }
  pub data Comparison : Type 0 where
    some_bits : Bits → Comparison
    less : Comparison → Named → Bits → Comparison

  -- bits = shift { ( "&" | "|" | "^" ) shift }
  pub data Bits : Type 0 where
    a_shift : Shift → Bits
    mask : Bits → BitSign → Named → Shift → Bits

  -- shift = sum { ( "<<" | ">>" ) sum }
  pub data Shift : Type 0 where
    a_sum : Sum → Shift
    shift : Shift → ShiftSign → Named → Sum → Shift

  -- sum = prod { ( "+" | "-" ) prod }
  pub data Sum : Type 0 where
    product : Product → Sum
    plus : Sum → Named → Product → Sum
    minus : Sum → Named → Product → Sum

  -- prod = atom { "*" atom }
  pub data Product : Type 0 where
    atom : Atom → Product
    times : Product → Named → Atom → Product

  -- atom = NAME [ "[" expr "]" ] | NUMBER | "(" expr ")"
  pub data Atom : Type 0 where
    a_name : Named → Atom
    an_indexed : Named → Named → Equality → Named → Atom
    a_number : Named → Atom
    brackets : Named → Equality → Named → Atom

-- the lexemes of a derivation, followed by `rest`
abbrev mutual
  pub equality_then : Equality → List Lexeme → List Lexeme
  equality_then (comparison c) rest = comparison_then c rest
  equality_then (equals a l b) rest = equality_then a (of_kind EqEq l ∷ comparison_then b rest)

  pub comparison_then : Comparison → List Lexeme → List Lexeme
  comparison_then (some_bits c) rest = bits_then c rest
  comparison_then (less a l b) rest = comparison_then a (of_kind Less l ∷ bits_then b rest)

  pub bits_then : Bits → List Lexeme → List Lexeme
  bits_then (a_shift c) rest = shift_then c rest
  bits_then (mask a g l b) rest = bits_then a (of_kind (bit_kind g) l ∷ shift_then b rest)

  pub shift_then : Shift → List Lexeme → List Lexeme
  shift_then (a_sum c) rest = sum_then c rest
  shift_then (shift a g l b) rest = shift_then a (of_kind (shift_kind g) l ∷ sum_then b rest)

  pub sum_then : Sum → List Lexeme → List Lexeme
  sum_then (product c) rest = product_then c rest
  sum_then (plus a l b) rest = sum_then a (of_kind Plus l ∷ product_then b rest)
  sum_then (minus a l b) rest = sum_then a (of_kind Minus l ∷ product_then b rest)

  pub product_then : Product → List Lexeme → List Lexeme
  product_then (atom c) rest = atom_then c rest
  product_then (times a l b) rest = product_then a (of_kind Star l ∷ atom_then b rest)

  pub atom_then : Atom → List Lexeme → List Lexeme
  atom_then (a_name l) rest = of_kind Name l ∷ rest
  atom_then (an_indexed n l i r) rest = of_kind Name n ∷ of_kind LBracket l ∷ equality_then i (of_kind RBracket r ∷ rest)
  atom_then (a_number l) rest = of_kind Number l ∷ rest
  atom_then (brackets l e r) rest = of_kind LParen l ∷ equality_then e (of_kind RParen r ∷ rest)

-- the tree of a derivation
abbrev mutual
  pub equality_tree : Equality → Expression Named
  equality_tree (comparison c) = comparison_tree c
  equality_tree (equals a l b) = operation Eq (equality_tree a) (comparison_tree b)

  pub comparison_tree : Comparison → Expression Named
  comparison_tree (some_bits c) = bits_tree c
  comparison_tree (less a l b) = operation Ltu (comparison_tree a) (bits_tree b)

  pub bits_tree : Bits → Expression Named
  bits_tree (a_shift c) = shift_tree c
  bits_tree (mask a g l b) = operation (bit_op g) (bits_tree a) (shift_tree b)

  pub shift_tree : Shift → Expression Named
  shift_tree (a_sum c) = sum_tree c
  shift_tree (shift a g l b) = operation (shift_op g) (shift_tree a) (sum_tree b)

  pub sum_tree : Sum → Expression Named
  sum_tree (product c) = product_tree c
  sum_tree (plus a l b) = operation Add (sum_tree a) (product_tree b)
  sum_tree (minus a l b) = operation Sub (sum_tree a) (product_tree b)

  pub product_tree : Product → Expression Named
  product_tree (atom c) = atom_tree c
  product_tree (times a l b) = operation Mul (product_tree a) (atom_tree b)

  pub atom_tree : Atom → Expression Named
  atom_tree (a_name l) = name l
  atom_tree (an_indexed n l i r) = indexed n (equality_tree i)
  atom_tree (a_number l) = literal (numeral 0 l.text)
  atom_tree (brackets l e r) = equality_tree e

-- "[" expr "]"
pub record Index : Type 0 where
  pub left : Named
  pub index : Equality
  pub right : Named

-- [ "[" expr "]" ]
abbrev pub index_then : Option Index → List Lexeme → List Lexeme
index_then None rest = rest
index_then (Some i) rest = of_kind LBracket i.left ∷ equality_then i.index (of_kind RBracket i.right ∷ rest)

abbrev pub index_tree : Option Index → Option (Expression Named)
index_tree None = None
index_tree (Some i) = Some (equality_tree i.index)

-- ( "while" | "if" ) "(" expr ")" "{"
pub record Head : Type 0 where
  pub word : Named
  pub left : Named
  pub test : Equality
  pub right : Named
  pub brace : Named

abbrev pub head_then : Kind → Head → List Lexeme → List Lexeme
head_then k h rest = of_kind k h.word ∷ of_kind LParen h.left ∷ equality_then h.test (of_kind RParen h.right ∷ of_kind LBrace h.brace ∷ rest)

-- stmt = NAME [ "[" expr "]" ] "=" expr ";" | "while" "(" expr ")" "{" { stmt } "}"
--   | "if" "(" expr ")" "{" { stmt } "}" [ "else" "{" { stmt } "}" ]
mutual
  pub data Statement : Type 0 where
    assignment : Named → Option Index → Named → Equality → Named → Statement
    looping : Head → Statements → Named → Statement
    choosing : Head → Statements → Named → Statement
    choosing_else : Head → Statements → Named → Named → Named → Statements → Named → Statement

  -- { stmt }
  pub data Statements : Type 0 where
    nothing : Statements
    more : Statements → Statement → Statements

-- the lexemes of statements, followed by `rest`
abbrev mutual
  pub statement_then : Statement → List Lexeme → List Lexeme
  statement_then (assignment n o l e r) rest = of_kind Name n ∷ index_then o (of_kind Assign l ∷ equality_then e (of_kind Semi r ∷ rest))
  statement_then (looping h body r) rest = head_then While h (statements_then body (of_kind RBrace r ∷ rest))
  statement_then (choosing h first r) rest = head_then If h (statements_then first (of_kind RBrace r ∷ rest))
  statement_then (choosing_else h first r w l second q) rest =
      head_then If h (statements_then first (of_kind RBrace r ∷ of_kind Else w ∷ of_kind LBrace l ∷ statements_then second (of_kind RBrace q ∷ rest)))

  pub statements_then : Statements → List Lexeme → List Lexeme
  statements_then nothing rest = rest
  statements_then (more before s) rest = statements_then before (statement_then s rest)

-- the tree of a derivation of statements, followed by other statements
abbrev mutual
  pub statement_tree : Statement → StatementList Named → StatementList Named
  statement_tree (assignment n o l e r) after = assigning n (index_tree o) (equality_tree e) after
  statement_tree (looping h body r) after = loop (equality_tree h.test) (statements_tree body none) after
  statement_tree (choosing h if_so r) after = choose (equality_tree h.test) (statements_tree if_so none) none after
  statement_tree (choosing_else h if_so r w l if_not q) after = choose (equality_tree h.test) (statements_tree if_so none) (statements_tree if_not none) after

  pub statements_tree : Statements → StatementList Named → StatementList Named
  statements_tree nothing after = after
  statements_tree (more before s) after = statements_tree before (statement_tree s after)

-- "[" NUMBER "]"
pub record Extent : Type 0 where
  pub left : Named
  pub number : Named
  pub right : Named

-- [ "[" NUMBER "]" ]
abbrev pub extent_then : Option Extent → List Lexeme → List Lexeme
extent_then None rest = rest
extent_then (Some x) rest = of_kind LBracket x.left ∷ of_kind Number x.number ∷ of_kind RBracket x.right ∷ rest

-- a length, and the place of its number
abbrev pub extent_of : Option Extent → Option (ℕ × ℕ)
extent_of None = None
extent_of (Some x) = Some (numeral 0 x.number.text, x.number.at)

-- decl = "cell" NAME [ "[" NUMBER "]" ] "=" NUMBER ";" | "var" NAME ";"
pub data Declaration : Type 0 where
  a_cell : Named → Named → Option Extent → Named → Named → Named → Declaration
  a_var : Named → Named → Named → Declaration

-- { decl }
pub data Declarations : Type 0 where
  undeclared : Declarations
  declared_then : Declarations → Declaration → Declarations

-- the lexemes of declarations, followed by `rest`
abbrev pub declaration_then : Declaration → List Lexeme → List Lexeme
declaration_then (a_cell w n o l v r) rest = of_kind Cell w ∷ of_kind Name n ∷ extent_then o (of_kind Assign l ∷ of_kind Number v ∷ of_kind Semi r ∷ rest)
declaration_then (a_var w n r) rest = of_kind Var w ∷ of_kind Name n ∷ of_kind Semi r ∷ rest

abbrev pub declarations_then : Declarations → List Lexeme → List Lexeme
declarations_then undeclared rest = rest
declarations_then (declared_then before d) rest = declarations_then before (declaration_then d rest)

-- the tree of a derivation of declarations
abbrev pub declaration_tree : Declaration → Declared
declaration_tree (a_cell w n o l v r) = cell_or_array n (extent_of o) (numeral 0 v.text)
declaration_tree (a_var w n r) = var n

abbrev pub declarations_tree : Declarations → List Declared
declarations_tree undeclared = []
declarations_tree (declared_then before d) = declarations_tree before ++ declaration_tree d ∷ []

-- program = { decl } { stmt }: the lexemes derive the tree
abbrev pub Derives : List Lexeme → SyntaxTree → Type 0
Derives ts t = (ds : Declarations) × (ss : Statements) × (ts ≡ declarations_then ds (statements_then ss [])) × (t ≡ record { decls = declarations_tree ds; body = statements_tree ss none })

-- some list with this prefix derives a tree
abbrev pub IsViable : List Lexeme → Type 0
IsViable ts = (more : List Lexeme) × (t : SyntaxTree) × Derives (ts ++ more) t
