-- What the parser's values mean to the machine. Only private clauses cite this.
use Rattle.std.specs.Prelude.{◌≡◌, ℕ, List, [], ◌∷◌, None, option_map, Result, Err}
use Rattle.ft_isa.specs.declared.op.Op.{Op}
use Rattle.ft_lexer.specs.declared.kind.Kind.{Kind}
use Rattle.ft_lexer.specs.declared.kind.Kind.TheVariants.{Name, While, If, Plus, Minus, Star, Less, EqEq, And, Or, Xor, Shl, Shr, LBracket}
use Rattle.ft_lexer.specs.declared.lex_error.LexError.{LexError}
use Rattle.ft_lexer.specs.declared.lex_error.LexError.TheVariants as lex_errors
use Rattle.ft_lexer.specs.declared.token.Token.{Token}
use Rattle.ft_lexer.specs.Scan.{Lexeme, lexeme}
use Rattle.ft_syntax.specs.declared.expr.Expr.{Expr}
use Rattle.ft_syntax.specs.declared.operator.Operator.{Operator}
use Rattle.ft_syntax.specs.declared.operator.Operator.TheVariants as operators
use Rattle.ft_syntax.specs.declared.parser.Parser.{Parser}
use Rattle.ft_syntax.specs.declared.pending.Pending.{Pending}
use Rattle.ft_syntax.specs.declared.source_error.SourceError.{SourceError}
use Rattle.ft_syntax.specs.declared.source_error.SourceError.TheVariants.{Byte, Number, Syntax, Deep, NoMemory}
use Rattle.ft_syntax.specs.declared.spot.Spot.{Spot}
use Rattle.ft_syntax.specs.Plain.{plain_expression}
use Rattle.ft_syntax.specs.Syntax.{named}
use Rattle.ft_syntax.specs.Limits.{Tally}
use Rattle.ft_syntax.specs.Refusal.{syntax_at, deep_at, Answer, IsFault}
use Rattle.ft_syntax.specs.Machine.{NamedExpression, Waiting, State, walk, push}

-- the lexemes of tokens
abbrev pub lexemes : List Token → List Lexeme
lexemes [] = []
lexemes (t ∷ ts) = lexeme t ∷ lexemes ts

-- the expression that a value of the code represents
abbrev pub expression : Expr Spot → NamedExpression
expression e = plain_expression named e

abbrev pub tally_of : Parser → Tally
tally_of p = record { opened = p.opened; ops = p.ops }

-- the machine's outcome from this state, at the parser's place
abbrev pub from : Parser → State → Answer
from p s = walk p.end (tally_of p) s (lexemes p.rest.now)

abbrev pub signed : Op × Expr Spot → Op × NamedExpression
signed p = (p.0, expression p.1)

abbrev pub waiting : Pending → Waiting
waiting p = record { equal = option_map expression p.equal; less = option_map expression p.less; bits = option_map signed p.bits; shift = option_map signed p.shift; sum = option_map signed p.sum; product = option_map expression p.product }

-- the error is the machine's outcome, unless memory ran out
abbrev pub Refuses : SourceError → Answer → Type 0
Refuses (Syntax at) r = r ≡ Err (syntax_at at)
Refuses (Deep at) r = r ≡ Err (deep_at at)
Refuses NoMemory r = Unit {0}
Refuses _ r = ⊥

-- the error is the refusal of the lexemes, unless memory ran out
abbrev pub RefusedBy : List Lexeme → ℕ → SourceError → Type 0
RefusedBy ts end (Syntax at) = IsFault ts end (syntax_at at)
RefusedBy ts end (Deep at) = IsFault ts end (deep_at at)
RefusedBy ts end NoMemory = Unit {0}
RefusedBy ts end _ = ⊥

-- the error is that of the scan, unless memory ran out
abbrev pub LexRefused : SourceError → Result (List Lexeme) LexError → Type 0
LexRefused (Byte at) r = r ≡ Err (lex_errors.Byte at)
LexRefused (Number at) r = r ≡ Err (lex_errors.Number at)
LexRefused NoMemory r = Unit {0}
LexRefused _ r = ⊥

-- the next lexeme, if any, is not an operator
abbrev pub NoOperator : List Lexeme → Type 0
NoOperator [] = Unit {0}
NoOperator (t ∷ ts) = (p : Waiting) (a : NamedExpression) → push t.kind p a ≡ None

abbrev pub kind_of : Operator → Kind
kind_of operators.Equal = EqEq
kind_of operators.Less = Less
kind_of operators.Plus = Plus
kind_of operators.Minus = Minus
kind_of operators.Star = Star
kind_of operators.And = And
kind_of operators.Or = Or
kind_of operators.Xor = Xor
kind_of operators.Up = Shl
kind_of operators.Down = Shr

abbrev pub BeginsNone : Kind → Type 0
BeginsNone Name = ⊥
BeginsNone While = ⊥
BeginsNone If = ⊥
BeginsNone _ = Unit {0}

-- the next lexeme, if any, does not begin a statement
abbrev pub NoStatement : List Lexeme → Type 0
NoStatement [] = Unit {0}
NoStatement (t ∷ ts) = BeginsNone t.kind

abbrev pub IsNotBracket : Kind → Type 0
IsNotBracket LBracket = ⊥
IsNotBracket _ = Unit {0}

-- the next lexeme, if any, is not the bracket of an index
abbrev pub NoBracket : List Lexeme → Type 0
NoBracket [] = Unit {0}
NoBracket (t ∷ ts) = IsNotBracket t.kind
