-- Which text is a source, and where other texts are refused.
use Rattle.std.specs.Prelude.{◌≡◌, ◌<◌, ◌≤◌, length, ℕ, true, List, [], ◌∷◌, ◌++◌, ◌⊎◌, Result, Ok, Err}
use Rattle.ft_lexer.specs.Scan.{Lexeme, all_of, scan}
use Rattle.ft_lexer.specs.declared.lex_error.LexError.TheVariants as lex_errors
use Rattle.ft_syntax.specs.declared.source_error.SourceError.{SourceError}
use Rattle.ft_syntax.specs.declared.source_error.SourceError.TheVariants.{TooLong, Byte, Number, Syntax, Deep}
use Rattle.ft_syntax.specs.Syntax.{SyntaxTree}
use Rattle.ft_syntax.specs.Grammar.{Derives, IsViable}
use Rattle.ft_syntax.specs.Limits.{text_limit, deep, nothing_open, tallied, IsShallow}

-- a list of lexemes is refused at a place, for its syntax or its depth
pub data Fault : Type 0 where
  syntax_at : ℕ → Fault
  deep_at : ℕ → Fault

-- the outcome of a list of lexemes
abbrev pub Answer : Type 0
Answer = Result SyntaxTree Fault

-- the lexeme at this place is the first after which no program is possible; nothing before it exceeds a limit
pub record StopsAt (ts : List Lexeme) (at : ℕ) : Type 0 where
  pub before : List Lexeme
  pub lexeme : Lexeme
  pub after : List Lexeme
  pub whole : ts ≡ before ++ lexeme ∷ after
  pub place : at ≡ lexeme.at
  pub viable : IsViable before
  pub stops : IsViable (before ++ lexeme ∷ []) → ⊥
  pub shallow : IsShallow nothing_open before

-- a program is possible after all lexemes, but they do not form one
pub record Lacks (ts : List Lexeme) (end at : ℕ) : Type 0 where
  pub place : at ≡ end
  pub viable : IsViable ts
  pub no_tree : (t : SyntaxTree) → Derives ts t → ⊥
  pub shallow : IsShallow nothing_open ts

-- the lexeme at this place is the first that exceeds a limit, and a program is possible after it
pub record DeepAt (ts : List Lexeme) (at : ℕ) : Type 0 where
  pub before : List Lexeme
  pub lexeme : Lexeme
  pub after : List Lexeme
  pub whole : ts ≡ before ++ lexeme ∷ after
  pub place : at ≡ lexeme.at
  pub viable : IsViable (before ++ lexeme ∷ [])
  pub shallow : IsShallow nothing_open before
  pub deep : deep lexeme.kind (tallied nothing_open before) ≡ true

-- this is the refusal of the lexemes of a text of this length
abbrev pub IsFault : List Lexeme → ℕ → Fault → Type 0
IsFault ts end (syntax_at at) = StopsAt ts at ⊎ Lacks ts end at
IsFault ts end (deep_at at) = DeepAt ts at

-- this is the outcome of the lexemes of a text of this length
abbrev pub Judged : List Lexeme → ℕ → Answer → Type 0
Judged ts end (Ok t) = Derives ts t × IsShallow nothing_open ts
Judged ts end (Err f) = IsFault ts end f

-- the text is within its limit, is scanned without an error, and has these lexemes
pub record HasLexemes (text : List ℕ) (ts : List Lexeme) : Type 0 where
  pub short : length text ≤ text_limit
  pub scanned : all_of (scan text) ≡ Ok ts

-- the text is a source within the limits, and this is its tree
abbrev pub IsSource : List ℕ → SyntaxTree → Type 0
IsSource text t = (ts : List Lexeme) × HasLexemes text ts × Derives ts t × IsShallow nothing_open ts

-- this is the text's refusal: each one applies only if none before it in this order does
abbrev pub IsRefused : List ℕ → SourceError → Type 0
IsRefused text TooLong = text_limit < length text
IsRefused text (Byte at) = (length text ≤ text_limit) × (all_of (scan text) ≡ Err (lex_errors.Byte at))
IsRefused text (Number at) = (length text ≤ text_limit) × (all_of (scan text) ≡ Err (lex_errors.Number at))
IsRefused text (Syntax at) = (ts : List Lexeme) × HasLexemes text ts × IsFault ts (length text) (syntax_at at)
IsRefused text (Deep at) = (ts : List Lexeme) × HasLexemes text ts × IsFault ts (length text) (deep_at at)
IsRefused text _ = ⊥

-- this is the outcome of the text
abbrev pub IsAnswer : List ℕ → Result SyntaxTree SourceError → Type 0
IsAnswer text (Ok t) = IsSource text t
IsAnswer text (Err e) = IsRefused text e
