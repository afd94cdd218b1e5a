-- The tokens that a lexer returns, one after another.
use Rattle.std.proofs.Common.{◌≡◌, List, [], ◌∷◌, ◌++◌, Result, Ok, Err, refl, ap}
use Rattle.ft_lexer.specs.declared.token.Token.{Token}
use Rattle.ft_lexer.specs.declared.lex_error.LexError.{LexError}
use Rattle.ft_lexer.specs.Scan.{Lexeme, lexeme, with_token}
use Rattle.ft_syntax.specs.View.{lexemes}

-- the lexemes so far, followed by those of the rest
unfoldable pub after : List Lexeme → Result (List Lexeme) LexError → Result (List Lexeme) LexError
after [] r = r
after (t ∷ ts) r = with_token t (after ts r)

pub lexemes_push : (ts : List Token) (t : Token) → lexemes (ts ++ t ∷ []) ≡ lexemes ts ++ lexeme t ∷ []
lexemes_push [] t = refl
lexemes_push (x ∷ ts) t = ap (λ v. lexeme x ∷ v) (lexemes_push ts t)

pub after_push : (ts : List Lexeme) (t : Lexeme) (r : Result (List Lexeme) LexError) → after (ts ++ t ∷ []) r
    ≡ after ts (with_token t r)
unfolding after
after_push [] t r = refl
after_push (x ∷ ts) t r = ap (with_token x) (after_push ts t r)

pub after_none : (ts : List Lexeme) → after ts (Ok []) ≡ Ok ts
unfolding after
after_none [] = refl
after_none (x ∷ ts) = ap (with_token x) (after_none ts)

pub after_error : (ts : List Lexeme) (e : LexError) → after ts (Err e) ≡ Err e
unfolding after
after_error [] e = refl
after_error (x ∷ ts) e = ap (with_token x) (after_error ts e)

pub after_empty : (r : Result (List Lexeme) LexError) → after [] r ≡ r
unfolding after
after_empty r = refl
