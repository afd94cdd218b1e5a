-- A text has exactly one outcome.
use Rattle.std.proofs.Common.{◌≡◌, ◌<◌, ◌≤◌, ℕ, List, [], length, Result, Ok, Err, refl, sym, ap, ◌∙◌, arith, ◌⊎◌}
use Rattle.std.proofs.Common.{inl, inr, ⊎_elim}
use Rattle.ft_lexer.specs.Scan.{Lexeme, all_of, scan}
use Rattle.ft_lexer.specs.declared.lex_error.LexError.{LexError}
use Rattle.ft_lexer.specs.declared.lex_error.LexError.TheVariants as lex_errors
use Rattle.ft_syntax.specs.declared.source_error.SourceError.{SourceError}
use Rattle.ft_syntax.specs.declared.source_error.SourceError.TheVariants.{TooLong, Byte, Number, Syntax, Deep, Twice}
use Rattle.ft_syntax.specs.declared.source_error.SourceError.TheVariants.{Unknown, Array, Length, Cells, Registers}
use Rattle.ft_syntax.specs.declared.source_error.SourceError.TheVariants.{Weight, NoMemory}
use Rattle.ft_syntax.specs.Syntax.{SyntaxTree}
use Rattle.std.specs.Prelude.{Bool, true, false, nat_le}
use Rattle.ft_syntax.specs.Limits.{text_limit, nothing_open}
use Rattle.ft_syntax.specs.Machine.{decls, walk}
use Rattle.ft_syntax.specs.Refusal.{syntax_at, deep_at, Answer, Judged, HasLexemes, IsAnswer}
use Rattle.ft_syntax.proofs.Judged.{judged}
use Rattle.ft_syntax.proofs.Only.{judged_only}

-- the outcome of the machine as the outcome of a text
abbrev answer_of : Answer → Result SyntaxTree SourceError
answer_of (Ok t) = Ok t
answer_of (Err (syntax_at at)) = Err (Syntax at)
answer_of (Err (deep_at at)) = Err (Deep at)

-- the outcome of a text of this length, given its lexemes or the error of its scan
abbrev lexed_answer : Result (List Lexeme) LexError → ℕ → Result SyntaxTree SourceError
lexed_answer (Err (lex_errors.Byte at)) end = Err (Byte at)
lexed_answer (Err (lex_errors.Number at)) end = Err (Number at)
lexed_answer (Ok ts) end = answer_of (walk end nothing_open (decls []) ts)

abbrev IsComputed : List ℕ → Result SyntaxTree SourceError → Type 0
IsComputed text r = ((length text ≤ text_limit) × (lexed_answer (all_of (scan text)) (length text) ≡ r)) ⊎
    ((text_limit < length text) × (r ≡ Err TooLong))

-- an outcome of the lexemes is the one that the machine computes
judged_answer : (text : List ℕ) (ts : List Lexeme) (r : Answer) → HasLexemes text ts → Judged ts (length text) r →
    IsComputed text (answer_of r)
judged_answer text ts r has j = inl (
  has.short,
  ap (λ v. lexed_answer v (length text)) has.scanned
      ∙ ap answer_of (judged_only ts (length text) r j),
)

computed : (text : List ℕ) (r : Result SyntaxTree SourceError) → IsAnswer text r → IsComputed text r
computed text (Ok t) (ts, has, d, k) = judged_answer text ts (Ok t) has (d, k)
computed text (Err TooLong) h = inr (h, refl)
computed text (Err (Byte at)) (h, e) = inl (h, ap (λ v. lexed_answer v (length text)) e)
computed text (Err (Number at)) (h, e) = inl (h, ap (λ v. lexed_answer v (length text)) e)
computed text (Err (Syntax at)) (ts, has, f) = judged_answer text ts (Err (syntax_at at)) has f
computed text (Err (Deep at)) (ts, has, f) = judged_answer text ts (Err (deep_at at)) has f
computed text (Err (Twice at)) h = absurd h
computed text (Err (Unknown at)) h = absurd h
computed text (Err (Array at)) h = absurd h
computed text (Err (Length at)) h = absurd h
computed text (Err (Cells count)) h = absurd h
computed text (Err (Registers need)) h = absurd h
computed text (Err (Weight weight)) h = absurd h
computed text (Err NoMemory) h = absurd h

-- a text has at most one outcome
pub one_answer : (text : List ℕ) (r s : Result SyntaxTree SourceError) → IsAnswer text r → IsAnswer text s → r ≡ s
one_answer text r s h k = ⊎_elim
    (λ (short, a). ⊎_elim (λ (short2, b). sym a ∙ b) (λ (long, b). absurd (omega (arith, short, long)))
    (computed text s k))
    (λ (long, a). ⊎_elim (λ (short, b). absurd (omega (arith, short, long))) (λ (long2, b). a
    ∙ sym b) (computed text s k))
    (computed text r h)

some_judged : (text : List ℕ) (ts : List Lexeme) (r : Answer) → HasLexemes text ts → Judged ts (length text) r →
    (s : Result SyntaxTree SourceError) × IsAnswer text s
some_judged text ts (Ok t) has (d, k) = (Ok t, (ts, has, d, k))
some_judged text ts (Err (syntax_at at)) has f = (Err (Syntax at), (ts, has, f))
some_judged text ts (Err (deep_at at)) has f = (Err (Deep at), (ts, has, f))

some_lexed : (text : List ℕ) (r : Result (List Lexeme) LexError) → length text ≤ text_limit → all_of (scan text) ≡ r →
    (s : Result SyntaxTree SourceError) × IsAnswer text s
some_lexed text (Err (lex_errors.Byte at)) h e = (Err (Byte at), (h, e))
some_lexed text (Err (lex_errors.Number at)) h e = (Err (Number at), (h, e))
some_lexed text (Ok ts) h e = some_judged text ts (walk (length text) nothing_open (decls []) ts) (record {
  short = h;
  scanned = e;
}) (judged ts (length text))

some_within : (text : List ℕ) (b : Bool) → nat_le (length text) text_limit ≡ b → (s : Result SyntaxTree SourceError)
    × IsAnswer text s
some_within text true h = some_lexed text (all_of (scan text)) (grind arith) refl
some_within text false h = (Err TooLong, grind arith)

-- a text has an outcome
pub some_answer : (text : List ℕ) → (s : Result SyntaxTree SourceError) × IsAnswer text s
some_answer text = some_within text (nat_le (length text) text_limit) refl
