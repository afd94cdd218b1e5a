-- Each text has one outcome.
use Rattle.std.proofs.Common.{◌≡◌, ℕ, List, Result, Ok, Err, inl, inr, refl, sym, ap, ◌∙◌}
use Rattle.ft_syntax.specs.Syntax.{SyntaxTree}
use Rattle.ft_syntax.specs.Refusal.{IsAnswer}
use Rattle.ft_syntax.specs.declared.source_error.SourceError.{SourceError}
use Rattle.ft_scope.specs.Resolved.{Program, resolved}
use Rattle.ft_scope.specs.Outcome.{IsOutcome}

-- the outcome that follows from the grammar's answer
abbrev pub judged : Result SyntaxTree SourceError → Result Program SourceError
judged (Ok t) = resolved t
judged (Err e) = Err e

answer_of : (text : List ℕ) (r : Result Program SourceError) → IsOutcome text r → (a : Result SyntaxTree SourceError)
    × IsAnswer text a × (r ≡ judged a)
answer_of text (Ok p) h = (Ok h.0, h.1, sym h.2)
answer_of text (Err e) (inl h) = (Err e, h, refl)
answer_of text (Err e) (inr h) = (Ok h.0, h.1, sym h.2)

-- any two outcomes of a text are the same
pub one_outcome : (text : List ℕ) (one : (a b : Result SyntaxTree SourceError) → IsAnswer text a → IsAnswer text b → a
    ≡ b) (r s : Result Program SourceError) → IsOutcome text r → IsOutcome text s → r ≡ s
one_outcome text one r s h g =
    let a = answer_of text r h in
    let b = answer_of text s g in
    a.2 ∙ ap judged (one a.0 b.0 a.1 b.1) ∙ sym b.2

-- what follows from the grammar's answer is an outcome of the text
pub outcome_from : (text : List ℕ) (a : Result SyntaxTree SourceError) → IsAnswer text a → IsOutcome text (judged a)
outcome_from text (Err e) h = inl h
outcome_from text (Ok t) h = by (resolved t) refl
  where
    by : (r : Result Program SourceError) → resolved t ≡ r → IsOutcome text r
    by (Ok p) e = (t, h, e)
    by (Err x) e = inr (t, h, e)
