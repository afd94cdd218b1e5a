-- Two answers for the same source are equal.
use Rattle.std.proofs.Common.{◌≡◌, ℕ, List, Result, Ok, Err, inl, inr, refl, sym, ap, ◌∙◌, subst}
use Rattle.std.proofs.lemmas.Option.{same_Some}
use Rattle.ft_edge.specs.Loads.{Files}
use Rattle.ft_syntax.specs.declared.source_error.SourceError.{SourceError}
use Rattle.ft_scope.specs.Resolved.{Program}
use Rattle.ft_scope.specs.Outcome.{IsOutcome}
use Rattle.ft_command.specs.Options.{Word}
use Rattle.ft_tool.specs.Texts.{source_line}
use Rattle.ft_tool.specs.Replies.{Answer, one_piece}
use Rattle.ft_tool.specs.Sources.{OverText, CompilesProgram, ExecutesProgram}
use Rattle.ft_tool.specs.Answers.{OverSource}
use Rattle.ft_tool.proofs.Linking.{ok_no_err}

-- equal results hold equal values
ok_same : {A B : Type 0} (x y : A) (r s : Result A B) → r ≡ Ok x → s ≡ Ok y → r ≡ s → x ≡ y
ok_same x y r s a b e = cc

err_same : {A B : Type 0} (x y : B) (r s : Result A B) → r ≡ Err x → s ≡ Err y → r ≡ s → x ≡ y
err_same x y r s a b e = cc

-- two answers for the text of a source are equal if answers for its program are
over_text : ((text : List ℕ) (r s : Result Program SourceError) → IsOutcome text r → IsOutcome text s → r ≡ s)
    → (Over : Program → Answer → Type 0) → ((p : Program) (a b : Answer) → Over p a → Over p b → a ≡ b) →
    (text : List ℕ) (a b : Answer) → OverText Over text a → OverText Over text b → a ≡ b
over_text one Over same text a b (inl x) (inl y) =
    same x.0 a b x.1.1 (subst (λ p. Over p b) (ok_same y.0 x.0 (Ok y.0) (Ok x.0) refl refl
    (one text (Ok y.0) (Ok x.0) y.1.0 x.1.0)) y.1.1)
over_text one Over same text a b (inl x) (inr y) =
    absurd (ok_no_err x.0 y.0 (Ok x.0) (Err y.0) refl refl (one text (Ok x.0) (Err y.0) x.1.0 y.1.0))
over_text one Over same text a b (inr x) (inl y) =
    absurd (ok_no_err y.0 x.0 (Ok y.0) (Err x.0) refl refl (one text (Ok y.0) (Err x.0) y.1.0 x.1.0))
over_text one Over same text a b (inr x) (inr y) =
    let e = err_same x.0 y.0 (Err x.0) (Err y.0) refl refl (one text (Err x.0) (Err y.0) x.1.0 y.1.0) in
    x.1.1.answer ∙ ap (λ f. one_piece (source_line f) 6) e ∙ sym y.1.1.answer

pub over_source : ((text : List ℕ) (r s : Result Program SourceError) → IsOutcome text r → IsOutcome text s → r ≡ s)
    → (Over : Program → Answer → Type 0) → ((p : Program) (a b : Answer) → Over p a → Over p b → a ≡ b) →
    (name : Word) (files : Files) (a b : Answer) → OverSource Over name files a → OverSource Over name files b → a ≡ b
over_source one Over same name files a b x y =
    over_text one Over same x.0 a b x.1.1
    (subst (λ text. OverText Over text b) (same_Some y.0 x.0 (sym y.1.0 ∙ x.1.0)) y.1.1)

-- two answers of `compile` for the same program are equal
pub compiled_same : (p : Program) (a b : Answer) → CompilesProgram p a → CompilesProgram p b → a ≡ b
compiled_same p a b x y = x.answer ∙ ap (λ bytes. one_piece bytes 0) (x.spelled.spelled ∙ sym y.spelled.spelled)
    ∙ sym y.answer

-- two answers of `exec` for the same program are equal
pub executed_same : (steps : ℕ) (p : Program) (a b : Answer) → ExecutesProgram steps p a → ExecutesProgram steps p b →
    a ≡ b
executed_same steps p a b x y = x.is ∙ sym y.is
