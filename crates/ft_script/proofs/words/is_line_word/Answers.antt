use Rattle.std.proofs.Common.{◌≡◌, ℕ, List, Some, None, sym, ◌∙◌, arith}
use Rattle.std.specs.Prelude.{position}
use Rattle.ft_text.proofs.FirstWords.{is_space, no_space_found, found_no_space}
use Rattle.ft_script.specs.Commands.{IsLineWord}
use Rattle.ft_script.proofs.words.is_line_word.Goals as goal

no_word : (text : List ℕ) (at : ℕ) → position is_space text ≡ Some at → ¬ (IsLineWord text)
no_word text at e h = let none : None ≡ Some at = sym (no_space_found text h.no_space) ∙ e in absurd (cc)

pub returns-in-Some : goal.returns-in-Some
returns-in-Some c = (
  λ e. absurd (cc),
  λ h. absurd (no_word c.args.text.now c.in-Some.field-0 (sym c.first_space.ensures
      ∙ c.in-Some.is) h),
)

pub returns-in-None : goal.returns-in-None
returns-in-None c =
    let free = found_no_space c.args.text.now (sym c.first_space.ensures ∙ c.in-None.is) in (
      λ e. record { some = grind (arith, c.is_empty.ensures, e); no_space = free },
      λ h. grind (arith, c.is_empty.ensures, h.some),
    )
