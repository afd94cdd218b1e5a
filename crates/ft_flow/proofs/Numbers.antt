-- A number that is read is the number that a word spells.
use Rattle.std.proofs.Common.{◌≡◌, ℕ, List, Option, Some}
use Rattle.std.specs.Prelude.{IfSome}
use Rattle.ft_isa.specs.PlanText.{IsNumberText}
use Rattle.ft_text.proofs.NumberWords as words
use Rattle.ft_flow.specs.Fields.{number_in}

-- a number that was read is the number of the word
pub number_is : (word : List ℕ) (r : Option ℕ) → IfSome r (IsNumberText word) →
    ((n : ℕ) → IsNumberText word n → r ≡ Some n) → r ≡ number_in word
unfolding number_in
number_is word r some exact = words.number_is word r some exact
