-- The number that a word spells.
use Rattle.std.proofs.Common.{◌≡◌, ℕ, List, Option, Some, None, decimal, refl, ap, sym, ◌∙◌}
use Rattle.std.specs.Prelude.{IfSome}
use Rattle.std.specs.Option.{option_and_then}
use Rattle.ft_isa.specs.Words.{IsWord}
use Rattle.ft_isa.specs.PlanText.{IsNumberText}
use Rattle.ft_isa.proofs.NumberRead.{next_number, number_told, IsNumberRead}
use Rattle.ft_isa.proofs.NumberText.{whole_number, number_reader}
use Rattle.ft_isa.proofs.Readers.{reads_ok}
use Rattle.ft_isa.specs.Reading.{state_after}
use Rattle.ft_text.specs.LineWords.{number_of}

-- a number that the reader told is the number of the whole word
pub number_told_whole : (o : Option (Option ℕ)) (word : List ℕ) (n : ℕ) → state_after next_number None word ≡ o →
    option_and_then (λ number. number) o ≡ Some n → IsNumberText word n
number_told_whole None word n e f = absurd cc
number_told_whole (Some s) word n e f = reads_ok next_number whole_number None number_told IsNumberRead IsNumberText
    number_reader s n word e f

pub number_sound : (word : List ℕ) (n : ℕ) → number_of word ≡ Some n → IsNumberText word n
number_sound word n e = number_told_whole (state_after next_number None word) word n refl e

pub number_complete : (n : ℕ) → IsWord n → number_of (decimal n) ≡ Some n
number_complete n h = number_reader.complete (decimal n) n (h, refl)

-- a number that was read is the number of the word
pub number_is : (word : List ℕ) (r : Option ℕ) → IfSome r (IsNumberText word) →
    ((n : ℕ) → IsNumberText word n → r ≡ Some n) → r ≡ number_of word
number_is word (Some n) some exact = sym (ap number_of some.1 ∙ number_complete n some.0)
number_is word None some exact = none_too (number_of word) refl
  where
    none_too : (o : Option ℕ) → number_of word ≡ o → None ≡ o
    none_too None e = refl
    none_too (Some n) e = exact n (number_sound word n e)
