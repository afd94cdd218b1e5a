-- Reading the texts of a run's plan, which may be empty.
use Rattle.std.proofs.Common.{◌≡◌, ◌≢◌, ℕ, suc, List, [], ◌∷◌, length, Some, None, refl, ap, arith}
use Rattle.ft_isa.specs.declared.plan.Strike.{Strike}
use Rattle.ft_flight.proofs.NoAnswers.{no_words}
use Rattle.ft_isa.specs.declared.plan.Wild.{Wild}
use Rattle.ft_isa.specs.declared.wild_text.WildError.{WildError}
use Rattle.ft_isa.specs.declared.wild_text.WildError.TheVariants.{Form, NoMemory}
use Rattle.ft_isa.specs.PlanText.{IsStrikeText, IsWildText, IsWildError}
use Rattle.ft_embed.specs.Plans.{IsFault, no_fault, this_fault, AreAnswers, no_answers, these_answers}

pub some_length : (n : ℕ) → suc n ≡ 0 → ⊥
some_length n e = omega (arith, e)

pub empty_fault : (text : List ℕ) → length text ≡ 0 → IsFault text None
empty_fault [] h = no_fault refl
empty_fault (x ∷ xs) h = absurd (some_length (length xs) h)

pub some_fault : (text : List ℕ) (strike : Strike) → IsStrikeText text strike → IsFault text (Some strike)
some_fault text strike h = this_fault h

pub empty_answers : (text : List ℕ) → length text ≡ 0 → AreAnswers text no_words
empty_answers [] h = no_answers refl
empty_answers (x ∷ xs) h = absurd (some_length (length xs) h)

pub these : (text : List ℕ) (answers : List Wild) → IsWildText text answers → AreAnswers text answers
these text answers h = these_answers h

form_or_memory : (text : List ℕ) (e : WildError) → e ≢ NoMemory → IsWildError text e → (answers : List Wild) →
    IsWildText text answers → ⊥
form_or_memory text (Form at) named h answers = h.none answers
form_or_memory text NoMemory named h answers = absurd (named refl)

-- a nonempty text that is refused spells no answers
pub none_said : (text : List ℕ) (e : WildError) (answers : List Wild) → (length text ≡ 0 → ⊥) → e ≢ NoMemory →
    IsWildError text e → AreAnswers text answers → ⊥
none_said text e answers some named h (no_answers is) = some (ap length is)
none_said text e answers some named h (these_answers is) = form_or_memory text e named h answers is
