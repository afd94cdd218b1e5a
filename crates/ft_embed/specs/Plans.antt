-- What the texts of a run's plan mean.
use Rattle.std.specs.Prelude.{◌≡◌, ℕ, List, [], Option, Some, None}
use Rattle.ft_isa.specs.declared.plan.Strike.{Strike}
use Rattle.ft_isa.specs.declared.plan.Wild.{Wild}
use Rattle.ft_isa.specs.PlanText.{IsStrikeText, IsWildText}

-- an empty text means no fault; any other text means the fault that it spells
pub data IsFault (text : List ℕ) : Option Strike → Type 0 where
  no_fault : text ≡ [] → IsFault text None
  this_fault : {strike : Strike} → IsStrikeText text strike → IsFault text (Some strike)

-- an empty text means no answers to wild loads; any other text means the answers that it spells
pub data AreAnswers (text : List ℕ) : List Wild → Type 0 where
  no_answers : text ≡ [] → AreAnswers text []
  these_answers : {answers : List Wild} → IsWildText text answers → AreAnswers text answers
