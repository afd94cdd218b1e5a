use Rattle.std.proofs.Common.{◌≡◌, Some, [], take}
use Rattle.ft_isa.specs.Reading.{state_after, next_wild}
use Rattle.ft_isa.specs.declared.wild_text.AnswerRead.TheVariants.{Empty}
use Rattle.ft_isa.proofs.WildRead.{wild_at}
use Rattle.ft_isa.proofs.wild_text.read_wild.Given as goal

abbrev pub invariant-loop-at : goal.invariant-loop-at
invariant-loop-at l = state_after next_wild (wild_at [] Empty) (take l.at l.text)
    ≡ Some (wild_at l.answers.items l.read)
