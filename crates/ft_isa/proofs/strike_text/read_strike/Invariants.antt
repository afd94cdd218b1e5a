use Rattle.std.proofs.Common.{◌≡◌, Some, None, take}
use Rattle.ft_isa.specs.Reading.{state_after, next_strike}
use Rattle.ft_isa.specs.declared.strike_text.StrikeRead.TheVariants.{AtStep}
use Rattle.ft_isa.proofs.strike_text.read_strike.Given as goal

abbrev pub invariant-loop-at : goal.invariant-loop-at
invariant-loop-at l = state_after next_strike (AtStep None) (take l.at l.text) ≡ Some l.read
