use Rattle.std.proofs.Common.{◌≡◌, Some, None, take}
use Rattle.ft_isa.specs.Reading.{state_after}
use Rattle.ft_isa.proofs.NumberRead.{next_number}
use Rattle.ft_isa.proofs.number_text.read_number.Given as goal

abbrev pub invariant-loop-byte : goal.invariant-loop-byte
invariant-loop-byte l = state_after next_number None (take l.byte-index l.text) ≡ Some l.number
