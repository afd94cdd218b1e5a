use Rattle.std.proofs.Common.{◌≡◌, ◌++◌, map}
use Rattle.std.specs.List.{range_with_len}
use Rattle.ft_compile.specs.Emitted.{blue_row}
use Rattle.ft_compile.proofs.code_types.put_blue.Given as goal

abbrev pub invariant-loop-i : goal.invariant-loop-i
invariant-loop-i l = l.regs.items ≡ l.initial.regs.items ++ map blue_row (range_with_len 0 l.i)
