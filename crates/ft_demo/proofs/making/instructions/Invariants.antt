use Rattle.std.proofs.Common.{◌≡◌, ◌++◌, ◌+◌, ◌-◌}
use Rattle.ft_demo.specs.Sample.{opening, turns_from}
use Rattle.ft_demo.proofs.making.instructions.Given as goal

abbrev pub invariant-loop-i : goal.invariant-loop-i
invariant-loop-i l = l.code.items ++ turns_from (l.i + 1) (l.n - l.i) ≡ opening ++ turns_from 1 l.n
