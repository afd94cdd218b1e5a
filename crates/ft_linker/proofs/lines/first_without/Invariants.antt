use Rattle.std.proofs.Common.{◌≡◌, drop}
use Rattle.ft_modules.specs.LinkRefusals.{first_without}
use Rattle.ft_linker.proofs.lines.first_without.Given as goal

abbrev pub invariant-loop-n : goal.invariant-loop-n
invariant-loop-n l = first_without l.objects l.asks ≡ first_without l.objects (drop l.n l.asks)
