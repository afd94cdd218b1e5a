use Rattle.std.proofs.Common.{◌≡◌, length, map, take}
use Rattle.ft_embed.specs.Trials.{fault_verdict}
use Rattle.ft_embed.proofs.trial.put_verdicts.Given as goal

abbrev pub invariant-loop-i : goal.invariant-loop-i
invariant-loop-i l = record {
  same : length l.out ≡ length l.fn.out;
  written : take l.i l.out ≡ map fault_verdict (take l.i l.verdicts);
}
