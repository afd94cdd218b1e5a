use Rattle.std.proofs.Common.{◌≡◌, take}
use Rattle.ft_edge.specs.Lines.{with_lines}
use Rattle.ft_campaign.specs.Texts.{verdict_lines}
use Rattle.ft_campaign.proofs.report.put_verdicts.Given as goal

abbrev pub invariant-loop-i : goal.invariant-loop-i
invariant-loop-i g l = g.K.Sink.log l.out ≡ with_lines (take l.i (verdict_lines l.faults l.verdicts))
    (g.K.Sink.log l.fn.out)
