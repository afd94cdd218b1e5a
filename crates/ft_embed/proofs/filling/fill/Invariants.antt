use Rattle.std.proofs.Common.{◌≡◌, ◌≤◌, ◌-◌, length}
use Rattle.ft_embed.specs.Outputs.{Fills}
use Rattle.ft_embed.proofs.filling.fill.Given as goal

abbrev pub invariant-loop-left : goal.invariant-loop-left
invariant-loop-left g l = record {
  few : l.left ≤ l.most;
  within : l.count ≤ length l.out;
  same : length l.out ≡ length l.fn.out;
  further : l.from ≤ l.count;
  no_room : length l.fn.out ≤ l.from → l.left ≡ l.most;
  fills : Fills (g.P.Program.object l.program) l.fn.machine l.fn.wild (l.most - l.left) l.machine l.wild l.from l.count
      l.fn.out l.out;
}

abbrev pub decreases-loop-left : goal.decreases-loop-left
decreases-loop-left g l = l.left
