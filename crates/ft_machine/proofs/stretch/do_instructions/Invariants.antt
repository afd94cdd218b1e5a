use Rattle.std.proofs.Common.{◌≡◌, ◌<◌, ◌≤◌, ◌+◌, ◌-◌, ◌*◌, ◌/◌, None}
use Rattle.ft_machine.specs.declared.stepped.Pause.TheVariants.{Running}
use Rattle.ft_machine.specs.Goes.{Goes}
use Rattle.ft_machine.specs.Effects.{doing}
use Rattle.ft_machine.specs.Banks.{bank_over}
use Rattle.ft_machine.proofs.stretch.do_instructions.Given as goal

abbrev pub invariant-loop-at : goal.invariant-loop-at
invariant-loop-at g l = record {
  whole : l.at ≡ 16 * (l.at / 16);
  limit_whole : l.limit ≡ 16 * (l.limit / 16);
  within : l.at ≤ l.limit;
  past : l.past ≤ l.limit;
  there : l.past ≤ 16 * l.count;
  left : l.limit - l.at ≤ 16 * l.all;
  some : 0 < (16 * l.all - (l.limit - l.at)) + (l.past - l.at);
  goes : Goes g.T.Outlet (g.P.Program.object l.program)
      (doing (bank_over l.fn.file (g.Q.PendingStores.pending l.fn.queue) l.fn.cells) l.first l.first None) l.fn.wild
      l.fn.outlet
      (doing (bank_over l.file (g.Q.PendingStores.pending l.queue) l.cells) (1 + l.at / 16) (1 + l.at / 16) None) l.wild
      l.outlet
      (2 * (l.all - (l.limit - l.at) / 16)) Running;
}

abbrev pub decreases-loop-at : goal.decreases-loop-at
decreases-loop-at g l = l.limit - l.at
