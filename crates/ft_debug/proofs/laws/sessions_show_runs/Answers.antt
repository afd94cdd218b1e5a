use Rattle.std.proofs.Common.{ap}
use Rattle.ft_debug.specs.Sessions.{Shown}
use Rattle.ft_debug.proofs.AsRuns.{shown_plain, shown_one}
use Rattle.ft_debug.proofs.laws.sessions_show_runs.Goals as goal

pub returns : goal.returns
returns c = record {
  state = λ o w n. ap (λ (m : Shown). m.state) (shown_plain o w n);
  wild = λ o w n. ap (λ (m : Shown). m.wild) (shown_plain o w n);
  struck_state = λ o w s n. ap (λ (m : Shown). m.state) (shown_one o w s n);
  struck_wild = λ o w s n. ap (λ (m : Shown). m.wild) (shown_one o w s n);
}
