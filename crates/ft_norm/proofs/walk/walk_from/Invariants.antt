use Rattle.std.proofs.Common.{◌≡◌, ◌+◌, ◌<◌, ◌≤◌, length}
use Rattle.ft_static.specs.Form.{updates}
use Rattle.ft_static.specs.NormalForm.{norm_sel}
use Rattle.ft_norm.specs.Entries.{forms_of, memory_reach}
use Rattle.ft_norm.specs.Held.{updates_at, polynomial_at}
use Rattle.ft_norm.proofs.walk.walk_from.Given as goal

abbrev pub invariant-loop-m : goal.invariant-loop-m
invariant-loop-m g l = record {
  bound : l.m < length l.entries;
  sort : memory_reach (forms_of l.entries) l.m ≤ length (forms_of l.entries);
  form : norm_sel (updates_at (forms_of l.entries) l.m) (polynomial_at (forms_of l.entries) l.p)
      ≡ norm_sel (updates_at (forms_of l.entries) l.memory) (polynomial_at (forms_of l.entries) l.p);
  steps : (g.M.Meter.counted l.meter) + updates (updates_at (forms_of l.entries) l.m) ≤
      (g.M.Meter.counted l.initial.meter) + updates
      (updates_at (forms_of l.entries) l.memory);
}

abbrev pub decreases-loop-m : goal.decreases-loop-m
decreases-loop-m g l = l.m
