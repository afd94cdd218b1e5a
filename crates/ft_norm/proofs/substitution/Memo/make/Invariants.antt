use Rattle.std.proofs.Common.{◌+◌, ◌*◌, ◌-◌, ◌≤◌, length, nat_eq}
use Rattle.indexmap.specs.IndexMap.{get}
use Rattle.ft_static.specs.Form.{updates}
use Rattle.ft_norm.specs.Held.{Keeps, polynomials, updates_held}
use Rattle.ft_norm.proofs.Made.{Stands}
use Rattle.ft_norm.proofs.Paths.{Path, count}
use Rattle.ft_norm.proofs.substitution.Memo.make.Given as goal

abbrev pub invariant-loop-part : goal.invariant-loop-part
invariant-loop-part g l = record {
  kept : Keeps l.fn.forms l.forms;
  made : (h : _) → Stands (polynomials l.fn.forms l.ints) (updates_held l.fn.forms l.memory) (g.N.Nodes.nodes l.nodes) h
      l.forms (get nat_eq l.self.made);
  path : Path (get nat_eq l.self.made) l.n l.k l.open.items;
  steps : (g.M.Meter.counted l.meter) ≤ (g.M.Meter.counted l.fn.meter) + count (get nat_eq l.self.made) (l.n + 1) *
      (1 + updates (updates_held l.fn.forms l.memory) + l.n);
}

abbrev pub decreases-loop-part : goal.decreases-loop-part
decreases-loop-part g l = 2 * (l.n + 1 - count (get nat_eq l.self.made) (l.n + 1)) + (l.n - length l.open.items)
