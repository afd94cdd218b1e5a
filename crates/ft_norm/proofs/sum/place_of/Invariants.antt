use Rattle.std.proofs.Common.{◌-◌, ◌≡◌, ◌<◌, ◌≤◌, ◌+◌, ℕ, length, slice_index_or}
use Rattle.std.specs.declared.cmp.Ordering.TheVariants.{Less}
use Rattle.ft_norm.specs.declared.entry.Term.{Term}
use Rattle.ft_norm.specs.Orders.{cmp_atoms}
use Rattle.ft_norm.proofs.sum.place_of.Given as goal

abbrev pub invariant-loop-low : goal.invariant-loop-low
invariant-loop-low l = record {
  within : l.high ≤ length l.sum;
  order : l.low ≤ l.high;
  after : (t : Term) (j : ℕ) → j + 1 ≡ l.low → cmp_atoms (slice_index_or l.sum j t).atoms l.atoms ≡ Less;
  before : (t : Term) → l.high < length l.sum → cmp_atoms l.atoms (slice_index_or l.sum l.high t).atoms ≡ Less;
}

abbrev pub decreases-loop-low : goal.decreases-loop-low
decreases-loop-low l = l.high - l.low
