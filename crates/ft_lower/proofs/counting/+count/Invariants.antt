use Rattle.std.proofs.Common.{◌≡◌, ◌++◌, drop}
use Rattle.ft_syntax.specs.Plain.{plain_list}
use Rattle.ft_scope.specs.Size.{same_slot}
use Rattle.ft_lower.specs.Lowered.{block_count, body_counts}
use Rattle.ft_lower.proofs.counting.+count.Given as goal

abbrev pub invariant-count_blocks-loop-i : goal.invariant-count_blocks-loop-i
invariant-count_blocks-loop-i l = record {
  blocks : l.blocks ≡ block_count (plain_list same_slot (drop l.i l.all));
  counts : l.counts.items ≡ l.initial.counts.items ++ body_counts (plain_list same_slot (drop l.i l.all));
}
