use Rattle.std.proofs.Common.{◌≡◌, ℕ, List, ◌+◌, ◌++◌, ◌≤◌, drop}
use Rattle.ft_syntax.specs.Plain.{plain_list}
use Rattle.ft_scope.specs.Size.{same_slot, most_need}
use Rattle.ft_lower.specs.Lowered.{block_count, body_counts, statement_steps}
use Rattle.ft_lower.proofs.emission.+emit.Given as goal

abbrev pub invariant-emit_statements-loop-s : goal.invariant-emit_statements-loop-s
invariant-emit_statements-loop-s l = record {
  steps : l.steps.items ++ statement_steps l.spare l.at (plain_list same_slot (drop l.s-index l.all))
      ≡ l.initial.steps.items ++ statement_steps l.spare l.block (plain_list same_slot l.all);
  block : l.at + block_count (plain_list same_slot (drop l.s-index l.all))
      ≡ l.block + block_count (plain_list same_slot l.all);
  counts : (below : List ℕ) → l.initial.counts.items ≡ below ++ body_counts (plain_list same_slot l.all) →
      l.counts.items ≡ below ++ body_counts (plain_list same_slot (drop l.s-index l.all));
  pairs : l.spare + 1 + most_need (plain_list same_slot (drop l.s-index l.all)) ≤ 32;
}
