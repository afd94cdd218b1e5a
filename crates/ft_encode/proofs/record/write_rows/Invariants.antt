use Rattle.std.proofs.Common.{◌≡◌, ◌++◌, length}
use Rattle.std.specs.List.{flat_map}
use Rattle.ft_encode.specs.Written.{subst_bytes}
use Rattle.ft_encode.proofs.record.write_rows.Given as goal

abbrev pub decreases-loop-left : goal.decreases-loop-left
decreases-loop-left l = length l.left

abbrev pub invariant-loop-left : goal.invariant-loop-left
invariant-loop-left l = l.out.items ++ flat_map subst_bytes l.left ≡ l.fn.out.items ++ flat_map subst_bytes l.rows
