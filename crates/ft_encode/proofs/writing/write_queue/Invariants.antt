use Rattle.std.proofs.Common.{◌≡◌, ◌++◌, drop}
use Rattle.std.specs.List.{flat_map}
use Rattle.ft_types.specs.Objects.{queue_of}
use Rattle.ft_encode.specs.Written.{pair_bytes}
use Rattle.ft_encode.proofs.writing.write_queue.Given as goal

abbrev pub invariant-loop-code_type : goal.invariant-loop-code_type
invariant-loop-code_type l = l.out.items ++ flat_map (λ t. flat_map pair_bytes (queue_of t))
    (drop l.code_type-index l.types) ≡ l.fn.out.items ++ flat_map (λ t. flat_map pair_bytes (queue_of t)) l.types
