use Rattle.std.proofs.Common.{◌≡◌, length, take}
use Rattle.std.specs.List.{sum_by}
use Rattle.ft_types.specs.Objects.{regs_of}
use Rattle.ft_encode.proofs.writing.count_regs.Given as goal

abbrev pub invariant-loop-code_type : goal.invariant-loop-code_type
invariant-loop-code_type l = l.count ≡ sum_by (λ x. length (regs_of x)) (take l.code_type-index l.types)
