use Rattle.std.proofs.Common.{◌≡◌, ◌++◌, length, take, drop}
use Rattle.std.specs.List.{sum_by}
use Rattle.ft_types.specs.Objects.{regs_of, queue_of}
use Rattle.ft_format.specs.Layout.{spelled, type_layout}
use Rattle.ft_format.specs.Rows.{type_rows}
use Rattle.ft_encode.proofs.writing.write_types.Given as goal

abbrev pub invariant-loop-code_type : goal.invariant-loop-code_type
invariant-loop-code_type l = record {
  regs : l.regs ≡ sum_by (λ t. length (regs_of t)) (take l.code_type-index l.types);
  queue : l.queue ≡ sum_by (λ t. length (queue_of t)) (take l.code_type-index l.types);
  put : l.out.items ++ spelled type_layout (type_rows l.regs l.queue (drop l.code_type-index l.types)) ≡ l.fn.out.items
      ++ spelled type_layout (type_rows 0 0 l.types);
}
