use Rattle.std.proofs.Common.{◌+◌, length, refl, ap, arith}
use Rattle.std.proofs.lemmas.List.Sums.{sum_by_more}
use Rattle.ft_types.specs.Objects.{regs_of, queue_of}
use Rattle.ft_format.specs.Layout.{spelled, written, type_layout}
use Rattle.ft_format.specs.Rows.{type_row, type_rows}
use Rattle.ft_format.specs.Puts.{Puts}
use Rattle.ft_encode.proofs.Puts.{put_goes}
use Rattle.ft_encode.proofs.writing.write_types.Goals as goal

pub loop-code_type-preserved : goal.loop-code_type-preserved
loop-code_type-preserved c =
    let x = c.code_type-item.result in
    let i = c.loop-code_type.code_type-index in
    let ts = c.args.types.now in
    let regs = c.loop-code_type.regs in
    let queue = c.loop-code_type.queue in
    let row = written type_layout (type_row (regs + length x.regs) (queue + length x.queue) x) in
    let put : Puts c.loop-code_type.out.items c.write.new.out.items row =
    rw (c.len.ensures, c.len-in-loop-code_type.ensures) at c.in_ok-write.ensures in
    rw (c.len.ensures, c.len-in-loop-code_type.ensures) (record {
      regs = omega (
        arith,
        c.loop-code_type.invariant.regs,
        sum_by_more (λ t. length (regs_of t)) ts i x c.loop-code_type-test.true,
        ap (λ t. length (regs_of t)) c.code_type-item.is,
      );
      queue = omega (
        arith,
        c.loop-code_type.invariant.queue,
        sum_by_more (λ t. length (queue_of t)) ts i x c.loop-code_type-test.true,
        ap (λ t. length (queue_of t)) c.code_type-item.is,
      );
      put = put_goes (λ rest. spelled type_layout (type_rows regs queue rest)) (λ rest.
          spelled type_layout (type_rows (regs + length x.regs) (queue + length x.queue) rest)) ts i x row
          c.loop-code_type.out.items c.write.new.out.items _
          c.loop-code_type-test.true c.code_type-item.is (λ rest. refl) put c.loop-code_type.invariant.put;
    })
