use Rattle.std.proofs.Common.{◌+◌, length, ap, ◌∙◌}
use Rattle.ft_types.specs.Spellable.{queue_row_count, reg_row_count}
use Rattle.ft_linker.proofs.Adding.{totals_more}
use Rattle.ft_linker.proofs.totals.Totals.with.Goals as goal

pub returns : goal.returns
returns c = λ ms e.
    let t = c.args.self in
    let same = c.as_slice-types.ensures in
    (λ i. record {
      nodes = t.nodes + c.len.ensures i;
      types = t.types + length (same i);
      reg_rows = t.reg_rows + (c.reg_row_count-reg_rows.ensures ∙ ap reg_row_count same) i;
      queue_rows = t.queue_rows + (c.queue_row_count-queue_rows.ensures ∙ ap queue_row_count same) i;
      blocks = t.blocks + c.len-2.ensures i;
      instrs = t.instrs + c.len-3.ensures i;
      substs = t.substs + c.len-4.ensures i;
    }) ∙ totals_more t ms c.args.object.now e
