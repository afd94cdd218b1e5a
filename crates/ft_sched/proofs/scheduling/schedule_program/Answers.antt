use Rattle.std.proofs.Common.{sym, ◌∙◌, subst, arith}
use Rattle.ft_sched.specs.UpTo.{IsUpTo}
use Rattle.ft_sched.proofs.UpTo.{up_to_begins, up_to_ends, scheduled_copy}
use Rattle.ft_sched.proofs.scheduling.schedule_program.Goals as goal

pub loop-b-init : goal.loop-b-init
loop-b-init g c =
    let o = g.P.Program.object c.args.program.now in
    record {
      none_waits = c.new-order.ensures.waiting;
      up_to = subst (λ z. IsUpTo o 0 z) (sym c.new-order.ensures.laid) (up_to_begins o c.requires);
    }

pub loop-b-preserved : goal.loop-b-preserved
loop-b-preserved g c = record {
  none_waits = c.in_ok-schedule_block.ensures.none_waits;
  up_to = c.in_ok-schedule_block.ensures.after;
}

pub returns : goal.returns
returns g c =
    let o = g.P.Program.object c.args.program.now in
    scheduled_copy o c.from_vec.result c.loop-b.order.laid.items c.copy_with_instrs.result (c.from_vec.ensures
    ∙ c.into_laid.ensures)
    (up_to_ends o c.loop-b.b c.loop-b.order.laid.items (omega (
      arith,
      c.counts-b-end.ensures.blocks,
      c.loop-b-test.false,
    )) c.loop-b.invariant.up_to)
    c.copy_with_instrs.ensures
