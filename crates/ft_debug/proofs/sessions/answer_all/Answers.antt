use Rattle.std.proofs.Common.{◌≡◌, ap, sym, subst, arith}
use Rattle.ft_edge.proofs.Lines.{puts_failed}
use Rattle.ft_script.specs.declared.command.Command.{Command}
use Rattle.ft_script.specs.Reads.{command_of}
use Rattle.ft_debug.specs.declared.moment.Moment.{Moment}
use Rattle.ft_debug.specs.Inside.{IsSmall}
use Rattle.ft_debug.proofs.Replied.{replied_none, replied_more, replied_all, replied_breaks, small_at}
use Rattle.ft_debug.proofs.sessions.answer_all.Goals as goal

pub loop-command-init : goal.loop-command-init
loop-command-init g c = record {
  ready = c.requires.ready;
  replied = replied_none (g.P.Program.object c.args.program.now) c.args.wild.now c.args.commands.now c.args.debugger.now
      (g.K.Sink.log c.args.out.now) c.requires.holds;
}

pub answer-requires-clause-room : goal.answer-requires-clause-room
answer-requires-clause-room g c =
    let h = c.loop-command.invariant.replied in
    let at : c.loop-command.debugger.present.position
    ≡ h.session.position = ap (λ (m : Moment). m.position) h.holds.present in
    let within = h.within in
    let few = c.requires.few in
    let there = c.loop-command-test.true in
    omega arith

pub answer-requires-clause-small : goal.answer-requires-clause-small
answer-requires-clause-small g c =
    subst (λ (x : Command). IsSmall (command_of x)) (sym c.command-item.is)
    (small_at c.args.commands.now c.loop-command.command-index c.command-item.result c.loop-command-test.true
    c.requires.small)

pub returns-in_err-answer : goal.returns-in_err-answer
returns-in_err-answer g c =
    let o = g.P.Program.object c.args.program.now in
    puts_failed c.from_residual.result _ _ _ c.from_residual.ensures.0
    (replied_breaks o c.args.wild.now c.args.commands.now c.loop-command.command-index c.command-item.result
    c.loop-command.debugger c.answer.new.self c.in_err-answer.field-0.0 _ _ _ c.loop-command-test.true c.command-item.is
    c.loop-command.invariant.replied c.in_err-answer.ensures.does)

pub loop-command-preserved : goal.loop-command-preserved
loop-command-preserved g c =
    let o = g.P.Program.object c.args.program.now in
    let small = subst (λ (x : Command). IsSmall (command_of x)) (sym c.command-item.is)
    (small_at c.args.commands.now c.loop-command.command-index c.command-item.result c.loop-command-test.true
    c.requires.small) in
    record {
      ready = c.answer.ensures.ready;
      replied =
          replied_more o c.args.wild.now c.args.commands.now c.loop-command.command-index c.command-item.result
          c.loop-command.debugger c.answer.new.self _ _ _ c.loop-command-test.true c.command-item.is small
          c.loop-command.invariant.replied c.in_ok-answer.ensures.does;
    }

pub returns : goal.returns
returns g c =
    replied_all (g.P.Program.object c.args.program.now) c.args.wild.now c.args.commands.now c.loop-command.command-index
    c.loop-command.debugger _ _ c.loop-command-test.false c.loop-command.invariant.replied
