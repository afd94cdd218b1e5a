use Rattle.std.proofs.Common.{None}
use Rattle.ft_semantics.specs.Run.{status_after}
use Rattle.ft_recover.specs.Recovery.{restart_output, whole_output}
use Rattle.ft_recover.proofs.Restarts.{finishes_as, finishes_restart, finishes_puts}
use Rattle.ft_recover.proofs.runs.recover_on.Goals as goal

pub returns-in-Ok-clause-ends : goal.returns-in-Ok-clause-ends
returns-in-Ok-clause-ends g c =
    let o = g.P.Program.object c.args.program.now in
    let status = status_after o None c.args.plan.wild.now c.args.steps in
    let restart = restart_output o c.args.plan.strike c.args.plan.wild.now c.args.steps in
    finishes_as status restart c.in-Ok.end c.in-Ok.ensures.ends

pub returns-in-Ok-clause-again : goal.returns-in-Ok-clause-again
returns-in-Ok-clause-again g c =
    let o = g.P.Program.object c.args.program.now in
    let status = status_after o None c.args.plan.wild.now c.args.steps in
    let restart = restart_output o c.args.plan.strike c.args.plan.wild.now c.args.steps in
    finishes_restart status restart c.in-Ok.end c.in-Ok.ensures.ends

pub returns-in-Ok-clause-lines : goal.returns-in-Ok-clause-lines
returns-in-Ok-clause-lines g c =
    let o = g.P.Program.object c.args.program.now in
    let status = status_after o None c.args.plan.wild.now c.args.steps in
    let restart = restart_output o c.args.plan.strike c.args.plan.wild.now c.args.steps in
    let lines = whole_output o c.args.plan.wild.now c.args.steps in
    finishes_puts status restart c.in-Ok.end lines (g.K.Sink.log c.args.out.now) (g.K.Sink.log c.run_both.new.out)
    c.in-Ok.ensures.ends c.in-Ok.ensures.puts
