use Rattle.ft_debug.specs.Sessions.{walks, never}
use Rattle.ft_debug.proofs.Answered.{does_report, report_breaks}
use Rattle.ft_debug.proofs.debugger.Debugger.answer_step.Goals as goal

pub returns-in_err-walk-clause-does : goal.returns-in_err-walk-clause-does
returns-in_err-walk-clause-does g c =
    let o = g.P.Program.object c.args.program.now in
    report_breaks (λ w. walks o w never c.args.count) o c.args.self.now c.walk.new.self c.in_err-walk.field-0.0
    c.from_residual.result _ _ c.from_residual.ensures.0
    c.in_err-walk.ensures.does

pub returns-clause-does : goal.returns-clause-does
returns-clause-does g c =
    let o = g.P.Program.object c.args.program.now in
    does_report (λ w. walks o w never c.args.count) o c.args.self.now c.walk.new.self c.put_at.result _ _ _
    c.in_ok-walk.ensures.does c.put_at.ensures
