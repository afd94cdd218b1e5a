use Rattle.ft_debug.specs.Sessions.{goes}
use Rattle.ft_debug.proofs.Answered.{does_report, report_breaks}
use Rattle.ft_debug.proofs.debugger.Debugger.answer_go.Goals as goal

pub returns-in_err-go-clause-does : goal.returns-in_err-go-clause-does
returns-in_err-go-clause-does g c =
    let o = g.P.Program.object c.args.program.now in
    report_breaks (λ w. goes o w c.args.count) o c.args.self.now c.go.new.self c.in_err-go.field-0.0
    c.from_residual.result _ _ c.from_residual.ensures.0
    c.in_err-go.ensures.does

pub returns-clause-does : goal.returns-clause-does
returns-clause-does g c =
    let o = g.P.Program.object c.args.program.now in
    does_report (λ w. goes o w c.args.count) o c.args.self.now c.go.new.self c.put_at.result _ _ _
    c.in_ok-go.ensures.does c.put_at.ensures
