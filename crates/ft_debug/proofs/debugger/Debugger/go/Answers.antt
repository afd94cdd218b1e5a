use Rattle.std.proofs.Common.{◌∙◌, sym}
use Rattle.ft_debug.proofs.Gone.{go_none, go_stopped, go_breaks, go_on}
use Rattle.ft_debug.proofs.debugger.Debugger.go.Goals as goal

pub returns-then-count-eq0-clause-does : goal.returns-then-count-eq0-clause-does
returns-then-count-eq0-clause-does g c =
    go_none (g.P.Program.object c.args.program.now) c.args.count c.args.self.now (g.K.Sink.log c.args.out.now)
    c.if-count-eq0.true

pub returns-then-not-is_running-clause-does : goal.returns-then-not-is_running-clause-does
returns-then-not-is_running-clause-does g c =
    go_stopped (g.P.Program.object c.args.program.now) c.args.count c.args.self.now (g.K.Sink.log c.args.out.now)
    (sym c.is_running.ensures ∙ c.if-not-is_running.true)

pub returns-in_err-advance-clause-does : goal.returns-in_err-advance-clause-does
returns-in_err-advance-clause-does g c =
    go_breaks (g.P.Program.object c.args.program.now) c.args.count c.args.self.now c.advance.new.self
    c.in_err-advance.field-0.0
    c.from_residual.result _ _ c.from_residual.ensures.0 c.if-count-eq0.false
    (sym c.is_running.ensures ∙ c.if-not-is_running.false)
    c.in_err-advance.ensures.does

pub returns-clause-does : goal.returns-clause-does
returns-clause-does g c =
    go_on (g.P.Program.object c.args.program.now) c.args.count c.args.self.now c.advance.new.self c.walk.new.self
    c.walk.result _ _ _ c.if-count-eq0.false (sym c.is_running.ensures ∙ c.if-not-is_running.false)
    c.advance.ensures.breaks
    c.in_ok-advance.ensures.does c.walk.ensures.does
