use Rattle.std.proofs.Common.{◌∙◌, sym, true, false}
use Rattle.ft_debug.proofs.Answered.{does_zap}
use Rattle.ft_debug.proofs.debugger.Debugger.answer_zap.Goals as goal

pub returns-then-zap-clause-ready : goal.returns-then-zap-clause-ready
returns-then-zap-clause-ready g c = c.zap.ensures.ready

pub returns-else-zap-clause-ready : goal.returns-else-zap-clause-ready
returns-else-zap-clause-ready g c = c.zap.ensures.ready

pub returns-then-zap-clause-does : goal.returns-then-zap-clause-does
returns-then-zap-clause-does g c = λ o.
    does_zap o c.args.self.now c.zap.new.self c.args.site c.args.value true c.put_line.result _ _
    (sym c.zap.ensures.there ∙ c.if-zap.true) (c.zap.ensures.holds o) c.put_line.ensures

pub returns-else-zap-clause-does : goal.returns-else-zap-clause-does
returns-else-zap-clause-does g c = λ o.
    does_zap o c.args.self.now c.zap.new.self c.args.site c.args.value false c.put_line-else-zap.result _ _
    (sym c.zap.ensures.there ∙ c.if-zap.false) (c.zap.ensures.holds o) c.put_line-else-zap.ensures
