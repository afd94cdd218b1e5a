use Rattle.std.proofs.Common.{arith}
use Rattle.ft_debug.proofs.Answered.{back_refused, back_taken}
use Rattle.ft_debug.proofs.debugger.Debugger.answer_back.Goals as goal

pub returns-then-count-len-clause-does : goal.returns-then-count-len-clause-does
returns-then-count-len-clause-does g c = λ o.
    back_refused o c.args.self.now c.args.count c.put_line.result _ _
    (omega (arith, c.len.ensures, c.if-count-len.true)) c.put_line.ensures

pub returns-clause-ready : goal.returns-clause-ready
returns-clause-ready g c = c.rewind.ensures.ready

pub returns-clause-does : goal.returns-clause-does
returns-clause-does g c = λ o.
    back_taken o c.args.self.now c.rewind.new.self c.args.count c.put_at.result _ _
    (omega (arith, c.len.ensures, c.if-count-len.false)) (c.rewind.ensures.holds o) c.put_at.ensures
