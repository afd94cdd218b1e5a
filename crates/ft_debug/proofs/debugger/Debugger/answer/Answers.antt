use Rattle.ft_debug.proofs.Answered.{answers, answers_bad}
use Rattle.ft_debug.proofs.debugger.Debugger.answer.Goals as goal

pub returns-in-Back-clause-ready : goal.returns-in-Back-clause-ready
returns-in-Back-clause-ready g c = c.answer_back.ensures.ready (g.P.Program.object c.args.program.now) c.requires.ready

pub returns-in-Back-clause-does : goal.returns-in-Back-clause-does
returns-in-Back-clause-does g c =
    let o = g.P.Program.object c.args.program.now in answers o c.args.self.now c.answer_back.new.self c.args.command _
    c.answer_back.result _ _ c.in-Back.is (c.answer_back.ensures.does o)

pub returns-in-Zap-clause-ready : goal.returns-in-Zap-clause-ready
returns-in-Zap-clause-ready g c = c.answer_zap.ensures.ready (g.P.Program.object c.args.program.now) c.requires.ready

pub returns-in-Zap-clause-does : goal.returns-in-Zap-clause-does
returns-in-Zap-clause-does g c =
    let o = g.P.Program.object c.args.program.now in answers o c.args.self.now c.answer_zap.new.self c.args.command _
    c.answer_zap.result _ _ c.in-Zap.is (c.answer_zap.ensures.does o)

pub returns-in-Reg-clause-does : goal.returns-in-Reg-clause-does
returns-in-Reg-clause-does g c =
    let o = g.P.Program.object c.args.program.now in answers o c.args.self.now c.args.self.now c.args.command _
    c.answer_reg.result _ _ c.in-Reg.is (c.answer_reg.ensures o)

pub returns-in-Queue-clause-does : goal.returns-in-Queue-clause-does
returns-in-Queue-clause-does g c =
    let o = g.P.Program.object c.args.program.now in answers o c.args.self.now c.args.self.now c.args.command _
    c.answer_queue.result _ _ c.in-Queue.is (c.answer_queue.ensures o)

pub returns-in-Bad-clause-does : goal.returns-in-Bad-clause-does
returns-in-Bad-clause-does g c =
    let o = g.P.Program.object c.args.program.now in
    answers o c.args.self.now c.args.self.now c.args.command _ c.put_line.result _ _ c.in-Bad.is
    (answers_bad o c.args.self.now c.put_line.result _ _ c.put_line.ensures)
