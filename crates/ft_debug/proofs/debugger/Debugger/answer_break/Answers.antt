use Rattle.std.proofs.Common.{◌∙◌, sym, refl, true, false, length, nat_lt}
use Rattle.ft_debug.proofs.Answered.{break_nowhere, break_again, break_refused, break_added, room_is}
use Rattle.ft_debug.proofs.debugger.Debugger.answer_break.Goals as goal

pub returns-in_default-clause-does : goal.returns-in_default-clause-does
returns-in_default-clause-does g c =
    break_nowhere (g.P.Program.object c.args.program.now) c.args.self.now c.args.block c.args.index c.put_line.result _
    _ (sym c.break_address.ensures ∙ c.in_default.is) c.put_line.ensures

pub returns-then-contains-clause-does : goal.returns-then-contains-clause-does
returns-then-contains-clause-does g c =
    break_again (g.P.Program.object c.args.program.now) c.args.self.now c.args.block c.args.index c.in-Some.address
    c.put_line-then-contains.result _ _ (sym c.break_address.ensures ∙ c.in-Some.is)
    (sym c.contains.ensures ∙ c.if-contains.true) c.put_line-then-contains.ensures

pub returns-then-is_full-clause-does : goal.returns-then-is_full-clause-does
returns-then-is_full-clause-does g c =
    break_refused (g.P.Program.object c.args.program.now) c.args.self.now c.args.block c.args.index c.in-Some.address
    c.put_line-then-is_full.result _ _ (sym c.break_address.ensures ∙ c.in-Some.is)
    (sym c.contains.ensures ∙ c.if-contains.false)
    (room_is c.is_full.result (nat_lt (length c.args.self.now.breaks) 64) true c.is_full.ensures c.if-is_full.true)
    c.put_line-then-is_full.ensures

pub returns-clause-does : goal.returns-clause-does
returns-clause-does g c =
    break_added (g.P.Program.object c.args.program.now) c.args.self.now _ c.args.block c.args.index c.in-Some.address
    c.put_line-2.result _ _ (sym c.break_address.ensures ∙ c.in-Some.is) (sym c.contains.ensures ∙ c.if-contains.false)
    (room_is c.is_full.result (nat_lt (length c.args.self.now.breaks) 64) false c.is_full.ensures c.if-is_full.false)
    refl refl c.add.ensures c.put_line-2.ensures
