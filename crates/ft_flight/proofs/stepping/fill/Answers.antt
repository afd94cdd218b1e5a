use Rattle.std.proofs.Common.{rules, ◌-◌, ◌<◌, ◌≤◌, length, refl, sym, subst, ◌∙◌, arith}
use Rattle.ft_machine.specs.Processors.{state_over}
use Rattle.ft_machine.proofs.Arrayed.{within}
use Rattle.ft_flight.specs.Rings.{pending_of}
use Rattle.ft_flight.proofs.Turns.{fills_first, fills_on, seen_few, wild_first}
use Rattle.ft_flight.proofs.stepping.fill.Goals as goal

pub loop-left-init : goal.loop-left-init
loop-left-init g c =
    let o = g.P.Program.object c.args.program.now in
    let s = state_over c.args.processor.now (pending_of c.args.queue.now) c.args.cells.now in
    record {
      few = omega arith;
      within = omega arith;
      same = refl;
      seen = omega arith;
      wild = c.new-wild.ensures ∙ wild_first o s c.args.most;
      fills = fills_first o s c.args.most c.args.skip c.args.out.now;
    }

pub hand-handed-requires-clause-cell : goal.hand-handed-requires-clause-cell
hand-handed-requires-clause-cell g c = λ output is.
    (within c.loop-left.cells output.addr (c.advance-advance.ensures.commits output is)).0

pub loop-left-preserved : goal.loop-left-preserved
loop-left-preserved g c =
    let o = g.P.Program.object c.args.program.now in
    let i = c.loop-left.invariant in
    let h = c.hand-handed in
    let s = state_over c.args.processor.now (pending_of c.args.queue.now) c.args.cells.now in
    let free : c.loop-left.count < length c.loop-left.out = omega (arith, c.if-count-out.false) in
    let on = fills_on o s (state_over c.loop-left.processor (pending_of c.loop-left.queue) c.loop-left.cells)
    (state_over c.advance-advance.new.self (pending_of c.advance-advance.new.queue) c.advance-advance.new.cells)
    c.loop-left.wild c.advance-advance.new.wild c.args.most c.loop-left.left c.advance-advance.result.taken c.args.skip
    c.loop-left.seen c.loop-left.count h.result.seen h.result.count c.advance-advance.result.last c.loop-left.out
    h.new.out
    i.fills i.wild c.advance-advance.ensures.advances i.few h.ensures.seen h.ensures.count free h.ensures.same
    h.ensures.written in
    record {
      few = omega (arith, i.few);
      within = search rules;
      same = h.ensures.same ∙ i.same;
      seen = seen_few o s (state_over c.advance-advance.new.self (pending_of c.advance-advance.new.queue)
          c.advance-advance.new.cells)
          (c.args.most - (c.loop-left.left - c.advance-advance.result.taken)) c.args.skip h.result.seen h.result.count
          h.new.out on.0;
      wild = on.1;
      fills = on.0;
    }
