use Rattle.std.proofs.Common.{◌-◌, ◌<◌, ◌≤◌, length, refl, sym, subst, ◌∙◌, arith}
use Rattle.ft_embed.proofs.Stretches.{fills_first, fills_on, fills_cells, goes_to_cell}
use Rattle.ft_embed.proofs.filling.fill.Goals as goal

pub loop-left-init : goal.loop-left-init
loop-left-init g c = record {
  few = omega arith;
  within = c.requires.within;
  same = refl;
  further = omega arith;
  no_room = λ _. refl;
  fills = fills_first (g.P.Program.object c.args.program.now) c.args.machine.now c.args.wild.now c.args.most c.args.from
      c.args.out.now;
}

pub put_told-count-requires-clause-cell : goal.put_told-count-requires-clause-cell
put_told-count-requires-clause-cell g c =
    let o = g.P.Program.object c.args.program.now in
    goes_to_cell c.advance-advance.result.last c.loop-left.machine (length o.cells)
    (fills_cells o c.args.machine.now c.loop-left.machine c.args.wild.now c.loop-left.wild
    (c.args.most - c.loop-left.left) c.args.from c.loop-left.count c.args.out.now c.loop-left.out
    c.loop-left.invariant.fills (length o.cells) c.requires.cells)
    c.advance-advance.ensures.commits

pub loop-left-preserved : goal.loop-left-preserved
loop-left-preserved g c =
    let o = g.P.Program.object c.args.program.now in
    let i = c.loop-left.invariant in
    let free : c.loop-left.count < length c.loop-left.out = omega (arith, c.if-count-out.false) in
    record {
      few = omega (arith, c.loop-left.invariant.few);
      within = subst (λ n. c.put_told-count.result ≤ n) (sym c.put_told-count.ensures.same)
          c.put_told-count.ensures.within;
      same = c.put_told-count.ensures.same ∙ c.loop-left.invariant.same;
      further = omega (arith, i.further, c.put_told-count.ensures.further);
      no_room = λ none. absurd (omega (arith, none, i.same, i.further, c.if-count-out.false));
      fills = fills_on o c.args.machine.now c.loop-left.machine c.advance-advance.new.self c.args.wild.now
          c.loop-left.wild c.advance-advance.new.wild
          c.args.most c.loop-left.left c.advance-advance.result.taken c.args.from c.loop-left.count
          c.put_told-count.result c.advance-advance.result.last c.args.out.now c.loop-left.out
          c.put_told-count.new.out
          c.loop-left.invariant.few i.same free
          (subst (λ n. c.put_told-count.result ≤ n) (sym c.put_told-count.ensures.same) c.put_told-count.ensures.within)
          i.fills c.advance-advance.ensures.advances c.put_told-count.ensures.written;
    }
