use Rattle.std.proofs.Common.{arith}
use Rattle.ft_norm.proofs.Ways.{alike_known, leads_on, turn_low, turn_read}
use Rattle.ft_norm.proofs.turns.turn.Goals as goal

pub returns-then-j-i-clause-turn : goal.returns-then-j-i-clause-turn
returns-then-j-i-clause-turn c = λ m h.
    let es = c.args.entries.now in
    let q = c.in-Some.path.now in
    let path = c.requires.paths c.loop-path.v q c.in-Some.ensures.path in
    turn_low es m c.args.at c.args.i c.loop-path.v _ c.level-j.result q path
    (alike_known es c.loop-path.v c.args.at c.args.base q path c.in-Some.ensures.base c.requires.base)
    c.level-j.ensures.agree (c.loop-path.invariant.leads m h) (omega (arith, c.if-j-i.true))
    (turn_read es c.loop-path.v c.args.i q path c.requires.bit)

pub loop-path-smaller : goal.loop-path-smaller
loop-path-smaller c =
    let path = c.requires.paths c.loop-path.v c.in-Some.path.now c.in-Some.ensures.path in
    (path.turns c.level-j.result _ (turn_read c.args.entries.now c.loop-path.v c.level-j.result c.in-Some.path.now path
    (omega (arith, c.if-j-i.false, c.requires.bit)))).below

pub loop-path-preserved : goal.loop-path-preserved
loop-path-preserved c = record {
  leads = λ m h.
      let es = c.args.entries.now in
      let q = c.in-Some.path.now in
      let path = c.requires.paths c.loop-path.v q c.in-Some.ensures.path in
      leads_on es m c.args.at c.args.i c.loop-path.v _ c.level-j.result q path
      (alike_known es c.loop-path.v c.args.at c.args.base q path c.in-Some.ensures.base c.requires.base)
      c.level-j.ensures.agree (c.loop-path.invariant.leads m h)
      (c.level-j.ensures.differ (omega (arith, c.if-j-i.false, c.requires.bit)))
      (omega (arith, c.if-j-i.false, c.if-j-i-2.false))
      (turn_read es c.loop-path.v c.level-j.result q path (omega (arith, c.if-j-i.false, c.requires.bit)));
}
