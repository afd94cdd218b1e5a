use Rattle.std.proofs.Common.{◌≡◌, arith, subst, sym}
use Rattle.ft_norm.specs.Ways.{AreAlike}
use Rattle.ft_norm.proofs.Ways.{alike_joined, alike_known, skips_none, skips_on, turn_read, update_one}
use Rattle.ft_norm.proofs.turns.follow.Goals as goal

pub loop-path-init : goal.loop-path-init
loop-path-init c = record {
  way = λ a v k u i.
      let es = c.args.entries.now in
      let q = c.in-Some.first.now in
      let path = c.requires.paths c.args.m q (sym c.in-Some.ensures.value) in
      let e : a ≡ q.at = update_one es c.args.m a v k q.at path.value path.older u path.update in (
        alike_joined es c.args.p q.at q.base (subst (λ b. AreAlike es c.args.p b) e i) path.base,
        skips_none es c.args.m c.args.p c.requires.memory,
      );
}

pub returns-then-i-ge-BITS : goal.returns-then-i-ge-BITS
returns-then-i-ge-BITS c = λ a v k u i. (c.loop-path.invariant.way a v k u i).1

pub loop-path-smaller : goal.loop-path-smaller
loop-path-smaller c =
    let path = c.requires.paths c.loop-path.v c.in-Some-known.path.now c.in-Some-known.ensures.path in
    (path.turns c.level-i.result _ (turn_read c.args.entries.now c.loop-path.v c.level-i.result
    c.in-Some-known.path.now path (omega (arith, c.if-i-ge-BITS.false)))).below

pub loop-path-preserved : goal.loop-path-preserved
loop-path-preserved c = record {
  way = λ a v k u i.
      let es = c.args.entries.now in
      let q = c.in-Some-known.path.now in
      let path = c.requires.paths c.loop-path.v q c.in-Some-known.ensures.path in
      let s = c.loop-path.invariant.way a v k u i in
      let near = alike_known es c.loop-path.v c.args.p c.in-Some.first.now.base q path c.in-Some-known.ensures.base s.0
      in (
        s.0,
        skips_on es c.args.m c.args.p c.loop-path.v _ c.level-i.result q c.requires.entries path near
            c.level-i.ensures.agree (c.level-i.ensures.differ (omega (arith, c.if-i-ge-BITS.false)))
            (turn_read es c.loop-path.v c.level-i.result q path (omega (arith, c.if-i-ge-BITS.false))) s.1,
      );
}
