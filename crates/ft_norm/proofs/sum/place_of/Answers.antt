use Rattle.std.proofs.Common.{◌≡◌, ℕ, arith}
use Rattle.ft_norm.specs.declared.entry.Term.{Term}
use Rattle.ft_norm.proofs.Ordered.{halves, search_after, search_before, search_there, term_ordered}
use Rattle.ft_norm.proofs.sum.place_of.Goals as goal

pub loop-low-init : goal.loop-low-init
loop-low-init c = record {
  within = omega arith;
  order = omega arith;
  after = λ (t : Term) (j : ℕ) e. absurd (omega (arith, e));
  before = λ (t : Term) l. absurd (omega (arith, l));
}

pub bounds-sum-middle : goal.bounds-sum-middle
bounds-sum-middle c = let h = halves c.loop-low.low c.loop-low.high c.loop-low-test.true in
    let w = c.loop-low.invariant.within in omega (arith, h, w)

pub returns-in-Equal-clause-there : goal.returns-in-Equal-clause-there
returns-in-Equal-clause-there c =
    let h = halves c.loop-low.low c.loop-low.high c.loop-low-test.true in
    let w = c.loop-low.invariant.within in
    search_there c.args.sum.now c.args.atoms _ _ c.compare.result (omega (arith, h, w)) c.compare.ensures c.in-Equal.is

pub loop-low-preserved-in-Less : goal.loop-low-preserved-in-Less
loop-low-preserved-in-Less c =
    let h = halves c.loop-low.low c.loop-low.high c.loop-low-test.true in
    let w = c.loop-low.invariant.within in
    record {
      within = w;
      order = omega (arith, h);
      after = search_after c.args.sum.now c.args.atoms _ _ c.compare.result (omega (arith, h, w)) c.compare.ensures
          c.in-Less.is;
      before = c.loop-low.invariant.before;
    }

pub loop-low-preserved : goal.loop-low-preserved
loop-low-preserved c =
    let h = halves c.loop-low.low c.loop-low.high c.loop-low-test.true in
    let w = c.loop-low.invariant.within in
    record {
      within = omega (arith, h, w);
      order = omega (arith, h);
      after = c.loop-low.invariant.after;
      before = search_before c.args.sum.now c.args.atoms _ _ c.compare.result (omega (arith, h, w)) c.compare.ensures
          c.in-Greater.is;
    }

pub returns-clause-place : goal.returns-clause-place
returns-clause-place c =
    let e : c.loop-low.low ≡ c.loop-low.high = let o = c.loop-low.invariant.order in let t = c.loop-low-test.false in
    omega (arith, o, t) in
    record {
      within = let w = c.loop-low.invariant.within in omega (arith, e, w);
      after = c.loop-low.invariant.after;
      before = rw e c.loop-low.invariant.before;
    }

pub compare-requires-clause-first : goal.compare-requires-clause-first
compare-requires-clause-first c =
    let h = halves c.loop-low.low c.loop-low.high c.loop-low-test.true in
    let w = c.loop-low.invariant.within in
    (term_ordered c.args.sum.now _ _ c.requires.sum (omega (arith, h, w))).0
