use Rattle.std.proofs.Common.{◌≡◌, ℕ, ◌+◌, ◌-◌, ◌*◌, ◌<◌, ◌≤◌, true, is_ok, refl, ap, sym, ◌∙◌, subst, List, length}
use Rattle.std.proofs.Common.{take, get_or, arith, sum_by}
use Rattle.std.proofs.lemmas.Bool.{cond-true}
use Rattle.std.proofs.lemmas.List.{take_more}
use Rattle.std.proofs.lemmas.List.Sums.{sum_by_push, sum_by-take-le}
use Rattle.ft_isa.specs.declared.plan.Strike.{Strike}
use Rattle.ft_isa.specs.declared.plan.Wild.{Wild}
use Rattle.ft_types.specs.declared.object.Object.{Object}
use Rattle.ft_campaign.specs.declared.verdict.Verdict.{Verdict}
use Rattle.ft_campaign.specs.Snapshots.{IsCost, upto, last, first}
use Rattle.ft_campaign.specs.Verdicts.{AreVerdicts}
use Rattle.ft_campaign.proofs.Judged.{more_verdicts}
use Rattle.ft_campaign.proofs.judge.find_verdicts.Goals as goal

-- the sum of the costs, with one more fault
sum_more : (f : Strike → ℕ) (xs : List Strike) (i : ℕ) (x : Strike) → i < length xs → x ≡ get_or xs i x →
    sum_by f (take (i + 1) xs) ≡ sum_by f (take i xs) + f x
sum_more f xs i x lt is = ap (sum_by f) (take_more xs i x lt) ∙ sum_by_push f (take i xs) (get_or xs i x)
    ∙ ap (λ y. sum_by f (take i xs) + f y) (sym is)

-- the number of steps from a fault's snapshot to the last step bounds its cost
whole : (o : Object) (w : List Wild) (n : ℕ) (x : Strike) → IsCost o w n x (n - first x)
whole o w n x = upto n (last refl) refl

one_more : (a b d n i old : ℕ) → b ≤ a + d → d ≤ n → a ≤ old + (i + 1) * n → b ≤ old + (i + 1 + 1) * n
one_more a b d n i old h few before = grind (arith)

less : (n k : ℕ) → n - k ≤ n
less n k = omega arith

pub loop-fault-preserved : goal.loop-fault-preserved
loop-fault-preserved g c =
    let o = g.P.Program.object c.args.program.now in
    let ok : is_ok c.push.result ≡ true = sym c.map_err.ensures.variant ∙ ap is_ok c.in_ok-map_err.was in
    let pushed = c.push.ensures.items ∙ cond-true _ _ _ ok in
    record {
      verdicts =
          subst (λ (vs : List Verdict). AreVerdicts o (take (c.loop-fault.fault-index + 1) c.args.faults.now)
          c.args.wild.now c.args.n vs) (sym pushed)
          (more_verdicts o c.args.faults.now c.args.wild.now c.args.n _ c.loop-fault.fault-index c.fault-item.result _
          c.loop-fault-test.true c.fault-item.is c.judge_fault-verdict.ensures.verdict
          c.loop-fault.invariant.verdicts);
      cells = c.judge_fault-verdict.ensures.cells;
      steps =
          one_more c.loop-fault.steps c.judge_fault-verdict.new.steps (c.args.n - first c.fault-item.result) c.args.n
          c.loop-fault.fault-index c.args.steps.now
          (c.judge_fault-verdict.ensures.steps (c.args.n - first c.fault-item.result)
          (whole o c.args.wild.now c.args.n c.fault-item.result)) (less c.args.n (first c.fault-item.result))
          c.loop-fault.invariant.steps;
      cost = λ f h.
          let a = c.judge_fault-verdict.ensures.steps (f c.fault-item.result) (h c.fault-item.result) in
          let b = c.loop-fault.invariant.cost f h in
          let e = sum_more f c.args.faults.now c.loop-fault.fault-index c.fault-item.result c.loop-fault-test.true
          c.fault-item.is in
          omega (arith, a, b, e);
    }

wide : (b old n i l : ℕ) → i < l → b ≤ old + (i + 1 + 1) * n → b ≤ old + (l + 1) * n
wide b old n i l lt h = subst (λ k. b ≤ old + (k + 1) * n) (there i l lt) (more b old n i (l - (i + 1)) h)
  where
    there : (i l : ℕ) → i < l → i + 1 + (l - (i + 1)) ≡ l
    there i l lt = omega arith

    more : (b old n i d : ℕ) → b ≤ old + (i + 1 + 1) * n → b ≤ old + (i + 1 + d + 1) * n
    more b old n i d h = grind (arith)

pub returns-in_err-map_err-clause-steps : goal.returns-in_err-map_err-clause-steps
returns-in_err-map_err-clause-steps g c =
    let o = g.P.Program.object c.args.program.now in
    wide c.judge_fault-verdict.new.steps c.args.steps.now c.args.n c.loop-fault.fault-index (length c.args.faults.now)
    c.loop-fault-test.true
    (one_more c.loop-fault.steps c.judge_fault-verdict.new.steps (c.args.n - first c.fault-item.result) c.args.n
    c.loop-fault.fault-index c.args.steps.now
    (c.judge_fault-verdict.ensures.steps (c.args.n - first c.fault-item.result)
    (whole o c.args.wild.now c.args.n c.fault-item.result)) (less c.args.n (first c.fault-item.result))
    c.loop-fault.invariant.steps)

pub returns-in_err-map_err-clause-cost : goal.returns-in_err-map_err-clause-cost
returns-in_err-map_err-clause-cost g c = λ f h.
    let a = c.judge_fault-verdict.ensures.steps (f c.fault-item.result) (h c.fault-item.result) in
    let b = c.loop-fault.invariant.cost f h in
    let e = sum_more f c.args.faults.now c.loop-fault.fault-index c.fault-item.result c.loop-fault-test.true
    c.fault-item.is in
    let le = sum_by-take-le f c.args.faults.now (c.loop-fault.fault-index + 1) in
    omega (arith, a, b, e, le)

pub returns-clause-cost : goal.returns-clause-cost
returns-clause-cost g c = λ f h.
    let b = c.loop-fault.invariant.cost f h in
    let le = sum_by-take-le f c.args.faults.now c.loop-fault.fault-index in
    omega (arith, b, le)
