-- What the flow does if the program's run ends or is cut, and how stretches of a run are joined.
use Rattle.std.proofs.Common.{◌≡◌, ℕ, suc, ◌+◌, ◌*◌, ◌≤◌, false, Some, refl, subst, arith}
use Rattle.ft_scope.specs.declared.slot.Slot.{Slot}
use Rattle.ft_syntax.specs.Plain.{Expression}
use Rattle.ft_meaning.specs.Meaning.{State, Outcome, Ended, Cut, state_of, evaluated, evaluated_both, with_left}
use Rattle.ft_meaning.specs.Meaning.{then_do}
use Rattle.ft_lower.specs.declared.step3.Step3.TheVariants.{Go}
use Rattle.ft_lower.specs.Flow.{Blocks, Place, FlowState, first, goes_to, with_pair, step_at}
use Rattle.ft_lower.proofs.Runs.{Reaches, reach_trans}
use Rattle.ft_lower.proofs.Expressions.{Like, put_first, reach_act}

-- the flow reaches place p in a state like the program's; it takes at least as many steps as the program takes turns,
-- and at most 2w - c steps, where w is the work done
pub record EndsAt (bs : Blocks) (n c : ℕ) (p : Place) (s : State) (f : FlowState) (t : State) : Type 0 where
  pub end : FlowState
  pub taken : ℕ
  pub reaches : Reaches bs taken f end
  pub few : taken + c + 2 * s.work ≤ 2 * t.work
  pub many : s.left ≤ t.left + taken
  pub like : Like n p t end

-- likewise for a run that is cut: the flow reaches some state with the run's outputs
pub record CutsAt (bs : Blocks) (c : ℕ) (s : State) (f : FlowState) (t : State) : Type 0 where
  pub end : FlowState
  pub taken : ℕ
  pub reaches : Reaches bs taken f end
  pub few : taken + c + 2 * s.work ≤ 2 * t.work
  pub many : s.left ≤ taken
  pub out : end.out ≡ t.out
  pub running : end.done ≡ false

-- what the flow does if the program has this outcome
abbrev pub Runs : Blocks → ℕ → ℕ → Place → State → FlowState → Outcome → Type 0
Runs bs n c p s f (Ended t) = EndsAt bs n c p s f t
Runs bs n c p s f (Cut t) = CutsAt bs c s f t

-- if j steps lead to a state from which the flow runs with this outcome, it does so from the state before them
pub prepend : (bs : Blocks) (n c d j : ℕ) (p : Place) (s s1 : State) (f f1 : FlowState) (r : Outcome) →
    Reaches bs j f f1 → j + c + 2 * s.work ≤ d + 2 * s1.work → s.left ≤ s1.left + j → Runs bs n d p s1 f1 r →
    Runs bs n c p s f r
prepend bs n c d j p s s1 f f1 (Ended t) to few many r = record {
  end = r.end;
  taken = j + r.taken;
  reaches = reach_trans bs j r.taken f f1 r.end to r.reaches;
  few = omega (arith, r.few);
  many = omega (arith, r.many);
  like = r.like;
}
prepend bs n c d j p s s1 f f1 (Cut t) to few many r = record {
  end = r.end;
  taken = j + r.taken;
  reaches = reach_trans bs j r.taken f f1 r.end to r.reaches;
  few = omega (arith, r.few);
  many = omega (arith, r.many);
  out = r.out;
  running = r.running;
}

-- if the flow runs to a jump, it also runs to the jump's target
pub jump_on : (bs : Blocks) (n c to : ℕ) (p : Place) (s : State) (f : FlowState) (r : Outcome) → step_at bs p
    ≡ Some (Go n to) → Runs bs n (suc c) p s f r → Runs bs n c (first to) s f r
jump_on bs n c to p s f (Ended t) at r =
    let g = goes_to to (with_pair n 0 r.end) in
    record {
      end = g;
      taken = r.taken + 1;
      reaches = reach_trans bs r.taken 1 f r.end g r.reaches (reach_act bs n p t r.end g (Go n to) r.like at refl);
      few = omega (arith, r.few);
      many = omega (arith, r.many);
      like = put_first n n 0 to p t r.end (omega arith) r.like;
    }
jump_on bs n c to p s f (Cut t) at r = record {
  end = r.end;
  taken = r.taken;
  reaches = r.reaches;
  few = omega (arith, r.few);
  many = r.many;
  out = r.out;
  running = r.running;
}

-- if one run follows another, the flow runs with the outcome of both in turn
pub then_run : (bs : Blocks) (n c : ℕ) (p q : Place) (s : State) (f : FlowState) (r : Outcome) (go : State → Outcome) →
    Runs bs n c p s f r → (state_of r).left ≤ s.left → ((t : State) (g : FlowState) → t.left ≤ s.left → Like n p t g →
    Runs bs n 0 q t g (go t)) → Runs bs n c q s f (then_do r go)
then_run bs n c p q s f (Ended t) go r le k = prepend bs n c 0 r.taken q s t f r.end (go t) r.reaches
    (omega (arith, r.few)) (omega (arith, r.many)) (k t r.end le r.like)
then_run bs n c p q s f (Cut t) go r le k = r

-- a run that ends at a place ends at any equal place
pub ends_at : (bs : Blocks) (n c : ℕ) (p q : Place) (s : State) (f : FlowState) (r : Outcome) → p ≡ q →
    Runs bs n c p s f r → Runs bs n c q s f r
ends_at bs n c p q s f r e h = subst (λ x. Runs bs n c x s f r) e h

-- `Like` does not depend on the work
pub like_evaluated : (n : ℕ) (p : Place) (e : Expression Slot) (s : State) (f : FlowState) → Like n p s f →
    Like n p (evaluated e s) f
like_evaluated n p e s f l = record {
  vars = l.vars;
  many = l.many;
  cells = l.cells;
  place = l.place;
  out = l.out;
  running = l.running;
}

-- likewise for the work of an index and a value
pub like_both : (n : ℕ) (p : Place) (i e : Expression Slot) (s : State) (f : FlowState) → Like n p s f →
    Like n p (evaluated_both i e s) f
like_both n p i e s f l = record {
  vars = l.vars;
  many = l.many;
  cells = l.cells;
  place = l.place;
  out = l.out;
  running = l.running;
}

-- `Like` does not depend on the turns that are left
pub like_left : (n k : ℕ) (p : Place) (s : State) (f : FlowState) → Like n p s f → Like n p (with_left k s) f
like_left n k p s f l = record {
  vars = l.vars;
  many = l.many;
  cells = l.cells;
  place = l.place;
  out = l.out;
  running = l.running;
}
