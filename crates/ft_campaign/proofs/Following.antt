-- Steps compared with the outputs of another run.
use Rattle.std.proofs.Common.{◌≡◌, ℕ, ◌+◌, ◌-◌, ◌^◌, ◌<◌, ◌≤◌, List, [], ◌∷◌, ◌++◌, length, take, Bool, true, false, ap}
use Rattle.std.proofs.Common.{sym, subst, ◌∙◌, append_assoc, arith, refl}
use Rattle.ft_isa.specs.declared.plan.Wild.{Wild}
use Rattle.ft_isa.specs.declared.output.Output.{Output}
use Rattle.ft_types.specs.declared.object.Object.{Object}
use Rattle.ft_semantics.specs.declared.status.Status.{Status}
use Rattle.ft_semantics.specs.declared.status.Status.TheVariants.{Running}
use Rattle.ft_semantics.specs.State.{State}
use Rattle.ft_semantics.specs.Agrees.{IsPrefix}
use Rattle.ft_machine.specs.declared.outlet.Outlet.{Ghosts}
use Rattle.ft_machine.specs.declared.stepped.Pause.{Pause}
use Rattle.ft_machine.specs.declared.stepped.Pause.TheVariants as pauses
use Rattle.ft_machine.specs.Goes.{Goes, goes_on, status_at}
use Rattle.ft_machine.specs.Spans.{span}
use Rattle.ft_machine.proofs.Counting.{few_fit, span_few}
use Rattle.ft_semantics.proofs.Runs.{HasStopped}
use Rattle.ft_machine.proofs.Spanned.{rest_of, span_running}
use Rattle.ft_campaign.specs.Follows.{Continues, Heeds, Follows, how_of}

pub continues_more : (whole : List Output) (a b c : ℕ) (xs more : List Output) → Continues whole a b xs →
    Continues whole b c more → Continues whole a c (xs ++ more)
continues_more whole a b c xs more h k = record {
  front = k.front ∙ ap (λ t. t ++ more) h.front ∙ append_assoc (take a whole) xs more;
  few = k.few;
}

pub apart_more : (whole : List Output) (a b : ℕ) (xs more : List Output) → Continues whole a b xs →
    ¬ (IsPrefix (take b whole ++ more) whole) → ¬ (IsPrefix (take a whole ++ (xs ++ more)) whole)
apart_more whole a b xs more h k p = k (subst (λ t.
    IsPrefix t whole) (sym (ap (λ t. t ++ more) h.front ∙ append_assoc (take a whole) xs more)) p)

pub not_running : (v : Status) → HasStopped v → v ≡ Running → ⊥
not_running v h e = subst HasStopped e h

-- if `Heeds true` holds of some outputs and `Heeds r` of the next one, `Heeds r` holds of all of them
pub heeds_next : (r : Bool) (whole : List Output) (first old new : ℕ) (before : List Output) (x : Output) →
    Heeds true whole first old before → Heeds r whole old new (x ∷ []) → Heeds r whole first new (before ++ x ∷ [])
heeds_next true whole first old new before x h k = continues_more whole first old new before (x ∷ []) h k
heeds_next false whole first old new before x h k = apart_more whole first old before (x ∷ []) h k

module _ {T : Type 0} (outlet : Ghosts T) (o : Object) (s s' : State) (w w' : List Wild) (t t' : T) (n number : ℕ)
    (whole : List Output) (old new : ℕ) (few : n ≤ number) where
  -- the steps of a run whose outputs are compared
  pub follows_so : (pause : Pause) → Goes outlet o s w t s' w' t' n pause →
      Heeds (goes_on pause) whole old new (span o n s w).outputs → (pause ≡ pauses.Running → n ≡ number) →
      (¬ (pause ≡ pauses.Running) → 0 < n)
      → Follows o s w s' w' whole old new number (record { done = n; how = how_of pause })
  follows_so pauses.Running a h all early = record {
    few = few;
    state_is = a.state_is;
    wild_is = a.wild_is;
    running = a.running;
    went = (all refl, h, a.status_is);
  }
  follows_so pauses.Done a h all early = record {
    few = few;
    state_is = a.state_is;
    wild_is = a.wild_is;
    running = a.running;
    went = (
      early (λ e. absurd (cc)),
      h,
      λ e. absurd
          (not_running (span o n s w).state.status (subst HasStopped (sym a.status_is) tt) e),
    );
  }
  follows_so pauses.Detected a h all early = record {
    few = few;
    state_is = a.state_is;
    wild_is = a.wild_is;
    running = a.running;
    went = (
      early (λ e. absurd (cc)),
      h,
      λ e. absurd
          (not_running (span o n s w).state.status (subst HasStopped (sym a.status_is) tt) e),
    );
  }
  follows_so pauses.Refused a h all early = record {
    few = few;
    state_is = a.state_is;
    wild_is = a.wild_is;
    running = a.running;
    went = (early (λ e. absurd (cc)), h);
  }

-- COUNTED STEPS

pub counted_all : (o : Object) (s : State) (w : List Wild) (n most now : ℕ) → n ≤ most → most < 2 ^ 64 →
    (0 + length (span o n s w).outputs < 2 ^ 64 → now ≡ 0 + length (span o n s w).outputs) → now
    ≡ length (span o n s w).outputs
counted_all o s w n most now few small h = let is =
    h (few_fit (length (span o n s w).outputs) n most (span_few o n s w) few small) in omega (arith, is)

module _ {T : Type 0} (outlet : Ghosts T) (o : Object) (s s' : State) (w w' : List Wild) (t t' : T) (n most : ℕ) where
  stopped_early : (pause : Pause) → Goes outlet o s w t s' w' t' n pause → n ≤ most → HasStopped (status_at pause) →
      (span o most s w).state.status ≡ Running → ⊥
  stopped_early pause a few h running =
      not_running (status_at pause) h
      (sym a.status_is ∙ span_running o n (most - n) s w (ap (λ k. (span o k s w).state.status) (rest_of n most few)
      ∙ running))

  -- an outlet that always goes on sees all steps of a run that is still running after them
  pub runs_to_end : (pause : Pause) → Goes outlet o s w t s' w' t' n pause → goes_on pause ≡ true → n ≤ most →
      (span o most s w).state.status ≡ Running → (pause ≡ pauses.Running → n ≡ most) → n ≡ most
  runs_to_end pauses.Running a is few running all = all refl
  runs_to_end pauses.Done a is few running all = absurd (stopped_early pauses.Done a few tt running)
  runs_to_end pauses.Detected a is few running all = absurd (stopped_early pauses.Detected a few tt running)
  runs_to_end pauses.Refused a is few running all = absurd (let e : false ≡ true = is in cc)
