-- Runs under a plan: a run no longer changes once it has stopped, and its outputs only grow.
use Rattle.std.proofs.Common.{◌≡◌, ℕ, suc, ◌<◌, ◌≤◌, List, length, Option, Some, None, Bool, true, false, ◌&&◌, refl}
use Rattle.std.proofs.Common.{ap, ◌∙◌, append-nil}
use Rattle.std.specs.Prelude.{if◌then◌else◌, ◌==◌}
use Rattle.std.specs.Option.{option_to_list}
use Rattle.ft_simulation.proofs.Lists.{begins_itself, begins_on}
use Rattle.ft_simulation.proofs.Sequences.{later, stays, ends_once, goes_on}
use Rattle.ft_isa.specs.declared.plan.Wild.{Wild}
use Rattle.ft_isa.specs.declared.plan.Strike.{Strike}
use Rattle.ft_types.specs.declared.object.Object.{Object}
use Rattle.ft_semantics.specs.declared.status.Status.{Status}
use Rattle.ft_semantics.specs.declared.status.Status.TheVariants.{Running, Done, Detected}
use Rattle.ft_semantics.specs.Agrees.{IsPrefix}
use Rattle.ft_semantics.specs.State.{State}
use Rattle.ft_semantics.specs.Step.{step, step_at, quiet}
use Rattle.ft_semantics.specs.Strike.{is_running, is_site, struck_state, struck_before, with_word}
use Rattle.ft_semantics.specs.Run.{Ran, extended, after_step, run, outputs_after, status_after}

-- the machine has stopped
abbrev pub HasStopped : Status → Type 0
HasStopped Running = ⊥
HasStopped Done = Unit {0}
HasStopped Detected = Unit {0}

-- a machine whose status is not Running has stopped
pub stop_of : (v : Status) → ¬ (v ≡ Running) → HasStopped v
stop_of Running h = absurd (h refl)
stop_of Done h = tt
stop_of Detected h = tt

-- a step of a stopped machine changes nothing
pub stays_at : (o : Object) (v : Status) (s : State) (w : List Wild) → HasStopped v → step_at o v s w ≡ quiet s w
stays_at o Running s w h = absurd h
stays_at o Done s w h = refl
stays_at o Detected s w h = refl

-- a stopped machine is not running
pub is_not_running : (v : Status) → HasStopped v → is_running v ≡ false
is_not_running Running h = absurd h
is_not_running Done h = refl
is_not_running Detected h = refl

same_if : (b : Bool) (s t : State) → t ≡ s → (if b then t else s) ≡ s
same_if true s t h = h
same_if false s t h = refl

-- a strike does not change a stopped machine
struck-stopped : (strike : Option Strike) (k : ℕ) (s : State) → HasStopped s.status → struck_before strike k s ≡ s
struck-stopped None k s h = refl
struck-stopped (Some x) k s h =
    same_if (x.step == k) s (struck_state s x.site x.value) (ap (λ b. if b && is_site x.site (length s.queue)
    then with_word x.site x.value s else s) (is_not_running s.status h))

-- nothing changes after the stop
after_step-stopped : (o : Object) (strike : Option Strike) (k : ℕ) (r : Ran) → HasStopped r.state.status →
    after_step o strike k r ≡ r
after_step-stopped o strike k r h =
    ap (λ s. extended r.outputs (step o s r.wild)) (struck-stopped strike k r.state h)
    ∙ ap (extended r.outputs) (stays_at o r.state.status r.state r.wild h)
    ∙ ap (λ xs. record { state = r.state; wild = r.wild; outputs = xs }) (append-nil r.outputs)

-- a run has stopped
abbrev Stopped : Ran → Type 0
Stopped r = HasStopped r.state.status

module _ (o : Object) (strike : Option Strike) (w : List Wild) where
  stops : (k : ℕ) → HasStopped (status_after o strike w k) → run o strike w (suc k) ≡ run o strike w k
  unfolding run
  stops k h = after_step-stopped o strike k (run o strike w k) h

  -- a run that has stopped stays as it is
  pub run_stays : (n m : ℕ) → n ≤ m → HasStopped (status_after o strike w n) → run o strike w m ≡ run o strike w n
  run_stays = stays (run o strike w) Stopped stops

  -- a run that has stopped after n steps and after m steps is the same after both
  pub run_stops_once : (n m : ℕ) → HasStopped (status_after o strike w n) → HasStopped (status_after o strike w m)
      → run o strike w n ≡ run o strike w m
  run_stops_once = ends_once (run o strike w) Stopped stops

  -- if a run has not stopped after n steps but has after m, n is less than m
  pub run_goes_on : (n m : ℕ) → (HasStopped (status_after o strike w n) → ⊥) → HasStopped (status_after o strike w m)
      → n < m
  run_goes_on = goes_on (run o strike w) Stopped stops

  -- the outputs only grow
  pub outputs_grow : (n m : ℕ) → n ≤ m → IsPrefix (outputs_after o strike w n) (outputs_after o strike w m)
  unfolding run
  outputs_grow = later (run o strike w) (λ r x. IsPrefix r.outputs x.outputs) (λ r. begins_itself r.outputs)
      (λ r x y. begins_on r.outputs x.outputs y.outputs)
      (λ k. let r = run o strike w k in (option_to_list (step o (struck_before strike k r.state) r.wild).output, refl))
