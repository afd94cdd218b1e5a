-- Runs in which a counter is struck.
use Rattle.std.proofs.Common.{◌≡◌, ◌≢◌, ⊎_elim, ℕ, suc, ◌<◌, ◌≤◌, true, ◌&&◌}
use Rattle.std.proofs.Common.{if◌then◌else◌, List, ◌++◌, Some, None, refl, sym, ap, ◌∙◌, subst}
use Rattle.std.proofs.Common.{arith, append-nil}
use Rattle.std.specs.Option.{option_to_list}
use Rattle.std.proofs.lemmas.Bool.{cases_eq, cases_lt, ne_eqb}
use Rattle.ft_isa.specs.Words.{IsWord}
use Rattle.ft_isa.specs.declared.instr.Instr.{Instr}
use Rattle.ft_isa.specs.declared.output.Output.{Output}
use Rattle.ft_isa.specs.declared.plan.Site.{Site}
use Rattle.ft_isa.specs.declared.plan.Site.TheVariants.{PcG, PcB}
use Rattle.ft_isa.specs.declared.plan.Strike.{Strike}
use Rattle.ft_isa.specs.declared.plan.Wild.{Wild}
use Rattle.ft_types.specs.declared.object.Object.{Object}
use Rattle.ft_types.specs.Objects.{instr_at}
use Rattle.ft_semantics.specs.declared.status.Status.TheVariants.{Running, Detected}
use Rattle.ft_semantics.specs.State.{State}
use Rattle.ft_semantics.specs.Step.{step, step_at, advance, fetch, detected, next}
use Rattle.ft_semantics.specs.Strike.{is_running, is_there, with_word}
use Rattle.ft_semantics.specs.Run.{Ran, extended, run, state_after, wild_after, outputs_after, status_after}
use Rattle.ft_semantics.proofs.Runs.{HasStopped, run_stays}
use Rattle.ft_semantics.proofs.Struck.{spared}
use Rattle.ft_access.specs.Lasting.{fetched_at, at_once, strike_at, IsSameAfter}
use Rattle.ft_access.specs.Counters.{is_counter, counter_of}
use Rattle.ft_access.proofs.Changes.{Change, transfers_to, act, counts}
use Rattle.ft_access.proofs.Doings.{Doing, result, doing, execute_is, struck_is}
use Rattle.ft_access.proofs.Steps.{same_status, same_fetched}
use Rattle.ft_access.proofs.Waiting.{onwards, struck_free, ready_there, ready_later, same_on, same_upto, same_back}
use Rattle.ft_access.proofs.Waiting.{same_both, same_run, same_stopped}
use Rattle.ft_access.proofs.Counters.{AreEqual, same_green, same_blue}
use Rattle.ft_access.proofs.Counters.{act_green, act_blue, act_green_next, act_blue_next, act_cleared, act_runs}
use Rattle.ft_access.proofs.Counters.{are_equal}

-- EITHER COUNTER

-- an instruction does the same from a state with a struck counter
same_counter : (i : Instr) (x : Site) (v : ℕ) (s : State) (w : List Wild) → is_counter x ≡ true →
    doing i (with_word x v s) w ≡ doing i s w
same_counter i PcG v s w h = same_green i v s w
same_counter i PcB v s w h = same_blue i v s w
same_counter i x v s w h = cc

-- a change that counts keeps a struck counter, with one more
counted : (c : Change) (x : Site) (v : ℕ) (s : State) → is_counter x ≡ true → counts c ≡ true → act c (with_word x v s)
    ≡ with_word x (next v) (act c s)
counted c PcG v s h f = act_green c v s f
counted c PcB v s h f = act_blue c v s f
counted c x v s h f = cc

-- a transfer overwrites a struck counter
transferred : (a : ℕ) (x : Site) (v : ℕ) (s : State) → is_counter x ≡ true → act (transfers_to a) (with_word x v s)
    ≡ act (transfers_to a) s
transferred a PcG v s h = refl
transferred a PcB v s h = refl
transferred a x v s h = cc

-- the counters of a running machine are there
pub counter_there : (x : Site) (s : State) → is_counter x ≡ true → s.status ≡ Running → is_there s x ≡ true
counter_there PcG s h e = ap (λ v. is_running v && true) e
counter_there PcB s h e = ap (λ v. is_running v && true) e
counter_there x s h e = cc

-- a change that counts adds one to a counter
counter_next : (c : Change) (x : Site) (s : State) → is_counter x ≡ true → counts c ≡ true → counter_of x (act c s)
    ≡ next (counter_of x s)
counter_next c PcG s h f = act_green_next c s f
counter_next c PcB s h f = act_blue_next c s f
counter_next c x s h f = cc

-- a fetch detects that the counters differ
fetch_fails : (o : Object) (x : Site) (v : ℕ) (s : State) (w : List Wild) → is_counter x ≡ true → AreEqual s → v
    ≢ counter_of x s → advance o None (with_word x v s) w ≡ detected (with_word x v s) w
fetch_fails o PcG v s w h e other =
    ap (λ b. if b then fetch (instr_at o v) (with_word PcG v s) w else detected (with_word PcG v s) w)
    (ne_eqb v s.pc_blue (λ f. other (f ∙ sym e)))
fetch_fails o PcB v s w h e other =
    ap (λ b. if b then fetch (instr_at o s.pc_green) (with_word PcB v s) w else detected (with_word PcB v s) w)
    (ne_eqb s.pc_green v (λ f. other (sym f ∙ e)))
fetch_fails o x v s w h e other = cc

-- different words have different successors
pub next_other : (v p : ℕ) → IsWord v → IsWord p → v ≢ p → next v ≢ next p
next_other v p a b other e = other (omega (arith, a, b, e))

-- RUNS

module _ (o : Object) (w : List Wild) (k : ℕ) (x : Site) (v : ℕ) (cx : is_counter x ≡ true)
    (go : status_after o None w k ≡ Running) where
  abbrev s : State
  s = state_after o None w k

  abbrev strike : Strike
  strike = strike_at k x v

  there : is_there s x ≡ true
  there = counter_there x s cx go

  -- the struck run after the step of the strike
  struck_step : run o (Some strike) w (suc k)
      ≡ extended (outputs_after o None w k) (advance o (fetched_at o w k) (with_word x v s) (wild_after o None w k))
  unfolding run
  struck_step =
      ap (onwards o) (ready_there o w k x v)
      ∙ ap (λ t. extended (outputs_after o None w k) (step o t (wild_after o None w k))) (struck_is s x v there)
      ∙ ap (λ u. extended (outputs_after o None w k) (step_at o u (with_word x v s) (wild_after o None w k)))
      (same_status x v s ∙ go)
      ∙ ap (λ f. extended (outputs_after o None w k) (advance o f (with_word x v s) (wild_after o None w k)))
      (same_fetched x v s)

  free_step : run o None w (suc k) ≡ extended (outputs_after o None w k)
      (advance o (fetched_at o w k) s (wild_after o None w k))
  unfolding run
  free_step = ap (λ u. extended (outputs_after o None w k) (step_at o u s (wild_after o None w k))) go

  -- at a fetch
  module _ (n : ℕ) (lt : k < n) (nothing : fetched_at o w k ≡ None) (other : v ≢ counter_of x s) where
    detected_then : run o (Some strike) w (suc k)
        ≡ extended (outputs_after o None w k) (detected (with_word x v s) (wild_after o None w k))
    detected_then = struck_step ∙ ap (extended (outputs_after o None w k)) (
        ap (λ f. advance o f (with_word x v s) (wild_after o None w k)) nothing
        ∙ fetch_fails o x v s (wild_after o None w k) cx (are_equal o w k) other)

    -- the fetch detects the strike
    pub is_detected : status_after o (Some strike) w (suc k) ≡ Detected
    is_detected = ap (λ (r : Ran). r.state.status) detected_then

    stays : run o (Some strike) w n ≡ run o (Some strike) w (suc k)
    stays = run_stays o (Some strike) w (suc k) n (omega arith) (subst HasStopped (sym is_detected) tt)

    -- so the struck run ends detected
    pub last_status : status_after o (Some strike) w n ≡ Detected
    last_status = ap (λ (r : Ran). r.state.status) stays ∙ is_detected

    -- with the outputs before the strike
    pub last_outputs : outputs_after o (Some strike) w n ≡ outputs_after o None w k
    last_outputs = ap (λ (r : Ran). r.outputs) stays ∙ ap (λ (r : Ran). r.outputs) detected_then
        ∙ append-nil (outputs_after o None w k)

-- at an instruction, both runs do the same
pub record DoBoth (o : Object) (w : List Wild) (k : ℕ) (x : Site) (v : ℕ) (c : Change) : Type 0 where
  pub left : List Wild
  pub outputs : List Output
  pub free : run o None w (suc k) ≡ record { state = act c (state_after o None w k); wild = left; outputs = outputs }
  pub struck : run o (Some (strike_at k x v)) w (suc k)
      ≡ record { state = act c (with_word x v (state_after o None w k)); wild = left; outputs = outputs }

-- the step of the struck run and that of the run without the strike do the same
pub do_both : (o : Object) (w : List Wild) (k : ℕ) (x : Site) (v : ℕ) → is_counter x ≡ true → status_after o None w k
    ≡ Running → (i : Instr) → fetched_at o w k ≡ Some i →
    DoBoth o w k x v (doing i (state_after o None w k) (wild_after o None w k)).change
do_both o w k x v cx go i e =
    let s = state_after o None w k in
    let l = wild_after o None w k in
    let g = doing i s l in
    record {
      left = g.wild;
      outputs = outputs_after o None w k ++ option_to_list g.output;
      free = free_step o w k x v cx go ∙ ap (extended (outputs_after o None w k)) (ap (λ f. advance o f s l) e
          ∙ execute_is i s l);
      struck = struck_step o w k x v cx go ∙ ap (extended (outputs_after o None w k)) (
          ap (λ f. advance o f (with_word x v s) l) e
          ∙ execute_is i (with_word x v s) l
          ∙ ap (λ (h : Doing). result h (with_word x v s)) (same_counter i x v s l cx));
    }

module _ (o : Object) (w : List Wild) (k : ℕ) (x : Site) (v : ℕ) (cx : is_counter x ≡ true)
    (go : status_after o None w k ≡ Running) where
  -- if both stop
  pub stopped_both : (c : Change) → DoBoth o w k x v c → HasStopped (act c (state_after o None w k)).status →
      (act c (with_word x v (state_after o None w k))).status ≡ (act c (state_after o None w k)).status → (n : ℕ) →
      k < n →
      IsSameAfter o (Some (strike_at k x v)) None w n
  stopped_both c h stop e n lt = same_stopped o _ None w (suc k) n (record {
    outputs = ap (λ (r : Ran). r.outputs) h.struck ∙ sym (ap (λ (r : Ran). r.outputs) h.free);
    status = ap (λ (r : Ran). r.state.status) h.struck ∙ e ∙ sym (ap (λ (r : Ran). r.state.status) h.free);
  }) (subst HasStopped (sym (ap (λ (r : Ran). r.state.status) h.free)) stop) (omega arith)

  -- if control is transferred
  pub transfers_both : (a : ℕ) → DoBoth o w k x v (transfers_to a) → (n : ℕ) → k < n →
      IsSameAfter o (Some (strike_at k x v)) None w n
  transfers_both a h n lt = same_run o _ None w n (same_on o (Some (strike_at k x v)) None w k (λ m s later.
      spared (strike_at k x v) m (λ e. omega arith) s) (h.struck ∙ ap (λ t. record {
        state = t;
        wild = h.left;
        outputs = h.outputs;
      }) (transferred a x v (state_after o None w k) cx) ∙ sym h.free) n lt)

  -- if one is added to both counters
  module _ (c : Change) (h : DoBoth o w k x v c) (f : counts c ≡ true) where
    abbrev now : State
    now = state_after o None w k

    state_is : state_after o None w (suc k) ≡ act c now
    state_is = ap (λ (r : Ran). r.state) h.free

    -- the machine runs on
    pub runs_on : status_after o None w (suc k) ≡ Running
    runs_on = ap (λ (t : State). t.status) state_is ∙ act_runs c now f ∙ go

    -- a fetch follows
    pub cleared : fetched_at o w (suc k) ≡ None
    cleared = ap (λ (t : State). t.fetched) state_is ∙ act_cleared c now f

    -- the counter has one more
    pub counter_is : counter_of x (state_after o None w (suc k)) ≡ next (counter_of x now)
    counter_is = ap (counter_of x) state_is ∙ counter_next c x now cx f

    -- the strike of the next word before the next step leaves the same state
    struck_next : run o (Some (strike_at k x v)) w (suc k) ≡ struck_free o w (suc k) x (next v)
    struck_next =
        h.struck
        ∙ ap (λ t. record { state = t; wild = h.left; outputs = h.outputs }) (counted c x v now cx f)
        ∙ ap (λ (r : Ran). record r { state = with_word x (next v) r.state }) (sym h.free)
        ∙ ap (λ t. record (run o None w (suc k)) { state = t })
        (sym (struck_is (state_after o None w (suc k)) x (next v)
        (counter_there x (state_after o None w (suc k)) cx runs_on)))

    -- after this step, outputs and status are those without the strike
    pub same_at : IsSameAfter o (Some (strike_at k x v)) None w (suc k)
    same_at = record {
      outputs = ap (λ (r : Ran). r.outputs) struck_next;
      status = ap (λ (r : Ran). r.state.status) h.struck
          ∙ act_runs c (with_word x v now) f
          ∙ same_status x v now
          ∙ sym (act_runs c now f)
          ∙ sym (ap (λ (r : Ran). r.state.status) h.free);
    }

    next_same : (m : ℕ) → suc k < m → run o (Some (strike_at k x v)) w m
        ≡ run o (Some (strike_at (suc k) x (next v))) w m
    unfolding run
    next_same = same_on o (Some (strike_at k x v)) (Some (strike_at (suc k) x (next v))) w (suc k) (λ m t lt.
        spared (strike_at k x v) m (λ e. omega arith) t
        ∙ sym (spared (strike_at (suc k) x (next v)) m (λ e. omega arith) t)) (ap (onwards o) (
        ready_later (strike_at k x v) (suc k) (run o (Some (strike_at k x v)) w (suc k)) (omega arith)
        ∙ struck_next
        ∙ sym (ready_there o w (suc k) x (next v))))

    other_upto : (m : ℕ) → m ≤ suc k → IsSameAfter o (Some (strike_at (suc k) x (next v))) None w m
    other_upto = same_upto o w (suc k) x (next v) (suc k) x
        (at_once (counter_there x (state_after o None w (suc k)) cx runs_on))

    upto : (m : ℕ) → m ≤ suc k → IsSameAfter o (Some (strike_at k x v)) None w m
    upto m le =
        ⊎_elim
        (λ (e : m ≡ suc k). subst (IsSameAfter o (Some (strike_at k x v)) None w) (sym e) same_at)
        (λ (ne : m ≡ suc k → ⊥).
        same_upto o w k x v k x (at_once (counter_there x (state_after o None w k) cx go)) m (omega arith))
        (cases_eq m (suc k))

    -- the strike of the next word before the next step gives the same outputs and statuses
    pub always : (m : ℕ) → IsSameAfter o (Some (strike_at k x v)) (Some (strike_at (suc k) x (next v))) w m
    always m =
        ⊎_elim
        (λ (lt : suc k < m). same_run o _ _ w m (next_same m lt))
        (λ (le : m ≤ suc k). same_both o _ None _ w m (upto m le) (same_back o _ _ w m (other_upto m le)))
        (cases_lt (suc k) m)

-- the word of either counter, if they are equal
pub counter_word : (x : Site) (s : State) → s.pc_green ≡ s.pc_blue → IsWord s.pc_green → IsWord (counter_of x s)
counter_word PcB s e h = subst IsWord e h
counter_word PcG s e h = h
counter_word x s e h = h

-- A STRIKE THAT WRITES THE WORD THAT IS THERE

-- writing the word that is there changes nothing
pub kept_word : (x : Site) (s : State) → is_counter x ≡ true → with_word x (counter_of x s) s ≡ s
kept_word PcG s h = refl
kept_word PcB s h = refl
kept_word x s h = cc
