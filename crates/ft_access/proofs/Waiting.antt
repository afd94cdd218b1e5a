-- Runs whose faults strike a word that is not read for a while, or never.
use Rattle.std.proofs.Common.{◌≡◌, ⊎_elim, ℕ, suc, ◌<◌, ◌≤◌, true, false, List, ◌++◌, Option, Some, None}
use Rattle.std.proofs.Common.{refl, sym, ap, ◌∙◌, subst, arith}
use Rattle.std.specs.Option.{option_to_list}
use Rattle.std.proofs.lemmas.Bool.{cases_eq, cases_lt}
use Rattle.ft_simulation.proofs.Sequences.{lockstep}
use Rattle.ft_isa.specs.declared.plan.Site.{Site}
use Rattle.ft_isa.specs.declared.plan.Strike.{Strike}
use Rattle.ft_isa.specs.declared.plan.Wild.{Wild}
use Rattle.ft_types.specs.declared.object.Object.{Object}
use Rattle.ft_semantics.specs.declared.status.Status.{Status}
use Rattle.ft_semantics.specs.declared.status.Status.TheVariants.{Running, Done, Detected}
use Rattle.ft_semantics.specs.State.{State}
use Rattle.ft_semantics.specs.Step.{step}
use Rattle.ft_semantics.specs.Strike.{is_there, struck_state, struck_before}
use Rattle.ft_semantics.specs.Run.{Ran, extended, after_step, run, state_after, wild_after, outputs_after, status_after}
use Rattle.ft_semantics.proofs.Runs.{HasStopped, stop_of, run_stays}
use Rattle.ft_semantics.proofs.Struck.{struck_there, spared}
use Rattle.ft_tolerance.proofs.Masking.{before}
use Rattle.ft_access.specs.Access.{reads_site, overwrites, site_after}
use Rattle.ft_access.specs.Lasting.{fetched_at, Lasts, at_once, further, IsDead, unread}
use Rattle.ft_access.specs.Lasting.{overwritten, at_stop, strike_at, IsSameAfter}
use Rattle.ft_access.proofs.Doings.{struck_is}
use Rattle.ft_access.proofs.Steps.{same_status, unnoticed, postponed, gone}

-- WORDS THAT LAST

-- the site is there as long as the word lasts
pub lasts_there : (o : Object) (w : List Wild) (k : ℕ) (x : Site) (l : ℕ) (y : Site) → Lasts o w k x l y →
    is_there (state_after o None w l) y ≡ true
unfolding run
lasts_there o w k x _ _ (at_once there) = there
lasts_there o w k x _ _ (further l y h r e go) =
    (postponed o (state_after o None w l) (wild_after o None w l) y 0 (lasts_there o w k x l y h) r e go).there

-- the word does not last backwards
pub lasts_on : (o : Object) (w : List Wild) (k : ℕ) (x : Site) (l : ℕ) (y : Site) → Lasts o w k x l y → k ≤ l
lasts_on o w k x _ _ (at_once there) = omega arith
lasts_on o w k x _ _ (further l y h r e go) = (let le = lasts_on o w k x l y h in omega arith)

-- a run from which the next step is taken: struck, if the strike is due
abbrev pub ready : Strike → ℕ → Ran → Ran
ready x n r = record r { state = struck_before (Some x) n r.state }

-- the run after a step without a strike
abbrev pub onwards : Object → Ran → Ran
onwards o r = after_step o None 0 r

-- the run without a fault, struck before step l
abbrev pub struck_free : Object → List Wild → ℕ → Site → ℕ → Ran
struck_free o w l y v = record (run o None w l) { state = struck_state (state_after o None w l) y v }

-- the run up to a strike, with the strike, is the run without it with the word put in
pub ready_there : (o : Object) (w : List Wild) (k : ℕ) (x : Site) (v : ℕ) → ready (strike_at k x v) k
    (run o (Some (strike_at k x v)) w k) ≡ struck_free o w k x v
ready_there o w k x v =
    ap (ready (strike_at k x v) k) (sym (before o (strike_at k x v) w k (omega arith)))
    ∙ ap (λ s. record (run o None w k) { state = s }) (struck_there (strike_at k x v) (state_after o None w k))

-- after the strike, the run is as it is
pub ready_later : (x : Strike) (n : ℕ) (r : Ran) → x.step < n → ready x n r ≡ r
ready_later x n r lt = ap (λ s. record r { state = s }) (spared x n (λ e. omega arith) r.state)

-- a run struck at once, after a step that neither reads nor overwrites the word
struck_on : (o : Object) (w : List Wild) (l : ℕ) (y : Site) (v : ℕ) → is_there (state_after o None w l) y ≡ true →
    reads_site (fetched_at o w l) y ≡ false → overwrites (fetched_at o w l) y ≡ false →
    status_after o None w (suc l) ≡ Running → onwards o (struck_free o w l y v)
    ≡ struck_free o w (suc l) (site_after (fetched_at o w l) y) v
unfolding run
struck_on o w l y v there r e go = ap (extended (outputs_after o None w l))
    (postponed o (state_after o None w l) (wild_after o None w l) y v there r e go).struck

-- the run that is struck first, when step l is due
pub held_back : (o : Object) (w : List Wild) (k : ℕ) (x : Site) (v l : ℕ) (y : Site) → Lasts o w k x l y →
    ready (strike_at k x v) l (run o (Some (strike_at k x v)) w l) ≡ struck_free o w l y v
unfolding run
held_back o w k x v _ _ (at_once there) = ready_there o w k x v
held_back o w k x v _ _ (further l y h r e go) =
    let le = lasts_on o w k x l y h in
    ready_later (strike_at k x v) (suc l) (run o (Some (strike_at k x v)) w (suc l)) (omega arith)
    ∙ ap (onwards o) (held_back o w k x v l y h)
    ∙ struck_on o w l y v (lasts_there o w k x l y h) r e go

-- TWO RUNS THAT ARE THE SAME FROM SOME STEP ON

-- runs that are the same after step l, past all strikes, stay the same
pub same_on : (o : Object) (p q : Option Strike) (w : List Wild) (l : ℕ) →
    ((n : ℕ) (s : State) → l < n → struck_before p n s ≡ struck_before q n s) → run o p w (suc l) ≡ run o q w (suc l) →
    (n : ℕ) → l < n → run o p w n ≡ run o q w n
unfolding run
same_on o p q w l both here =
    lockstep (run o p w) (run o q w) (λ n r s. l < n → r ≡ s) (λ lt. absurd (omega arith)) (λ n h lt.
    ⊎_elim
    (λ (e : l ≡ n). subst (λ m. run o p w (suc m) ≡ run o q w (suc m)) e here)
    (λ (ne : l ≡ n → ⊥).
    ap (λ (r : Ran). extended r.outputs (step o (struck_before p n r.state) r.wild)) (h (omega arith))
    ∙ ap (λ s. extended (outputs_after o q w n) (step o s (wild_after o q w n)))
    (both n (state_after o q w n) (omega arith)))
    (cases_eq l n))

-- two strikes of a word that lasts from the first to the second give the same runs after the second
pub same_runs : (o : Object) (w : List Wild) (k : ℕ) (x : Site) (v l : ℕ) (y : Site) → Lasts o w k x l y → (n : ℕ) →
    l < n → run o (Some (strike_at k x v)) w n ≡ run o (Some (strike_at l y v)) w n
unfolding run
same_runs o w k x v l y h =
    let le = lasts_on o w k x l y h in
    same_on o (Some (strike_at k x v)) (Some (strike_at l y v)) w l
    (λ n s lt. spared (strike_at k x v) n (λ e. omega arith) s ∙ sym (spared (strike_at l y v) n (λ e. omega arith) s))
    (ap (onwards o) (held_back o w k x v l y h ∙ sym (ready_there o w l y v)))

-- after the strike, as long as the word lasts
struck_then : (o : Object) (w : List Wild) (k : ℕ) (x : Site) (v l : ℕ) (y : Site) → Lasts o w k x l y → k < l →
    run o (Some (strike_at k x v)) w l ≡ struck_free o w l y v
struck_then o w k x v l y h lt =
    sym (ready_later (strike_at k x v) l (run o (Some (strike_at k x v)) w l) lt) ∙ held_back o w k x v l y h

-- a strike does not change the status
pub struck_status : (s : State) (x : Site) (v : ℕ) → is_there s x ≡ true → (struck_state s x v).status ≡ s.status
struck_status s x v there = ap (λ (t : State). t.status) (struck_is s x v there) ∙ same_status x v s

-- as long as the word lasts, the struck run has the outputs and the status of the run without a fault
pub same_upto : (o : Object) (w : List Wild) (k : ℕ) (x : Site) (v l : ℕ) (y : Site) → Lasts o w k x l y → (n : ℕ) →
    n ≤ l → IsSameAfter o (Some (strike_at k x v)) None w n
same_upto o w k x v _ _ (at_once there) n le =
    let e = before o (strike_at k x v) w n le in
    record { outputs = sym (ap (λ (r : Ran). r.outputs) e); status = sym (ap (λ (r : Ran). r.state.status) e) }
same_upto o w k x v _ _ (further l y h r e go) n le =
    ⊎_elim
    (λ (same : n ≡ suc l). subst (IsSameAfter o (Some (strike_at k x v)) None w) (sym same) at_last)
    (λ (ne : n ≡ suc l → ⊥). same_upto o w k x v l y h n (omega arith))
    (cases_eq n (suc l))
  where
    longer : Lasts o w k x (suc l) (site_after (fetched_at o w l) y)
    longer = further l y h r e go

    at_last : IsSameAfter o (Some (strike_at k x v)) None w (suc l)
    at_last =
        (let le = lasts_on o w k x l y h in
        let there = lasts_there o w k x (suc l) (site_after (fetched_at o w l) y) longer in
        let same = struck_then o w k x v (suc l) (site_after (fetched_at o w l) y) longer (omega arith) in
        record {
          outputs = ap (λ (r : Ran). r.outputs) same;
          status = ap (λ (r : Ran). r.state.status) same
              ∙ struck_status (state_after o None w (suc l)) (site_after (fetched_at o w l) y) v there;
        })

-- in the other direction
pub same_back : (o : Object) (p q : Option Strike) (w : List Wild) (n : ℕ) → IsSameAfter o p q w n →
    IsSameAfter o q p w n
same_back o p q w n h = record { outputs = sym h.outputs; status = sym h.status }

-- one after the other
pub same_both : (o : Object) (p q r : Option Strike) (w : List Wild) (n : ℕ) → IsSameAfter o p q w n →
    IsSameAfter o q r w n → IsSameAfter o p r w n
same_both o p q r w n h i = record { outputs = h.outputs ∙ i.outputs; status = h.status ∙ i.status }

-- equal runs have equal outputs and status
pub same_run : (o : Object) (p q : Option Strike) (w : List Wild) (n : ℕ) → run o p w n ≡ run o q w n →
    IsSameAfter o p q w n
same_run o p q w n e = record { outputs = ap (λ (r : Ran). r.outputs) e; status = ap (λ (r : Ran). r.state.status) e }

-- two strikes of a word that lasts from the first to the second give the same outputs and the same status at all times
pub same_always : (o : Object) (w : List Wild) (k : ℕ) (x : Site) (v l : ℕ) (y : Site) → Lasts o w k x l y → (n : ℕ) →
    IsSameAfter o (Some (strike_at k x v)) (Some (strike_at l y v)) w n
same_always o w k x v l y h n =
    ⊎_elim
    (λ (lt : l < n). same_run o _ _ w n (same_runs o w k x v l y h n lt))
    (λ (le : n ≤ l). same_both o _ None _ w n (same_upto o w k x v l y h n le)
    (same_back o _ _ w n (same_upto o w l y v l y (at_once (lasts_there o w k x l y h)) n le)))
    (cases_lt l n)

-- WORDS THAT ARE NEVER READ

-- after a step that overwrites the word without reading it, the runs are the same, if the machine still runs
pub same_after_gone : (o : Object) (w : List Wild) (k : ℕ) (x : Site) (v l : ℕ) (y : Site) → Lasts o w k x l y →
    reads_site (fetched_at o w l) y ≡ false → overwrites (fetched_at o w l) y ≡ true →
    status_after o None w (suc l) ≡ Running → (n : ℕ) → l < n → run o (Some (strike_at k x v)) w n ≡ run o None w n
unfolding run
same_after_gone o w k x v l y h r e go =
    let le = lasts_on o w k x l y h in
    same_on o (Some (strike_at k x v)) None w l (λ n s lt. spared (strike_at k x v) n (λ e. omega arith) s)
    (ap (onwards o) (held_back o w k x v l y h)
    ∙ ap (extended (outputs_after o None w l)) (gone o (state_after o None w l) (wild_after o None w l) y v
    (lasts_there o w k x l y h) r e go))

-- a step that does not read the word gives the same output and status
same_next : (o : Object) (w : List Wild) (k : ℕ) (x : Site) (v l : ℕ) (y : Site) → Lasts o w k x l y →
    reads_site (fetched_at o w l) y ≡ false → IsSameAfter o (Some (strike_at k x v)) None w (suc l)
unfolding run
same_next o w k x v l y h r =
    let e = ap (onwards o) (held_back o w k x v l y h) in
    let u = unnoticed o (state_after o None w l) (wild_after o None w l) y v (lasts_there o w k x l y h) r in
    record {
      outputs = ap (λ (r : Ran). r.outputs) e
          ∙ ap (λ z. outputs_after o None w l ++ option_to_list z) u.output;
      status = ap (λ (r : Ran). r.state.status) e ∙ u.status;
    }

-- runs that have stopped stay the same
pub same_stopped : (o : Object) (p q : Option Strike) (w : List Wild) (l n : ℕ) → IsSameAfter o p q w l →
    HasStopped (status_after o q w l) → l ≤ n → IsSameAfter o p q w n
same_stopped o p q w l n h stopped le =
    let a = run_stays o p w l n le (subst HasStopped (sym h.status) stopped) in
    let b = run_stays o q w l n le stopped in
    record {
      outputs = ap (λ (r : Ran). r.outputs) a ∙ h.outputs ∙ sym (ap (λ (r : Ran). r.outputs) b);
      status = ap (λ (r : Ran). r.state.status) a ∙ h.status ∙ sym (ap (λ (r : Ran). r.state.status) b);
    }

-- a step that overwrites the word without reading it leaves the runs the same, or both stopped
same_gone : (o : Object) (w : List Wild) (k : ℕ) (x : Site) (v l : ℕ) (y : Site) → Lasts o w k x l y →
    reads_site (fetched_at o w l) y ≡ false → overwrites (fetched_at o w l) y ≡ true → (n : ℕ) → l < n → (u : Status) →
    status_after o None w (suc l) ≡ u → IsSameAfter o (Some (strike_at k x v)) None w n
same_gone o w k x v l y h r e n lt Running go = same_run o _ None w n (same_after_gone o w k x v l y h r e go n lt)
same_gone o w k x v l y h r e n lt Done done =
    same_stopped o _ None w (suc l) n (same_next o w k x v l y h r) (subst HasStopped (sym done) tt) (omega arith)
same_gone o w k x v l y h r e n lt Detected detected =
    same_stopped o _ None w (suc l) n (same_next o w k x v l y h r) (subst HasStopped (sym detected) tt) (omega arith)

-- a strike of a word that is never read changes no output and no status
pub same_dead : (o : Object) (w : List Wild) (n k : ℕ) (x : Site) (v : ℕ) → IsDead o w n k x → (m : ℕ) → m ≤ n →
    IsSameAfter o (Some (strike_at k x v)) None w m
same_dead o w n k x v (unread l y h past) m le = same_upto o w k x v l y h m (omega arith)
same_dead o w n k x v (overwritten l y h r e) m le =
    ⊎_elim
    (λ (lt : l < m). same_gone o w k x v l y h r e m lt (status_after o None w (suc l)) refl)
    (λ (upto : m ≤ l). same_upto o w k x v l y h m upto)
    (cases_lt l m)
same_dead o w n k x v (at_stop l y h r stop) m le =
    ⊎_elim
    (λ (lt : l < m). same_stopped o _ None w (suc l) m (same_next o w k x v l y h r)
    (stop_of (status_after o None w (suc l)) stop) (omega arith))
    (λ (upto : m ≤ l). same_upto o w k x v l y h m upto)
    (cases_lt l m)
