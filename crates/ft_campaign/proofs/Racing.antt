-- A struck run from its strike on.
use Rattle.std.proofs.Common.{◌≡◌, ℕ, zero, suc, ◌+◌, ◌-◌, ◌*◌, ◌<◌, ◌≤◌, List, ◌++◌, length, take, Some, None, true}
use Rattle.std.proofs.Common.{refl, ap, sym, subst, ◌∙◌, ⊎_elim, append_assoc, arith}
use Rattle.std.proofs.lemmas.Bool.{cases_lt, cases_eq}
use Rattle.std.proofs.lemmas.List.{length-append}
use Rattle.ft_isa.specs.declared.plan.Wild.{Wild}
use Rattle.ft_isa.specs.declared.plan.Strike.{Strike}
use Rattle.ft_isa.specs.declared.output.Output.{Output}
use Rattle.ft_types.specs.declared.object.Object.{Object}
use Rattle.ft_semantics.specs.declared.status.Status.TheVariants.{Running}
use Rattle.ft_semantics.specs.State.{State, HasCells, is_cell}
use Rattle.ft_semantics.specs.Agrees.{IsPrefix}
use Rattle.ft_semantics.specs.Run.{Ran, run, state_after, wild_after, outputs_after, status_after, is_struck}
use Rattle.ft_machine.specs.Spans.{span}
use Rattle.ft_semantics.proofs.Struck.{spared}
use Rattle.ft_semantics.proofs.Runs.{HasStopped, stop_of, run_stays, run_goes_on, outputs_grow}
use Rattle.ft_machine.proofs.Runs.{run_has_cells}
use Rattle.ft_machine.proofs.Steps.{strike_keeps}
use Rattle.ft_machine.proofs.Spanned.{joined, run_second, span_has_cells}
use Rattle.ft_campaign.specs.declared.clean.Snapshot.{Snapshot}
use Rattle.ft_campaign.specs.declared.follow.Followed.{Followed}
use Rattle.ft_campaign.specs.declared.follow.How.TheVariants.{On, Stopped, Apart}
use Rattle.ft_campaign.specs.declared.verdict.Verdict.TheVariants as verdicts
use Rattle.ft_campaign.specs.Verdicts.{IsVerdict}
use Rattle.ft_campaign.specs.Follows.{Continues, WentSo, Follows}
use Rattle.ft_campaign.specs.Snapshots.{Meets, IsSnapshot, IsEnd, last, stopped, met, Begins, HasEnded, IsAtMeeting}
use Rattle.ft_campaign.specs.Snapshots.{IsRacing, IsMeeting}
use Rattle.ft_campaign.proofs.Meetings.{spares}
use Rattle.ft_campaign.proofs.Judgements.{apart_corrupt}

-- there is no end before step m, if the run is running just before it
pub end_far : (o : Object) (x : Strike) (w : List Wild) (n i m : ℕ) → status_after o (Some x) w i ≡ Running →
    m ≤ i + 1 → m ≤ n → ((e : ℕ) → Meets o x w e → e < n → m ≤ e) → (e : ℕ) → IsEnd o x w n e → m ≤ e
end_far o x w n i m running near within unmet e (last is) = omega (arith, within, is)
end_far o x w n i m running near within unmet e (stopped h) = let lt =
    run_goes_on o (Some x) w i e (subst HasStopped running) (stop_of (status_after o (Some x) w e) h) in
    omega (arith, near, lt)
end_far o x w n i m running near within unmet e (met h) =
    ⊎_elim (λ (below : e < n). unmet e h below) (λ (past : n ≤ e). omega (arith, past, within)) (cases_lt e n)

-- no meeting comes before the place where the run is compared next
pub unmet_next : (o : Object) (x : Strike) (w : List Wild) (n s next : ℕ) →
    ((j : ℕ) → s < 1024 * j → 1024 * j ≤ n → next ≤ 1024 * j) → ((e : ℕ) → Meets o x w e → e < n → s < e) → (e : ℕ) →
    Meets o x w e → e < n → next ≤ e
unmet_next o x w n s next first unmet e m lt =
    let is = m.kept.1 in
    subst (λ k. next ≤ k) (sym is) (first m.kept.0 (subst (λ k. s < k) is (unmet e m lt)) (let le : e ≤ n =
    omega (arith, lt) in subst (λ k. k ≤ n) is le))

-- if a test finds that the runs do not meet there, the next meeting comes later
pub unmet_there : (o : Object) (x : Strike) (w : List Wild) (n m : ℕ) → ((e : ℕ) → Meets o x w e → e < n → m ≤ e) →
    (m < n → ¬ (Meets o x w m)) → (e : ℕ) → Meets o x w e → e < n → m < e
unmet_there o x w n m unmet apart e h lt =
    ⊎_elim
    (λ (same : m ≡ e). absurd (apart (omega (arith, same, lt)) (subst (Meets o x w) (sym same) h)))
    (λ (ne : m ≡ e → ⊥). let le = unmet e h lt in above m e le ne)
    (cases_eq m e)
  where
    above : (m e : ℕ) → m ≤ e → (m ≡ e → ⊥) → m < e
    above m e le ne = omega arith

-- outputs only grow in number
pub count_fits : (o : Object) (w : List Wild) (m n : ℕ) → m ≤ n →
    length (outputs_after o None w m) ≤ length (outputs_after o None w n)
count_fits o w m n le =
    let g = outputs_grow o None w m n le in
    let long = sym (length-append (outputs_after o None w m) g.0) ∙ ap length g.1 in
    omega (arith, long)

module _ (o : Object) (x : Strike) (w : List Wild) (n s : ℕ) (q : State) (l : List Wild) (at : ℕ)
    (h : IsRacing o x w n s q l at) where
  -- the run t steps later
  pub reached : (t : ℕ) → 0 < t → run o (Some x) w (s + t) ≡ joined (outputs_after o (Some x) w s) (span o t q l)
  reached t some =
      let from = h.from in
      run_second o (Some x) w (state_after o (Some x) w s) q l s t refl h.wild h.state (λ j above.
      spared x j (λ e. omega (arith, from, above))) some

  pub racing_running : q.status ≡ Running
  racing_running = ap (λ (p : State). p.status) h.state ∙ (strike_keeps (Some x) s (state_after o (Some x) w s)).status
      ∙ h.running

  pub racing_cells : HasCells (length o.cells) q
  racing_cells a = ap (λ (p : State). is_cell p.cells a) h.state
      ∙ ap (λ m. is_cell m a) (strike_keeps (Some x) s (state_after o (Some x) w s)).cells
      ∙ run_has_cells o (Some x) w s a

  module _ (q' : State) (l' : List Wild) (whole : List Output) (new number : ℕ) (t : Followed)
      (f : Follows o q l q' l' whole at new number t) where
    pub later_cells : HasCells (length o.cells) q'
    later_cells = subst (λ (p : State). HasCells (length o.cells) p) (sym f.state_is)
        (span_has_cells o (length o.cells) t.done q l racing_cells)

    module _ (whole_is : whole ≡ outputs_after o None w n) (room : number ≤ n - s) where
      later_begins : 0 < t.done → Continues whole at new (span o t.done q l).outputs →
          Begins (outputs_after o None w n) new (outputs_after o (Some x) w (s + t.done))
      later_begins some k = record {
        front =
            ap (λ (r : Ran). r.outputs) (reached t.done some)
            ∙ ap (λ xs. xs ++ (span o t.done q l).outputs) h.begins.front
            ∙ ap (λ all. take at all ++ (span o t.done q l).outputs) (sym whole_is) ∙ sym k.front
            ∙ ap (take new) whole_is;
        few = subst (λ (all : List Output). new ≤ length all) whole_is k.few;
      }

      fits : s + t.done ≤ n
      fits = let a = f.few in let b = h.within in omega (arith, a, b, room)

      -- just before the last step, the run was still running
      last_running : 0 < t.done → status_after o (Some x) w (s + t.done - 1) ≡ Running
      last_running some = from_before (t.done - 1) (let e : t.done - 1 < t.done = omega (arith, some) in
          e) (omega (arith, some))
        where
          from_before : (j : ℕ) → j < t.done → s + t.done - 1 ≡ s + j → status_after o (Some x) w (s + t.done - 1)
              ≡ Running
          from_before zero lt e = ap (status_after o (Some x) w) (e ∙ (omega arith)) ∙ h.running
          from_before (suc j) lt e =
              ap (status_after o (Some x) w) e ∙ ap (λ (r : Ran). r.state.status) (reached (suc j) (omega arith))
              ∙ f.running (suc j) lt

      -- a run that stops has ended
      pub has_ended : is_struck o (Some x) w n ≡ true → 0 < t.done →
          Continues whole at new (span o t.done q l).outputs → ¬ ((span o t.done q l).state.status ≡ Running)
          → HasEnded o x w n new q'.status (s + t.done - 1)
      has_ended struck some k stop =
          let there = reached t.done some in
          let ended : ¬ (status_after o (Some x) w (s + t.done) ≡ Running) =
          (λ e. stop (sym (ap (λ (r : Ran). r.state.status) there) ∙ e)) in
          let same = run_stays o (Some x) w (s + t.done) n fits (stop_of (status_after o (Some x) w (s + t.done)) ended)
          in
          let status_is : q'.status ≡ status_after o (Some x) w (s + t.done) = ap (λ (p : State). p.status) f.state_is
          ∙ sym (ap (λ (r : Ran). r.state.status) there) in
          record {
            struck = struck;
            begins = subst (λ xs. Begins (outputs_after o None w n) new xs) (sym (ap (λ (r : Ran). r.outputs) same))
                (later_begins some k);
            status_is = status_is ∙ sym (ap (λ (r : Ran). r.state.status) same);
            running = λ d. last_running some;
            detected = λ d. ap (status_after o (Some x) w) (back s t.done some) ∙ sym status_is ∙ d;
          }
        where
          back : (s d : ℕ) → 0 < d → s + d - 1 + 1 ≡ s + d
          back s d some = omega arith

      -- a run whose outputs are not a prefix of the other's is corrupt
      pub went_apart : is_struck o (Some x) w n ≡ true → 0 < t.done →
          ¬ (IsPrefix (take at whole ++ (span o t.done q l).outputs) whole) → IsVerdict o x w n verdicts.Corrupt
      went_apart struck some bad = apart_corrupt o x w n struck (λ p.
          let there = reached t.done some in
          let grown = outputs_grow o (Some x) w (s + t.done) n fits in
          let front : outputs_after o (Some x) w (s + t.done) ≡ take at whole ++ (span o t.done q l).outputs
          = ap (λ (r : Ran). r.outputs) there ∙ ap (λ xs. xs ++ (span o t.done q l).outputs) (h.begins.front
          ∙ ap (take at) (sym whole_is)) in
          bad (
            grown.0 ++ p.0,
            sym (append_assoc (take at whole ++ (span o t.done q l).outputs) grown.0 p.0)
                ∙ ap (λ xs. (xs ++ grown.0) ++ p.0) (sym front) ∙ ap (λ xs. xs ++ p.0) grown.1 ∙ p.1 ∙ sym whole_is,
          ))

      -- no end comes before the last step taken
      pub ends_later : 0 < t.done → ((e : ℕ) → Meets o x w e → e < n → s + t.done ≤ e) → (e : ℕ) → IsEnd o x w n e →
          s + t.done ≤ e
      ends_later some unmet = end_far o x w n (s + t.done - 1) (s + t.done) (last_running some) (omega (arith, some))
          fits unmet

      pub race_apart : t.how ≡ Apart → is_struck o (Some x) w n ≡ true → IsVerdict o x w n verdicts.Corrupt
      race_apart e struck = let p = subst (λ v. WentSo v o q l whole at new number t.done) e f.went in
          went_apart struck p.0 p.1

      pub race_stopped : t.how ≡ Stopped → is_struck o (Some x) w n ≡ true →
          HasEnded o x w n new q'.status (s + t.done - 1)
      race_stopped e struck = let p = subst (λ v. WentSo v o q l whole at new number t.done) e f.went in
          has_ended struck p.0 p.1 p.2

      pub steps_apart : t.how ≡ Apart → ((e : ℕ) → Meets o x w e → e < n → s + t.done ≤ e) → (e : ℕ) → IsEnd o x w n e →
          s + t.done ≤ e
      steps_apart e = let p = subst (λ v. WentSo v o q l whole at new number t.done) e f.went in ends_later p.0

      pub steps_stopped : t.how ≡ Stopped → ((e : ℕ) → Meets o x w e → e < n → s + t.done ≤ e) → (e : ℕ) →
          IsEnd o x w n e → s + t.done ≤ e
      steps_stopped e = let p = subst (λ v. WentSo v o q l whole at new number t.done) e f.went in ends_later p.0

      -- the machine is still running
      module _ (on : t.how ≡ On) (some : 0 < number) (m : ℕ) (m_is : m ≡ s + number) where
        went_on : (t.done ≡ number) × Continues whole at new (span o t.done q l).outputs
            × ((span o t.done q l).state.status ≡ Running)
        went_on = subst (λ v. WentSo v o q l whole at new number t.done) on f.went

        some_done : 0 < t.done
        some_done = let e = went_on.0 in omega (arith, some, e)

        there : s + t.done ≡ m
        there = let e = went_on.0 in omega (arith, e, m_is)

        pub on_state : q' ≡ state_after o (Some x) w m
        on_state = f.state_is ∙ sym (ap (λ (r : Ran). r.state) (reached t.done some_done))
            ∙ ap (state_after o (Some x) w) there

        pub on_wild : l' ≡ wild_after o (Some x) w m
        on_wild = f.wild_is ∙ sym (ap (λ (r : Ran). r.wild) (reached t.done some_done))
            ∙ ap (wild_after o (Some x) w) there

        pub on_running : status_after o (Some x) w m ≡ Running
        on_running = ap (status_after o (Some x) w) (sym there)
            ∙ ap (λ (r : Ran). r.state.status) (reached t.done some_done) ∙ went_on.2

        pub on_begins : Begins (outputs_after o None w n) new (outputs_after o (Some x) w m)
        on_begins = subst (λ k. Begins (outputs_after o None w n) new (outputs_after o (Some x) w k)) there
            (later_begins some_done went_on.1)

        pub on_within : m ≤ n
        on_within = let a = fits in let b = there in omega (arith, a, b)

        pub on_above : x.step < m
        on_above = let a = h.from in omega (arith, a, some, m_is)

        pub on_done : t.done ≡ number
        on_done = went_on.0

        pub on_few : new ≤ length whole
        on_few = went_on.1.few

        pub race_on : ((e : ℕ) → Meets o x w e → e < n → m < e) → IsRacing o x w n m q' l' new
        race_on unmet = record {
          state = on_state ∙ sym (spares x m (state_after o (Some x) w m) on_above);
          wild = on_wild;
          running = on_running;
          begins = on_begins;
          from = let a = on_above in omega (arith, a);
          within = on_within;
          unmet = unmet;
        }

        pub race_met : (count : ℕ) → is_struck o (Some x) w n ≡ true → IsMeeting o x w m count →
            IsAtMeeting o x w n new m count
        race_met count struck g = record {
          struck = struck;
          begins = on_begins;
          meets = record { kept = g.kept; above = on_above; state = g.state; wild = g.wild };
          within = on_within;
          running = sym (ap (λ (p : State). p.status) g.state) ∙ on_running;
          count_is = g.count_is;
        }

        -- no end comes before this place, and if the runs do not meet there, the next meeting comes later
        pub steps_on : ((e : ℕ) → Meets o x w e → e < n → m ≤ e) → (e : ℕ) → IsEnd o x w n e → m ≤ e
        steps_on unmet = end_far o x w n m m on_running (omega arith) on_within unmet

  -- if a run is still running after its last step, `HasEnded` holds
  pub ended_running : (b : ℕ) → n ≤ s → is_struck o (Some x) w n ≡ true → HasEnded o x w n at Running b
  ended_running b past struck =
      let e : s ≡ n = (let le = h.within in omega (arith, past, le)) in
      record {
        struck = struck;
        begins = subst (λ k. Begins (outputs_after o None w n) at (outputs_after o (Some x) w k)) e h.begins;
        status_is = sym h.running ∙ ap (status_after o (Some x) w) e;
        running = λ d. absurd (cc);
        detected = λ d. absurd (cc);
      }

  pub ends_from : (e : ℕ) → IsEnd o x w n e → s ≤ e
  ends_from = end_far o x w n s s h.running (omega arith) h.within (λ e m below. let lt = h.unmet e m below in
      omega (arith, lt))

  pub ends_at_last : n ≤ s → (e : ℕ) → IsEnd o x w n e → s ≤ e
  ends_at_last past = end_far o x w n s s h.running (omega arith) h.within (λ e m below. let lt = h.unmet e m below in
      omega (arith, lt))

-- the runs meet at a snapshot whose state is the struck run's
pub meeting_there : (o : Object) (x : Strike) (w : List Wild) (s j : ℕ) (q : State) (l : List Wild) (k : Snapshot) → s
    ≡ 1024 * j → IsSnapshot o w (1024 * j) k → q ≡ state_after o (Some x) w s → l ≡ wild_after o (Some x) w s → q
    ≡ k.machine → l ≡ k.wild
    → IsMeeting o x w s k.count
meeting_there o x w s j q l k is h state wild same_state same_wild = record {
  kept = (j, is);
  state = sym state ∙ same_state ∙ h.state ∙ ap (state_after o None w) (sym is);
  wild = sym wild ∙ same_wild ∙ h.wild ∙ ap (wild_after o None w) (sym is);
  count_is = h.count ∙ ap (λ i. length (outputs_after o None w i)) (sym is);
}
