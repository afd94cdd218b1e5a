-- The run of an object that carries blocks does what the blocks' run does.
use Rattle.std.proofs.Common.{◌≡◌, ◌≢◌, ℕ, zero, suc, ◌*◌, ◌≤◌, Bool, true, false, cond, List, [], length, Option, Some}
use Rattle.std.proofs.Common.{None}
use Rattle.std.proofs.Common.{refl, sym, ap, ◌∙◌, subst, arith}
use Rattle.ft_semantics.specs.declared.status.Status.{Status}
use Rattle.ft_semantics.specs.declared.status.Status.TheVariants.{Running, Done, Detected}
use Rattle.ft_types.specs.declared.object.Object.{Object}
use Rattle.ft_semantics.specs.Run.{Ran, run}
use Rattle.ft_semantics.proofs.Runs.{HasStopped, run_stays, run_stops_once, run_goes_on, outputs_grow}
use Rattle.ft_meaning.specs.Begins.{Begins}
use Rattle.ft_lower.specs.declared.step3.Step3.{Step3}
use Rattle.ft_lower.specs.declared.step3.Step3.TheVariants.{Put, Copy, Op, Load, Store, LoadAt, StoreAt, Exit, Go, Stop}
use Rattle.ft_lower.specs.Flow.{Blocks, FlowState, flow_step, flow_run, flow_start}
use Rattle.ft_lower.specs.Flow as flow
use Rattle.ft_lower.specs.Size.{size}
use Rattle.ft_lower.specs.Well.{IsWell}
use Rattle.ft_dup.specs.Doubles.{words_of, cost, cost_if, Doubles, Carries, RunsAs}
use Rattle.ft_compile.specs.Cells.{AreCells}
use Rattle.ft_compile.specs.Emitted.{emitted}
use Rattle.ft_types.specs.InitialWords.{object_with_words}
use Rattle.ft_compile.specs.FlowObjects.{RunsAsFlow, AreWordsFor, StandsForFlow}
use Rattle.ft_compile.proofs.Objects.{emission}
use Rattle.ft_compile.proofs.OtherWords.{words_with, carries_with}

-- MACHINE RUNS

-- the run without a strike and without answers to wild loads
abbrev ran : Object → ℕ → Ran
ran o n = run o None [] n

-- THE COST OF FLOW STEPS

-- a step becomes at most four instructions
size_most : (s : Step3) → size s ≤ 4
size_most (Put p w) = omega arith
size_most (Copy p q) = omega arith
size_most (Op o p q s) = omega arith
size_most (Load p c) = omega arith
size_most (Store c q s) = omega arith
size_most (LoadAt p q begin many) = omega arith
size_most (StoreAt begin many i q s) = omega arith
size_most (Exit q s to) = omega arith
size_most (Go s to) = omega arith
size_most Stop = omega arith

-- a step costs at most eight machine steps
cost_if_most : (b : Bool) (x : Option Step3) → cost_if b x ≤ 8
cost_if_most true x = omega arith
cost_if_most false None = omega arith
cost_if_most false (Some s) = omega (arith, size_most s)

-- k steps cost at most eight times k machine steps
cost_most : (bs : Blocks) (k : ℕ) (f : FlowState) → cost bs k f ≤ 8 * k
cost_most bs zero f = omega arith
cost_most bs (suc k) f = omega (arith, cost_if_most f.done (flow.step_at bs f.place), cost_most bs k (flow_step bs f))

-- STATUSES

-- no status is both `Done` and `Detected`
done_undetected : (x : Status) → x ≡ Done → x ≡ Detected → ⊥
done_undetected x p q = cc

-- `Running` is not `Detected`
running_undetected : (x : Status) → x ≡ Running → x ≡ Detected → ⊥
running_undetected x p q = cc

-- `Running` is not `Done`
running_undone : (x : Status) → x ≡ Running → x ≡ Done → ⊥
running_undone x p q = cc

-- WHOLE RUNS

module _ (o : Object) (vars : ℕ) (bs : Blocks) (words : List ℕ) (D : Doubles o vars bs []) (same : words_of o
    ≡ words) where
  -- the flow after k steps
  abbrev at : ℕ → FlowState
  at k = flow_run bs words k

  -- the cost of the first k steps
  abbrev spent : ℕ → ℕ
  spent k = cost bs k (flow_start (words_of o))

  -- the flow over the object's words is the flow over these words
  is_run : (k : ℕ) → flow_run bs (words_of o) k ≡ at k
  is_run k = ap (λ ws. flow_run bs ws k) same

  -- after as many machine steps as k flow steps cost, the machine has the flow's outputs
  out_at : (k : ℕ) → (ran o (spent k)).outputs ≡ (at k).out
  out_at k = (D.after k).out ∙ ap (λ (f : FlowState). f.out) (is_run k)

  -- after as many machine steps as k flow steps cost, the machine is done exactly when the flow is
  status_at : (k : ℕ) → (ran o (spent k)).state.status ≡ cond (at k).done Done Running
  status_at k = (D.after k).status ∙ ap (λ (f : FlowState). cond f.done Done Running) (is_run k)

  -- k steps of a running flow cost at least k machine steps
  pace_at : (k : ℕ) → (at k).done ≡ false → k ≤ spent k
  pace_at k e = D.pace k (ap (λ (f : FlowState). f.done) (is_run k) ∙ e)

  -- what holds of the machine's run after n steps
  record Seen (n : ℕ) : Type 0 where
    undetected : (ran o n).state.status ≢ Detected
    done : (ran o n).state.status ≡ Done → ((at n).done ≡ true) × ((ran o n).outputs ≡ (at n).out)
    running : (ran o n).state.status ≡ Running → Begins (ran o n).outputs (at n).out

  -- this holds if the flow is done after n of its own steps
  seen_done : (n : ℕ) → (at n).done ≡ true → Seen n
  seen_done n d =
      let c = spent n in
      let st : (ran o c).state.status ≡ Done = status_at n ∙ ap (λ b. cond b Done Running) d in
      let end = subst HasStopped (sym st) tt in
      let same = λ (h : HasStopped (ran o n).state.status). run_stops_once o None [] n c h end in
      record {
        undetected = λ e. done_undetected _ (ap (λ (r : Ran). r.state.status) (same (subst HasStopped (sym e) tt))
            ∙ st) e;
        done = λ e. (d, ap (λ (r : Ran). r.outputs) (same (subst HasStopped (sym e) tt)) ∙ out_at n);
        running = λ e.
            let lt = run_goes_on o None [] n c (subst HasStopped e) end in
            subst (λ x. Begins (ran o n).outputs x) (out_at n) (outputs_grow o None [] n c (omega (arith, lt)));
      }

  -- this holds if the flow is still running
  seen_running : (n : ℕ) → (at n).done ≡ false → Seen n
  seen_running n d =
      let c = spent n in
      let le : n ≤ c = pace_at n d in
      let st : (ran o c).state.status ≡ Running = status_at n ∙ ap (λ b. cond b Done Running) d in
      record {
        undetected = λ e. running_undetected (ran o c).state.status st
            (ap (λ (r : Ran). r.state.status) (run_stays o None [] n c le (subst HasStopped (sym e) tt)) ∙ e);
        done = λ e. absurd (running_undone (ran o c).state.status st
            (ap (λ (r : Ran). r.state.status) (run_stays o None [] n c le (subst HasStopped (sym e) tt)) ∙ e));
        running = λ e. subst (λ x. Begins (ran o n).outputs x) (out_at n) (outputs_grow o None [] n c le);
      }

  -- so this holds in either case
  seen_by : (n : ℕ) (b : Bool) → (at n).done ≡ b → Seen n
  seen_by n true e = seen_done n e
  seen_by n false e = seen_running n e

  -- the machine's run does what the flow does
  pub as_flow : RunsAsFlow bs words o
  as_flow = record {
    undetected = λ n. (seen_by n (at n).done refl).undetected;
    done = λ n. (seen_by n (at n).done refl).done;
    running = λ n. (seen_by n (at n).done refl).running;
    ends = λ n k e le.
        let st : (ran o (spent k)).state.status ≡ Done = status_at k ∙ ap (λ b. cond b Done Running) e in
        let stay = run_stays o None [] (spent k) n (omega (arith, le, cost_most bs k (flow_start (words_of o))))
        (subst HasStopped (sym st) tt) in
        (ap (λ (r : Ran). r.state.status) stay ∙ st, ap (λ (r : Ran). r.outputs) stay ∙ out_at k);
    cuts = λ n k le.
        subst (λ x. Begins x (ran o n).outputs) (out_at k)
        (outputs_grow o None [] (spent k) n (omega (arith, le, cost_most bs k (flow_start (words_of o)))));
  }

-- an object that carries blocks does what they do, whatever initial words its cells are given
pub runs_with_words : (o : Object) (vars cells : ℕ) (bs : Blocks) → RunsAs vars cells bs → Carries o cells bs →
    (words : List ℕ) → AreWordsFor cells words → RunsAsFlow bs words (object_with_words o words)
runs_with_words o vars cells bs R C words A =
    let u = object_with_words o words in
    as_flow u vars bs words (R u (carries_with o cells bs words A.as_many A.are_words C) [])
    (words_with o.cells words (A.as_many ∙ sym C.many))

-- the object of well-formed blocks stands for them, if each object that carries them runs as they do
pub stands_for_flow : (names : List (List ℕ)) (inits : List ℕ) (vars cells : ℕ) (bs : Blocks) (o : Object) →
    AreCells names inits → vars ≤ 32 → cells ≡ length inits → IsWell vars cells bs → RunsAs vars cells bs →
    o ≡ emitted names inits vars bs → StandsForFlow names inits bs o
stands_for_flow names inits vars cells bs o C F many W R e =
    let E = emission names inits vars bs C F (subst (λ n. IsWell vars n bs) many W) in
    subst (StandsForFlow names inits bs) (sym e) (record {
      names_are = E.names_are;
      words_are = E.words_are;
      ints = E.ints;
      spellable = E.spellable;
      accepted = E.accepted;
      instrs = E.instrs;
      run = runs_with_words (emitted names inits vars bs) vars (length inits) bs
          (subst (λ n. RunsAs vars n bs) many R) E.carries;
    })
