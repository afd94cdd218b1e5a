-- Spans of steps in sequence, and how they relate to the run under a plan.
use Rattle.std.proofs.Common.{◌≡◌, ℕ, zero, suc, ◌+◌, ◌-◌, ◌<◌, ◌≤◌, List, [], ◌++◌, Option, Some, None, true, ◌&&◌}
use Rattle.std.proofs.Common.{nat_le, nat_lt, refl, ap, sym, ◌∙◌, append_assoc, subst, arith, add-suc, add-zero}
use Rattle.std.proofs.lemmas.List.{append-nil}
use Rattle.std.specs.Option.{option_to_list}
use Rattle.ft_isa.specs.declared.plan.Wild.{Wild}
use Rattle.ft_isa.specs.declared.plan.Strike.{Strike}
use Rattle.ft_isa.specs.declared.output.Output.{Output}
use Rattle.ft_types.specs.declared.object.Object.{Object}
use Rattle.ft_semantics.specs.declared.status.Status.TheVariants.{Running}
use Rattle.ft_semantics.specs.State.{State, start, is_cell, HasCells}
use Rattle.ft_semantics.specs.Step.{Stepping, step, fetch, detected, execute}
use Rattle.ft_types.specs.Objects.{instr_at}
use Rattle.ft_isa.specs.declared.instr.Instr.{Instr}
use Rattle.ft_semantics.specs.declared.status.Status.{Status}
use Rattle.ft_semantics.specs.declared.status.Status.TheVariants as status
use Rattle.std.specs.Prelude.{if◌then◌else◌, slice_get}
use Rattle.std.proofs.lemmas.Bool.{eq-eqb}
use Rattle.std.proofs.lemmas.Bool.Decides.{nat_tests}
use Rattle.ft_semantics.specs.Strike.{struck_before}
use Rattle.ft_semantics.specs.Run.{Ran, extended, run}
use Rattle.ft_machine.specs.Spans.{span, span-zero, span-add_one, Spares}
use Rattle.ft_semantics.proofs.Runs.{HasStopped, stays_at}
use Rattle.ft_machine.proofs.Steps.{step_is_proper}
use Rattle.ft_machine.specs.Banks.{Bank}
use Rattle.ft_machine.specs.declared.bank.Effect.{Effect}
use Rattle.ft_machine.specs.Effects.{Does, doing, followed, put_out}

-- a run whose outputs follow these
abbrev pub joined : List Output → Ran → Ran
joined xs r = record { state = r.state; wild = r.wild; outputs = xs ++ r.outputs }

extended_joined : (xs ys : List Output) (t : Stepping) → extended (xs ++ ys) t ≡ joined xs (extended ys t)
extended_joined xs ys t = ap (λ zs. record { state = t.state; wild = t.wild; outputs = zs })
    (append_assoc xs ys (option_to_list t.output))

-- two spans in sequence are one span
pub span_join : (o : Object) (n m : ℕ) (s : State) (w : List Wild) → span o (n + m) s w
    ≡ joined (span o n s w).outputs (span o m (span o n s w).state (span o n s w).wild)
unfolding span
span_join o n zero s w = ap (λ k. span o k s w) (add-zero n)
    ∙ ap (λ xs. record { state = (span o n s w).state; wild = (span o n s w).wild; outputs = xs })
    (sym (append-nil (span o n s w).outputs))
span_join o n (suc m) s w =
    ap (λ k. span o k s w) (add-suc n m)
    ∙ ap (λ (r : Ran). extended r.outputs (step o r.state r.wild)) (span_join o n m s w)
    ∙ extended_joined (span o n s w).outputs (span o m (span o n s w).state (span o n s w).wild).outputs
    (step o (span o m (span o n s w).state (span o n s w).wild).state
    (span o m (span o n s w).state (span o n s w).wild).wild)

-- the cells keep their addresses
pub span_keeps_cells : (o : Object) (n : ℕ) (s : State) (w : List Wild) (a : ℕ) → is_cell (span o n s w).state.cells a
    ≡ is_cell s.cells a
unfolding span
span_keeps_cells o zero s w a = refl
span_keeps_cells o (suc n) s w a = (step_is_proper o (span o n s w).state (span o n s w).wild).cells a
    ∙ span_keeps_cells o n s w a

pub span_has_cells : (o : Object) (c n : ℕ) (s : State) (w : List Wild) → HasCells c s → HasCells c (span o n s w).state
span_has_cells o c n s w h a = span_keeps_cells o n s w a ∙ h a

-- a stopped machine does not change
pub span_stays : (o : Object) (n : ℕ) (s : State) (w : List Wild) → HasStopped s.status → (span o n s w).state ≡ s
unfolding span
span_stays o zero s w h = refl
span_stays o (suc n) s w h = ap (λ q. (step o q (span o n s w).wild).state) (span_stays o n s w h)
    ∙ ap (λ (t : Stepping). t.state) (stays_at o s.status s (span o n s w).wild h)

running_at : (v : Status) → (HasStopped v → ⊥) → v ≡ Running
running_at status.Running h = refl
running_at status.Done h = absurd (h tt)
running_at status.Detected h = absurd (h tt)

-- a machine that is running after more steps was running before them
pub span_running : (o : Object) (n m : ℕ) (s : State) (w : List Wild) → (span o (n + m) s w).state.status ≡ Running →
    (span o n s w).state.status ≡ Running
span_running o n m s w running =
    running_at (span o n s w).state.status
    (λ h. let same = ap (λ (r : Ran). r.state) (span_join o n m s w)
    ∙ span_stays o m (span o n s w).state (span o n s w).wild h in
    subst HasStopped (sym (ap (λ (q : State). q.status) same) ∙ running) h)

-- continuing a span from where it ended gives the longer span
pub span_then : (o : Object) (n m : ℕ) (s s1 : State) (w w1 : List Wild) → s1 ≡ (span o n s w).state → w1
    ≡ (span o n s w).wild → span o (n + m) s w ≡ joined (span o n s w).outputs (span o m s1 w1)
span_then o n m s s1 w w1 es ew =
    span_join o n m s w
    ∙ ap (λ q. joined (span o n s w).outputs (span o m q (span o n s w).wild)) (sym es)
    ∙ ap (λ v. joined (span o n s w).outputs (span o m s1 v)) (sym ew)

-- a span of one step is that step
pub span_one : (o : Object) (s : State) (w : List Wild) → span o 1 s w ≡ extended [] (step o s w)
span_one o s w = span-add_one o 0 s w ∙ ap (λ (r : Ran). extended r.outputs (step o r.state r.wild)) (span-zero o s w)

-- a step with nothing fetched and equal counters is a fetch
pub fetched_step : (o : Object) (b : Bank) (pc : ℕ) (i : Option Instr) (w : List Wild) → instr_at o pc ≡ i →
    step o (doing b pc pc None) w ≡ fetch i (doing b pc pc None) w
fetched_step o b pc i w is =
    ap (λ t. if t then fetch (instr_at o pc) (doing b pc pc None) w else detected (doing b pc pc None) w)
    (eq-eqb pc pc refl) ∙ ap (λ x. fetch x (doing b pc pc None) w) is

-- a whole instruction is two steps
pub span_two : (o : Object) (b new : Bank) (pc : ℕ) (i : Instr) (e : Effect) (w left : List Wild) → instr_at o pc
    ≡ Some i → Does (execute i) b new e w left
    → span o 2 (doing b pc pc None) w ≡ record {
      state = followed e new pc pc (Some i);
      wild = left;
      outputs = option_to_list (put_out e);
    }
span_two o b new pc i e w left is h =
    span-add_one o 1 (doing b pc pc None) w
    ∙ ap (λ (r : Ran). extended r.outputs (step o r.state r.wild)) (span_one o (doing b pc pc None) w
    ∙ ap (extended []) (fetched_step o b pc (Some i) w is))
    ∙ ap (extended []) (h.does pc pc (Some i))

-- if there is no instruction, one step detects it
pub span_lost : (o : Object) (b : Bank) (pc : ℕ) (w : List Wild) → instr_at o pc ≡ None →
    span o 1 (doing b pc pc None) w ≡ record {
      state = record (doing b pc pc None) { status = status.Detected };
      wild = w;
      outputs = [];
    }
span_lost o b pc w is = span_one o (doing b pc pc None) w ∙ ap (extended []) (fetched_step o b pc None w is)

-- the address of one of n cells is within these bounds
pub cell_bounds : (n a : ℕ) → (nat_le 1048576 a && nat_lt a (1048576 + n)) ≡ true → (1048576 ≤ a) × (a < 1048576 + n)
cell_bounds n a h = (grind (arith, nat_tests), grind (arith, nat_tests))

-- a run that has not been struck is a span from the start
pub run_start : (o : Object) (strike : Option Strike) (w : List Wild) (m : ℕ) → ((j : ℕ) → j < m → Spares strike j) →
    run o strike w m ≡ span o m (start o) w
unfolding run span
run_start o strike w zero h = refl
run_start o strike w (suc m) h =
    ap (λ s. extended (run o strike w m).outputs (step o s (run o strike w m).wild))
    (h m (omega arith) (run o strike w m).state)
    ∙ ap (λ (r : Ran). extended r.outputs (step o r.state r.wild)) (run_start o strike w m (λ j below.
    h j (omega arith)))

-- after its strike, a run goes on as a span from the struck state
pub run_on : (o : Object) (strike : Option Strike) (w : List Wild) (k m : ℕ) → ((j : ℕ) → k < j → Spares strike j)
    → run o strike w (k + suc m) ≡ joined (run o strike w k).outputs
    (span o (suc m) (struck_before strike k (run o strike w k).state) (run o strike w k).wild)
unfolding run span
run_on o strike w k zero h =
    ap (run o strike w) (add-suc k 0 ∙ ap suc (add-zero k))
    ∙ ap (λ xs. extended xs (step o (struck_before strike k (run o strike w k).state) (run o strike w k).wild))
    (sym (append-nil (run o strike w k).outputs))
    ∙ extended_joined (run o strike w k).outputs []
    (step o (struck_before strike k (run o strike w k).state) (run o strike w k).wild)
run_on o strike w k (suc m) h =
    let s = struck_before strike k (run o strike w k).state in
    let v = (run o strike w k).wild in
    let xs = (run o strike w k).outputs in
    ap (run o strike w) (add-suc k (suc m))
    ∙ ap (λ x. extended (run o strike w (k + suc m)).outputs (step o x (run o strike w (k + suc m)).wild))
    (h (k + suc m) (omega arith) (run o strike w (k + suc m)).state)
    ∙ ap (λ (r : Ran). extended r.outputs (step o r.state r.wild)) (run_on o strike w k m h)
    ∙ extended_joined xs (span o (suc m) s v).outputs (step o (span o (suc m) s v).state (span o (suc m) s v).wild)

-- the first m steps and the rest are all n steps
pub rest_of : (m n : ℕ) → m ≤ n → m + (n - m) ≡ n
rest_of m n le = omega arith

-- a run that has not been struck is a span from a state equal to the start
pub run_first : (o : Object) (strike : Option Strike) (w w0 : List Wild) (s0 : State) (m : ℕ) → s0 ≡ start o → w0 ≡ w →
    ((j : ℕ) → j < m → Spares strike j) → run o strike w m ≡ span o m s0 w0
run_first o strike w w0 s0 m begun answers h = run_start o strike w m h ∙ ap (λ s. span o m s w) (sym begun)
    ∙ ap (λ v. span o m s0 v) (sym answers)

-- after its strike, a run is a span from a state equal to the struck one
pub run_second : (o : Object) (strike : Option Strike) (w : List Wild) (s1 s2 : State) (w1 : List Wild) (before m : ℕ) →
    s1 ≡ (run o strike w before).state → w1 ≡ (run o strike w before).wild
    → s2 ≡ struck_before strike before s1 → ((j : ℕ) → before < j → Spares strike j) → 0 < m →
    run o strike w (before + m) ≡ joined (run o strike w before).outputs (span o m s2 w1)
run_second o strike w s1 s2 w1 before zero es ew struck spares some = absurd (omega arith)
run_second o strike w s1 s2 w1 before (suc m) es ew struck spares some =
    run_on o strike w before m spares
    ∙ ap (λ x. joined (run o strike w before).outputs (span o (suc m) x (run o strike w before).wild))
    (sym (struck ∙ ap (struck_before strike before) es))
    ∙ ap (λ v. joined (run o strike w before).outputs (span o (suc m) s2 v)) (sym ew)

pub outputs_second : (o : Object) (strike : Option Strike) (w : List Wild) (s1 s2 : State) (w1 : List Wild) (before : ℕ)
    → s1 ≡ (run o strike w before).state → w1 ≡ (run o strike w before).wild
    → s2 ≡ struck_before strike before s1 → ((j : ℕ) → before < j → Spares strike j) → (i : ℕ) →
    (run o strike w (before + i)).outputs ≡ (run o strike w before).outputs ++ (span o i s2 w1).outputs
outputs_second o strike w s1 s2 w1 before es ew struck spares zero =
    ap (λ i. (run o strike w i).outputs) (omega arith) ∙ sym (append-nil (run o strike w before).outputs)
    ∙ ap (λ (x : Ran). (run o strike w before).outputs ++ x.outputs) (sym (span-zero o s2 w1))
outputs_second o strike w s1 s2 w1 before es ew struck spares (suc i) =
    ap (λ (x : Ran). x.outputs) (run_second o strike w s1 s2 w1 before (suc i) es ew struck spares (omega arith))

-- instruction i is at 1 + i
pub there_is : (o : Object) (i : ℕ) (x : Instr) → slice_get o.instrs i ≡ Some x → instr_at o (1 + i) ≡ Some x
there_is o i x h = let e : 1 + i ≡ suc i = omega arith in ap (instr_at o) e ∙ h
