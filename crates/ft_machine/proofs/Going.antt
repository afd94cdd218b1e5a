-- Steps whose outputs an outlet takes.
use Rattle.std.proofs.Common.{◌≡◌, ℕ, zero, suc, ◌+◌, ◌-◌, ◌^◌, ◌<◌, ◌≤◌, List, [], ◌∷◌, ◌++◌, Option, Some, None, Bool}
use Rattle.std.proofs.Common.{true, false, refl, ap, sym, subst, ◌∙◌, ⊎_elim, append_assoc, arith}
use Rattle.std.proofs.lemmas.List.{append-nil}
use Rattle.std.proofs.lemmas.Bool.{cases_lt}
use Rattle.std.specs.Option.{option_to_list}
use Rattle.ft_isa.specs.declared.plan.Wild.{Wild}
use Rattle.ft_isa.specs.declared.output.Output.{Output}
use Rattle.ft_isa.specs.declared.instr.Instr.{Instr}
use Rattle.ft_types.specs.declared.object.Object.{Object}
use Rattle.ft_semantics.specs.declared.status.Status.{Status}
use Rattle.ft_semantics.specs.declared.status.Status.TheVariants as status
use Rattle.ft_semantics.specs.State.{State, is_cell}
use Rattle.ft_semantics.specs.Step.{next, step, execute}
use Rattle.ft_types.specs.Objects.{instr_at}
use Rattle.ft_semantics.specs.Run.{Ran, extended}
use Rattle.ft_machine.specs.Banks.{Bank}
use Rattle.ft_machine.specs.declared.bank.Effect.{Effect}
use Rattle.ft_machine.specs.declared.bank.Effect.TheVariants as effects
use Rattle.ft_machine.specs.declared.outlet.Outlet.{Ghosts}
use Rattle.ft_machine.specs.declared.stepped.Stepped.{Stepped}
use Rattle.ft_machine.specs.declared.stepped.Stepped.TheVariants.{Quiet, Commit, Done, Detected}
use Rattle.ft_machine.specs.declared.stepped.Pause.{Pause}
use Rattle.ft_machine.specs.declared.stepped.Pause.TheVariants as pauses
use Rattle.ft_machine.specs.Answers.{Takes, told_output}
use Rattle.ft_machine.specs.Advances.{output_told, status_told}
use Rattle.ft_machine.specs.Effects.{Does, doing, followed, put_out, told_effect}
use Rattle.ft_machine.specs.Goes.{goes_on, EndsWith, Goes, PassesOn}
use Rattle.ft_machine.specs.Hears.{Hears}
use Rattle.ft_machine.specs.Spans.{span, span-zero}
use Rattle.ft_machine.proofs.Steps.{step_is_proper, execute_is_proper}
use Rattle.ft_machine.proofs.Spanned.{span_then, span_one, span_two, span_lost, span_keeps_cells, fetched_step, rest_of}

told_output_is : (x : Option Output) (v : Status) → x ≡ output_told (told_output x v)
told_output_is (Some out) v = refl
told_output_is None status.Running = refl
told_output_is None status.Done = refl
told_output_is None status.Detected = refl

told_status_is : (x : Option Output) (v : Status) → ((out : Output) → x ≡ Some out → v ≡ status.Running) → v
    ≡ status_told (told_output x v)
told_status_is (Some out) v h = h out refl
told_status_is None status.Running h = refl
told_status_is None status.Done h = refl
told_status_is None status.Detected h = refl

effect_output : (e : Effect) → put_out e ≡ output_told (told_effect e)
effect_output effects.On = refl
effect_output (effects.To target) = refl
effect_output (effects.Commit output) = refl
effect_output effects.Done = refl
effect_output effects.Detected = refl

effect_status : (e : Effect) (b : Bank) (green blue : ℕ) (f : Option Instr) → (followed e b green blue f).status
    ≡ status_told (told_effect e)
effect_status effects.On b green blue f = refl
effect_status (effects.To target) b green blue f = refl
effect_status (effects.Commit output) b green blue f = refl
effect_status effects.Done b green blue f = refl
effect_status effects.Detected b green blue f = refl

-- a step after the first n is one of the m that follow
pub rest_below : (n m j : ℕ) → n ≤ j → j < n + m → j - n < m
rest_below n m j le below = omega arith

-- `EndsWith` carries over to equal outputs, and to outputs that follow others
pub last_as : (pause : Pause) (f g : ℕ → List Output) (n : ℕ) → ((i : ℕ) → i ≤ n → f i ≡ g i) → EndsWith pause f n →
    EndsWith pause g n
last_as pauses.Running f g n same h = tt
last_as pauses.Done f g n same h = tt
last_as pauses.Detected f g n same h = tt
last_as pauses.Refused f g n same (j, (x, (is, outputs))) =
    (j, (x, (is, sym (same n (omega arith)) ∙ outputs ∙ ap (λ ys. ys ++ x ∷ []) (same j (omega (arith, is))))))

pub last_after : (pause : Pause) (front : List Output) (f g : ℕ → List Output) (n m : ℕ) →
    ((i : ℕ) → g (n + i) ≡ front ++ f i) → EndsWith pause f m → EndsWith pause g (n + m)
last_after pauses.Running front f g n m whole h = tt
last_after pauses.Done front f g n m whole h = tt
last_after pauses.Detected front f g n m whole h = tt
last_after pauses.Refused front f g n m whole (j, (x, (is, outputs))) = (
  n + j,
  (
    x,
    (
      omega (arith, is),
      whole m ∙ ap (λ ys. front ++ ys) outputs ∙ sym (append_assoc front (f j) (x ∷ []))
          ∙ ap (λ ys. ys ++ x ∷ []) (sym (whole j)),
    ),
  ),
)

-- if the outlet does not go on, the outputs end with the one that the last step returned
last_one : (pause : Pause) (last : Stepped) (f : ℕ → List Output) (n j : ℕ) → n ≡ j + 1 →
    (pause ≡ pauses.Refused → (output : Output) × (last ≡ Commit output))
    → f n ≡ f j ++ option_to_list (output_told last) → EndsWith pause f n
last_one pauses.Running last f n j is given outputs = tt
last_one pauses.Done last f n j is given outputs = tt
last_one pauses.Detected last f n j is given outputs = tt
last_one pauses.Refused last f n j is given outputs =
    let x = given refl in
    (j, (x.0, (is, outputs ∙ ap (λ l. f j ++ option_to_list (output_told l)) x.1)))

-- a committed pair goes to a cell
pub commit_cell : (b new : Bank) (pc : ℕ) (i : Instr) (x : Output) (w left : List Wild) →
    Does (execute i) b new (effects.Commit x) w left → is_cell b.cells x.addr ≡ true
commit_cell b new pc i x w left h = ((execute_is_proper i (doing b pc pc (Some i)) w).output x
    (ap (λ t. t.output) (h.does pc pc (Some i)))).1

module _ {T : Type 0} (outlet : Ghosts T) where
  hears_none : (t : T) → Hears outlet.heard t [] true t
  hears_none t = λ first before h. subst (λ xs. outlet.heard first xs true t) (sym (append-nil before)) h

  hears_then : (t t1 t2 : T) (xs ys : List Output) (b : Bool) → Hears outlet.heard t xs true t1 →
      Hears outlet.heard t1 ys b t2 → Hears outlet.heard t (xs ++ ys) b t2
  hears_then t t1 t2 xs ys b h k = λ first before given.
      subst (λ zs. outlet.heard first zs b t2) (append_assoc before xs ys)
      (k first (before ++ xs) (h first before given))

  -- after a quiet step, the outlet is unchanged and the machine is still running
  pub passes_quiet : (t : T) → PassesOn outlet Quiet t t pauses.Running
  passes_quiet t = record { status_is = refl; given = λ e. absurd (cc); hears = hears_none t; still = λ x h. h }

  pub passes_done : (t : T) → PassesOn outlet Done t t pauses.Done
  passes_done t = record { status_is = refl; given = λ e. absurd (cc); hears = hears_none t; still = λ x h. h }

  pub passes_detected : (t : T) → PassesOn outlet Detected t t pauses.Detected
  passes_detected t = record { status_is = refl; given = λ e. absurd (cc); hears = hears_none t; still = λ x h. h }

  -- if the outlet takes an output and goes on, the machine is still running
  pub passes_on : (x : Output) (b : Bool) (t t' : T) → b ≡ true → Hears outlet.heard t (x ∷ []) b t' →
      ((other : Output) → outlet.may t other → outlet.may t' other) → PassesOn outlet (Commit x) t t' pauses.Running
  passes_on x b t t' is h still = record {
    status_is = refl;
    given = λ e. absurd (cc);
    hears = subst (λ y. Hears outlet.heard t (x ∷ []) y t') is h;
    still = still;
  }

  pub passes_last : (x : Output) (b : Bool) (t t' : T) → b ≡ false → Hears outlet.heard t (x ∷ []) b t' →
      ((other : Output) → outlet.may t other → outlet.may t' other) → PassesOn outlet (Commit x) t t' pauses.Refused
  passes_last x b t t' is h still = record {
    status_is = refl;
    given = λ e. (x, refl);
    hears = subst (λ y. Hears outlet.heard t (x ∷ []) y t') is h;
    still = still;
  }

  module _ (o : Object) where
    -- taking no steps changes nothing
    pub goes_none : (s : State) (w : List Wild) (t : T) → s.status ≡ status.Running →
        Goes outlet o s w t s w t 0 pauses.Running
    goes_none s w t running =
        let begun = span-zero o s w in
        record {
          state_is = ap (λ (r : Ran). r.state) (sym begun);
          wild_is = ap (λ (r : Ran). r.wild) (sym begun);
          status_is = ap (λ (r : Ran). r.state.status) begun ∙ running;
          last = tt;
          running = λ j below. absurd (omega (arith, below));
          hears = subst (λ xs. Hears outlet.heard t xs true t) (sym (ap (λ (r : Ran). r.outputs) begun)) (hears_none t);
          still = λ x h. h;
        }

    -- steps and the steps that follow them, taken together, are steps from the first state
    pub goes_more : (s s1 s2 : State) (w w1 w2 : List Wild) (t t1 t2 : T) (n m : ℕ) (pause : Pause) →
        Goes outlet o s w t s1 w1 t1 n pauses.Running → Goes outlet o s1 w1 t1 s2 w2 t2 m pause →
        Goes outlet o s w t s2 w2 t2 (n + m) pause
    goes_more s s1 s2 w w1 w2 t t1 t2 n m pause a b =
        let then = λ (i : ℕ). span_then o n i s s1 w w1 a.state_is a.wild_is in
        let whole = span_then o n m s s1 w w1 a.state_is a.wild_is in
        record {
          state_is = b.state_is ∙ ap (λ (r : Ran). r.state) (sym whole);
          wild_is = b.wild_is ∙ ap (λ (r : Ran). r.wild) (sym whole);
          status_is = ap (λ (r : Ran). r.state.status) whole ∙ b.status_is;
          last = last_after pause (span o n s w).outputs (λ i. (span o i s1 w1).outputs) (λ i.
              (span o i s w).outputs) n m (λ i. ap (λ (r : Ran). r.outputs) (then i)) b.last;
          running = λ j below.
              ⊎_elim (λ (early : j < n). a.running j early)
              (λ (late : n ≤ j).
              subst (λ k. (span o k s w).state.status ≡ status.Running) (rest_of n j late)
              (ap (λ (r : Ran). r.state.status) (then (j - n)) ∙ b.running (j - n) (rest_below n m j late below)))
              (cases_lt j n);
          hears = subst (λ xs. Hears outlet.heard t xs (goes_on pause) t2) (sym (ap (λ (r : Ran). r.outputs) whole))
              (hears_then t t1 t2 (span o n s w).outputs (span o m s1 w1).outputs (goes_on pause) a.hears b.hears);
          still = λ x h. b.still x (a.still x h);
        }

    before_one : (s : State) (w : List Wild) (j : ℕ) → s.status ≡ status.Running → j < 1 → (span o j s w).state.status
        ≡ status.Running
    before_one s w zero running below = ap (λ (r : Ran). r.state.status) (span-zero o s w) ∙ running
    before_one s w (suc j) running below = absurd (omega (arith, below))

    -- one step, with its output passed on to the outlet
    pub goes_one : (s s' : State) (w w' : List Wild) (t t' : T) (last : Stepped) (pause : Pause) → s.status
        ≡ status.Running → Takes (step o s w) s' w' last → PassesOn outlet last t t' pause →
        Goes outlet o s w t s' w' t' 1 pause
    goes_one s s' w w' t t' last pause running h p =
        let one = span_one o s w in
        let made = step o s w in
        let outputs : (span o 1 s w).outputs ≡ option_to_list (output_told last)
        = ap (λ (r : Ran). r.outputs) one ∙ ap option_to_list (told_output_is made.output made.state.status)
        ∙ ap (λ x. option_to_list (output_told x)) (sym h.answer_is) in
        let begun : (span o 0 s w).outputs ≡ [] = ap (λ (r : Ran). r.outputs) (span-zero o s w) in
        record {
          state_is = h.state_is ∙ ap (λ (r : Ran). r.state) (sym one);
          wild_is = h.wild_is ∙ ap (λ (r : Ran). r.wild) (sym one);
          status_is = ap (λ (r : Ran). r.state.status) one
              ∙ told_status_is made.output made.state.status (λ out is. ((step_is_proper o s w).output out is).0
              ∙ running) ∙ ap status_told (sym h.answer_is) ∙ sym p.status_is;
          last = last_one pause last (λ i. (span o i s w).outputs) 1 0 (omega arith) p.given (outputs
              ∙ ap (λ xs. xs ++ option_to_list (output_told last)) (sym begun));
          running = λ j below. before_one s w j running below;
          hears = subst (λ xs. Hears outlet.heard t xs (goes_on pause) t') (sym outputs) p.hears;
          still = p.still;
        }

    fetched : (b : Bank) (pc : ℕ) (i : Instr) (w : List Wild) → instr_at o pc ≡ Some i → span o 1 (doing b pc pc None) w
        ≡ record { state = doing b pc pc (Some i); wild = w; outputs = [] }
    fetched b pc i w is = span_one o (doing b pc pc None) w ∙ ap (extended []) (fetched_step o b pc (Some i) w is)

    before_two : (b : Bank) (pc : ℕ) (i : Instr) (w : List Wild) (j : ℕ) → instr_at o pc ≡ Some i → j < 2 →
        (span o j (doing b pc pc None) w).state.status ≡ status.Running
    before_two b pc i w zero is below = before_one (doing b pc pc None) w 0 refl (omega arith)
    before_two b pc i w (suc zero) is below = ap (λ (r : Ran). r.state.status) (fetched b pc i w is)
    before_two b pc i w (suc (suc j)) is below = absurd (omega (arith, below))

    -- a whole instruction in two steps, with its output passed on to the outlet
    pub goes_two : (b new : Bank) (pc : ℕ) (i : Instr) (e : Effect) (w left : List Wild) (t t' : T) (pause : Pause) →
        instr_at o pc ≡ Some i → Does (execute i) b new e w left → PassesOn outlet (told_effect e) t t' pause
        → Goes outlet o (doing b pc pc None) w t (followed e new pc pc (Some i)) left t' 2 pause
    goes_two b new pc i e w left t t' pause is h p =
        let two = span_two o b new pc i e w left is h in
        let outputs : (span o 2 (doing b pc pc None) w).outputs ≡ option_to_list (output_told (told_effect e)) =
        ap (λ (r : Ran). r.outputs) two ∙ ap option_to_list (effect_output e) in
        let before : (span o 1 (doing b pc pc None) w).outputs
        ≡ [] = ap (λ (r : Ran). r.outputs) (fetched b pc i w is) in
        record {
          state_is = ap (λ (r : Ran). r.state) (sym two);
          wild_is = ap (λ (r : Ran). r.wild) (sym two);
          status_is = ap (λ (r : Ran). r.state.status) two ∙ effect_status e new pc pc (Some i) ∙ sym p.status_is;
          last = last_one pause (told_effect e) (λ j. (span o j (doing b pc pc None) w).outputs) 2 1 (omega arith)
              p.given (outputs ∙ ap (λ xs. xs ++ option_to_list (output_told (told_effect e))) (sym before));
          running = λ j below. before_two b pc i w j is below;
          hears = subst (λ xs. Hears outlet.heard t xs (goes_on pause) t') (sym outputs) p.hears;
          still = p.still;
        }

    -- if there is no instruction, one step detects that
    pub goes_lost : (b : Bank) (pc : ℕ) (w : List Wild) (t : T) → instr_at o pc ≡ None →
        Goes outlet o (doing b pc pc None) w t (record (doing b pc pc None) { status = status.Detected }) w t 1
        pauses.Detected
    goes_lost b pc w t is =
        let one = span_lost o b pc w is in
        record {
          state_is = ap (λ (r : Ran). r.state) (sym one);
          wild_is = ap (λ (r : Ran). r.wild) (sym one);
          status_is = ap (λ (r : Ran). r.state.status) one;
          last = tt;
          running = λ j below. before_one (doing b pc pc None) w j refl below;
          hears = subst (λ xs. Hears outlet.heard t xs true t) (sym (ap (λ (r : Ran). r.outputs) one)) (hears_none t);
          still = λ x h. h;
        }

    -- a whole instruction after earlier steps, with its output passed on to the outlet
    pub goes_then : (s : State) (b new : Bank) (i : ℕ) (x : Instr) (e : Effect) (w w1 left : List Wild) (t t1 t2 : T)
        (n m : ℕ) (pause : Pause) → Goes outlet o s w t (doing b (1 + i) (1 + i) None) w1 t1 n pauses.Running
        → instr_at o (1 + i) ≡ Some x → Does (execute x) b new e w1 left → PassesOn outlet (told_effect e) t1 t2 pause →
        n + 2 ≡ m → Goes outlet o s w t (followed e new (1 + i) (1 + i) (Some x)) left t2 m pause
    goes_then s b new i x e w w1 left t t1 t2 n m pause a is h p le =
        let pc = 1 + i in
        subst (λ k. Goes outlet o s w t (followed e new pc pc (Some x)) left t2 k pause) le
        (goes_more s (doing b pc pc None) (followed e new pc pc (Some x)) w w1 left t t1 t2 n 2 pause a
        (goes_two b new pc x e w1 left t1 t2 pause is h p))

    module _ (s s' : State) (w w' : List Wild) (t t' : T) (n : ℕ) (pause : Pause)
        (a : Goes outlet o s w t s' w' t' n pause) where
      -- the cells keep their addresses
      pub goes_cells : (q : ℕ) → is_cell s'.cells q ≡ is_cell s.cells q
      goes_cells q = ap (λ (x : State). is_cell x.cells q) a.state_is ∙ span_keeps_cells o n s w q

      -- the outlet may still take the outputs that go to a cell
      pub goes_may : ((x : Output) → is_cell s.cells x.addr ≡ true → outlet.may t x) → (x : Output) →
          is_cell s'.cells x.addr ≡ true → outlet.may t' x
      goes_may may x there = a.still x (may x (sym (goes_cells x.addr) ∙ there))

-- the code address after an instruction fits in a word
pub next_is : (i : ℕ) → i < 2 ^ 32 → next (1 + i) ≡ 1 + i + 1
next_is i small = omega arith

pub same_place : (i : ℕ) → 1 + i + 1 ≡ 1 + (i + 1)
same_place i = omega arith
