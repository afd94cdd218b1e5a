-- The length of the queue before each step of the run without a fault.
use Rattle.std.proofs.Common.{◌≡◌, ℕ, ◌+◌, ◌-◌, ◌%◌, ◌^◌, ◌<◌, ◌≤◌, List, [], ◌∷◌, ◌++◌, length, take, drop}
use Rattle.std.proofs.Common.{Option, Some, None, Bool, true, false, ◌&&◌, slice_get, refl, ap, sym, subst, ◌∙◌}
use Rattle.std.proofs.Common.{append_assoc, ⊎_elim, arith, length-take}
use Rattle.std.specs.Prelude.{if◌then◌else◌, ◌==◌, nat_lt}
use Rattle.std.proofs.lemmas.Bool.Decides.{nat_tests}
use Rattle.std.proofs.lemmas.List.{length-append}
use Rattle.std.proofs.lemmas.Option.{slice_get_within}
use Rattle.ft_isa.specs.declared.colour.Colour.{Colour}
use Rattle.ft_isa.specs.declared.colour.Colour.TheVariants.{Green, Blue}
use Rattle.ft_isa.specs.declared.instr.Instr.{Instr}
use Rattle.ft_isa.specs.declared.instr.Instr.TheVariants.{OpReg, OpWord, Mov, Ld, St, JmpG, JmpB, BzG, BzB, Halt, Idx}
use Rattle.ft_isa.specs.declared.instr.Subst.{Subst}
use Rattle.ft_isa.specs.declared.plan.Wild.{Wild}
use Rattle.ft_isa.specs.declared.plan.Wild.TheVariants.{Word, Stop}
use Rattle.ft_isa.specs.declared.reg.Reg.{Reg}
use Rattle.ft_isa.specs.Pending.{Pending, is_oldest}
use Rattle.ft_isa.proofs.Lists.{there_pushed, get_taken}
use Rattle.ft_types.specs.declared.object.Object.{Object}
use Rattle.ft_types.specs.Objects.{instr_at}
use Rattle.ft_semantics.specs.declared.status.Status.{Status}
use Rattle.ft_semantics.specs.declared.status.Status.TheVariants as status
use Rattle.ft_semantics.specs.declared.status.Status.TheVariants.{Running}
use Rattle.ft_semantics.specs.State.{State, start, word, is_cell}
use Rattle.ft_semantics.specs.Step.{Stepping, step, step_at, advance, fetch, execute, detected, quiet, next, goes_on}
use Rattle.ft_semantics.specs.Step.{writes, load, wild_load, found, commit, commits, jump_green, pass}
use Rattle.ft_semantics.specs.Run.{Ran, run-add_one, state_after, wild_after}
use Rattle.ft_machine.proofs.Spanned.{run_start, span_running}
use Rattle.ft_campaign.specs.Snapshots.{AreLengths, IsReady, LeadsOn}

-- ONE INSTRUCTION

-- the machine goes on to the next instruction, with b entries in the queue
abbrev GoesOn : State → State → ℕ → Type 0
GoesOn s t b = IsReady (next s.pc_green) b t

-- a step with a condition
given : (t : Bool) (s : State) (x : Stepping) (w : List Wild) (b : ℕ) → (t ≡ true → GoesOn s x.state b) →
    (if t then x else detected s w).state.status ≡ Running → GoesOn s (if t then x else detected s w).state b
given true s x w b h running = h refl
given false s x w b h running = absurd (let e : status.Detected ≡ status.Running = running in cc)

chosen : (t : Bool) (s : State) (x y : Stepping) (b : ℕ) → (x.state.status ≡ Running → GoesOn s x.state b) →
    (y.state.status ≡ Running → GoesOn s y.state b) → (if t then x else y).state.status ≡ Running →
    GoesOn s (if t then x else y).state b
chosen true s x y b f g running = f running
chosen false s x y b f g running = g running

writes_on : (rd : Reg) (c : Colour) (v : ℕ) (s : State) (w : List Wild) (b : ℕ) → b ≡ length s.queue →
    GoesOn s (writes rd c v s w).state b
writes_on rd c v s w b is = record { nothing = refl; counter = refl; entries = is }

wild_on : (c : Colour) (rd : Reg) (s : State) (w : List Wild) (b : ℕ) → b ≡ length s.queue →
    (wild_load c rd s w).state.status ≡ Running → GoesOn s (wild_load c rd s w).state b
wild_on c rd s (Word v ∷ w) b is running = writes_on rd c v s w b is
wild_on c rd s (Stop ∷ w) b is running = absurd (let e : status.Detected ≡ status.Running = running in cc)
wild_on c rd s [] b is running = absurd (let e : status.Detected ≡ status.Running = running in cc)

load_on : (c : Colour) (rd : Reg) (x : Option ℕ) (s : State) (w : List Wild) (b : ℕ) → b ≡ length s.queue →
    (load c rd x s w).state.status ≡ Running → GoesOn s (load c rd x s w).state b
load_on c rd (Some v) s w b is running = writes_on rd c v s w b is
load_on c rd None s w b is running = wild_on c rd s w b is running

jump_on : (a : ℕ) (s : State) (w : List Wild) (b : ℕ) → b ≡ length s.queue →
    (jump_green a s w).state.status ≡ Running → GoesOn s (jump_green a s w).state b
jump_on a s w b is = given (s.d == 0) s (quiet (goes_on (record s { d = a })) w) w b
    (λ _. record { nothing = refl; counter = refl; entries = is })

pass_on : (s : State) (w : List Wild) (b : ℕ) → b ≡ length s.queue → (pass s w).state.status ≡ Running →
    GoesOn s (pass s w).state b
pass_on s w b is = given (s.d == 0) s (quiet (goes_on s) w) w b
    (λ _. record { nothing = refl; counter = refl; entries = is })

one_more : (a v b : ℕ) (q : Pending) → b ≡ length q → nat_lt (length q) 8 ≡ true → (b + 1) % 256
    ≡ length (q ++ (a, v) ∷ [])
one_more a v b q is few = let long = length-append q ((a, v) ∷ []) in grind (arith, nat_tests, is, few, long)

one_less : (a v b : ℕ) (q : Pending) (x : Bool) → b ≡ length q → (is_oldest q a v && x) ≡ true → b - 1
    ≡ length (drop 1 q)
one_less a v b [] x is old = absurd (let e : false ≡ true = old in cc)
one_less a v b (e ∷ q) x is old = omega (arith, is)

pub green_leads_on : (rd rs : Reg) (b : ℕ) → LeadsOn (St Green rd rs) b ((b + 1) % 256)
green_leads_on rd rs b = λ s w is running.
    given (nat_lt (length s.queue) 8) s
    (quiet (goes_on (record s { queue = s.queue ++ (word s rd, word s rs) ∷ [] })) w) w ((b + 1) % 256)
    (λ few. record { nothing = refl; counter = refl; entries = one_more (word s rd) (word s rs) b s.queue is few })
    running

pub blue_leads_on : (rd rs : Reg) (b : ℕ) → LeadsOn (St Blue rd rs) b (b - 1)
blue_leads_on rd rs b = λ s w is running.
    given (commits (word s rd) (word s rs) s) s (commit (word s rd) (word s rs) s w) w (b - 1)
    (λ old. record {
      nothing = refl;
      counter = refl;
      entries = one_less (word s rd) (word s rs) b s.queue (is_cell s.cells (word s rd)) is old;
    }) running

-- other instructions, but a blue jump or branch and `halt`, leave the queue as it is
pub others_lead_on : (i : Instr) (b : ℕ) → ((c : Colour) (rd rs : Reg) → ¬ (i ≡ St c rd rs)) →
    ((rd : Reg) (rows : Subst) → ¬ (i ≡ JmpB rd rows)) → ((rz rd : Reg) (rows : Subst) → ¬ (i ≡ BzB rz rd rows)) →
    ¬ (i ≡ Halt) → LeadsOn i b b
others_lead_on (OpReg op rd rs rt) b store jump branch halt = λ s w is running. writes_on rd _ _ s w b is
others_lead_on (OpWord op rd rs value) b store jump branch halt = λ s w is running. writes_on rd _ _ s w b is
others_lead_on (Mov rd basic value) b store jump branch halt = λ s w is running. writes_on rd _ _ s w b is
others_lead_on (Ld c rd rs) b store jump branch halt = λ s w is running.
    load_on c rd (found c s (word s rs)) s w b is running
others_lead_on (St c rd rs) b store jump branch halt = absurd (store c rd rs refl)
others_lead_on (JmpG rd) b store jump branch halt = λ s w is running. jump_on (word s rd) s w b is running
others_lead_on (JmpB rd rows) b store jump branch halt = absurd (jump rd rows refl)
others_lead_on (BzG rz rd) b store jump branch halt = λ s w is running.
    chosen (word s rz == 0) s (jump_green (word s rd) s w) (pass s w) b (jump_on (word s rd) s w b is)
    (pass_on s w b is) running
others_lead_on (BzB rz rd rows) b store jump branch halt = absurd (branch rz rd rows refl)
others_lead_on Halt b store jump branch halt = absurd (halt refl)
others_lead_on (Idx rd rs first m) b store jump branch halt = λ s w is running. writes_on rd _ _ s w b is

-- a fetch does not change the queue

fetched_queue : (i : Option Instr) (s : State) (w : List Wild) → (fetch i s w).state.queue ≡ s.queue
fetched_queue (Some i) s w = refl
fetched_queue None s w = refl

fetching_queue : (o : Object) (b : Bool) (s : State) (w : List Wild) →
    (if b then fetch (instr_at o s.pc_green) s w else detected s w).state.queue ≡ s.queue
fetching_queue o true s w = fetched_queue (instr_at o s.pc_green) s w
fetching_queue o false s w = refl

fetch_keeps_queue : (o : Object) (v : Status) (s : State) (w : List Wild) → s.fetched ≡ None →
    (step_at o v s w).state.queue ≡ s.queue
fetch_keeps_queue o status.Running s w nothing = ap (λ i. (advance o i s w).state.queue) nothing
    ∙ fetching_queue o (s.pc_green == s.pc_blue) s w
fetch_keeps_queue o status.Done s w nothing = refl
fetch_keeps_queue o status.Detected s w nothing = refl

-- a fetch that does not stop the machine
fetched : (t : Bool) (s : State) (w : List Wild) (i : Instr) →
    (if t then fetch (Some i) s w else detected s w).state.status ≡ Running →
    (if t then fetch (Some i) s w else detected s w).state ≡ record s { fetched = Some i }
fetched true s w i running = refl
fetched false s w i running = absurd (let e : status.Detected ≡ status.Running = running in cc)

-- THE RUN

module _ (o : Object) (w : List Wild) where
  abbrev pub at : ℕ → State
  at m = state_after o None w m

  at_next : (m : ℕ) → at (m + 1) ≡ (step o (at m) (wild_after o None w m)).state
  at_next m = ap (λ (r : Ran). r.state) (run-add_one o None w m)

  was_running : (m j : ℕ) → (at (m + j)).status ≡ Running → (at m).status ≡ Running
  was_running m j running =
      ap (λ (r : Ran). r.state.status) (run_start o None w m (λ i below s. refl))
      ∙ span_running o m j (start o) w
      (sym (ap (λ (r : Ran). r.state.status) (run_start o None w (m + j) (λ i below s. refl))) ∙ running)

  pub lengths_none : AreLengths o w 0 []
  lengths_none = record { long = refl; queues = λ i b e. absurd (cc) }

  pub lengths_more : (m : ℕ) (xs : List ℕ) (b : ℕ) → AreLengths o w m xs → ((at m).status ≡ Running → b
      ≡ length (at m).queue) → AreLengths o w (m + 1) (xs ++ b ∷ [])
  lengths_more m xs b h is =
      let long = h.long in
      let more = length-append xs (b ∷ []) in
      record {
        long = omega (arith, long, more);
        queues = λ i c e running.
            ⊎_elim (λ (old : slice_get xs i ≡ Some c). h.queues i c old running)
            (λ (new : (i ≡ length xs) × (b ≡ c)).
            let here : i ≡ m = new.0 ∙ long in
            sym new.1 ∙ is (ap (λ j. (at j).status) (sym here) ∙ running)
            ∙ ap (λ j. length (at j).queue) (sym here))
            (there_pushed xs b i c e);
      }

  -- the lengths before both steps of an instruction
  pub lengths_two : (m : ℕ) (xs : List ℕ) (pc b : ℕ) → AreLengths o w m xs →
      ((at m).status ≡ Running → IsReady pc b (at m)) → AreLengths o w (m + 2) (xs ++ b ∷ b ∷ [])
  lengths_two m xs pc b h ready =
      let both : m + 1 + 1 ≡ m + 2 = omega arith in
      subst (AreLengths o w (m + 2)) (append_assoc xs (b ∷ []) (b ∷ []))
      (subst (λ j. AreLengths o w j ((xs ++ b ∷ []) ++ b ∷ [])) both
      (lengths_more (m + 1) (xs ++ b ∷ []) b (lengths_more m xs b h (λ running. (ready running).entries))
      (λ running. let r = ready (was_running m 1 running) in
      r.entries ∙ sym (ap (λ (s : State). length s.queue) (at_next m)
      ∙ ap length (fetch_keeps_queue o (at m).status (at m) (wild_after o None w m) r.nothing)))))

  -- the machine is ready for the next instruction after this one
  pub ready_after : (m pc b c : ℕ) (i : Instr) → ((at m).status ≡ Running → IsReady pc b (at m)) → instr_at o pc
      ≡ Some i → pc + 1 < 2 ^ 64 → LeadsOn i b c → (at (m + 2)).status ≡ Running → IsReady (pc + 1) c (at (m + 2))
  ready_after m pc b c i ready is below leads running =
      let both : m + 2 ≡ m + 1 + 1 = omega arith in
      let s = at m in
      let v = wild_after o None w m in
      let u = wild_after o None w (m + 1) in
      let on = was_running m 2 running in
      let r = ready on in
      let fetching : step o s v ≡ (if s.pc_green == s.pc_blue then fetch (Some i) s v else detected s v) =
      ap (λ q. step_at o q s v) on ∙ ap (λ f. advance o f s v) r.nothing
      ∙ ap (λ f. if s.pc_green == s.pc_blue then fetch f s v else detected s v) (ap (instr_at o) r.counter ∙ is) in
      let later = was_running (m + 1) 1 (ap (λ j. (at j).status) (sym both) ∙ running) in
      let there = at_next m ∙ ap (λ (t : Stepping). t.state) fetching in
      let s1 : State = record s { fetched = Some i } in
      let first : at (m + 1) ≡ s1 = there ∙ fetched (s.pc_green == s.pc_blue) s v i
      (ap (λ (q : State). q.status) (sym there) ∙ later) in
      let second : at (m + 2) ≡ (execute i s1 u).state = ap at both ∙ at_next (m + 1)
      ∙ ap (λ q. (step o q u).state) first ∙ ap (λ q. (step_at o q s1 u).state) on in
      let e = leads s1 u r.entries (ap (λ (q : State). q.status) (sym second) ∙ running) in
      let next_pc : (pc + 1) % 2 ^ 64 ≡ pc + 1 = omega (arith, below) in
      record {
        nothing = ap (λ (q : State). q.fetched) second ∙ e.nothing;
        counter = ap (λ (q : State). q.pc_green) second ∙ e.counter ∙ ap next r.counter ∙ next_pc;
        entries = e.entries ∙ ap (λ (q : State). length q.queue) (sym second);
      }

  -- the lengths before the first of these steps
  pub lengths_cut : (m j : ℕ) (xs : List ℕ) → AreLengths o w m xs → j ≤ m → AreLengths o w j (take j xs)
  lengths_cut m j xs h few =
      let long = h.long in
      let shorter = length-take j xs in
      record {
        long = omega (arith, long, shorter, few);
        queues = λ i b e running.
            let below = slice_get_within (take j xs) i b e in
            let low : i < j = omega (arith, long, shorter, few, below) in
            h.queues i b (sym (get_taken j xs i low) ∙ e) running;
      }

  -- the machine is running before each of the steps before a step before which it is running
  pub running_before : (m i : ℕ) → i < m + 1 → (at m).status ≡ Running → (at i).status ≡ Running
  running_before m i below running =
      was_running i (m - i) (ap (λ j. (at j).status) (rest below) ∙ running)
    where
      rest : i < m + 1 → i + (m - i) ≡ m
      rest below = omega (arith, below)
