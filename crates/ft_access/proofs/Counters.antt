-- Strikes of the program counters.
use Rattle.std.proofs.Common.{◌≡◌, ℕ, zero, suc, Bool, true, false, ◌&&◌, ◌==◌, nat_lt}
use Rattle.std.proofs.Common.{if◌then◌else◌, not, List, [], ◌∷◌, length, Option, Some, None, refl, sym, ap, ◌∙◌, subst}
use Rattle.std.proofs.Common.{eqb-true}
use Rattle.std.proofs.lemmas.Bool.{and_parts}
use Rattle.std.proofs.lemmas.Option.{slice_get_within}
use Rattle.std.proofs.Common.{◌<◌, ◌^◌, arith}
use Rattle.ft_isa.specs.Words.{IsWord}
use Rattle.ft_isa.specs.declared.colour.Colour.{Colour}
use Rattle.ft_isa.specs.declared.colour.Colour.TheVariants.{Green, Blue}
use Rattle.ft_isa.specs.declared.instr.Instr.{Instr}
use Rattle.ft_isa.specs.declared.instr.Instr.TheVariants.{Ld, St, JmpG, JmpB, BzG, BzB, Halt}
use Rattle.ft_isa.specs.declared.plan.Site.TheVariants.{PcG, PcB}
use Rattle.ft_isa.specs.declared.plan.Wild.{Wild}
use Rattle.ft_isa.specs.declared.plan.Wild.TheVariants.{Word, Stop}
use Rattle.ft_types.specs.declared.object.Object.{Object}
use Rattle.ft_types.specs.Objects.{instr_at}
use Rattle.ft_semantics.specs.declared.status.Status.{Status}
use Rattle.ft_semantics.specs.declared.status.Status.TheVariants.{Running, Done, Detected}
use Rattle.ft_semantics.specs.State.{State, word}
use Rattle.ft_semantics.specs.Step.{Stepping, step_at, advance, fetch, detected, found, commits, next}
use Rattle.ft_semantics.specs.Strike.{with_word}
use Rattle.ft_semantics.specs.Run.{run, state_after, wild_after, status_after}
use Rattle.ft_access.specs.Counters.{adds_one}
use Rattle.ft_access.proofs.Changes.{Change, fetches, detects, halts}
use Rattle.ft_access.proofs.Changes.{transfers_to, act, counts}
use Rattle.ft_access.proofs.Doings.{Doing, wild_doing, load_doing, green_jump, blue_jump, passing}
use Rattle.ft_access.proofs.Doings.{doing, execute_is}

-- WHAT AN INSTRUCTION DOES TO THE COUNTERS

-- it stops the machine, transfers control to d, or adds one to both
pub data Turns (d : ℕ) (b : Bool) : Change → Type 0 where
  stops : Turns d b detects
  ends : b ≡ false → Turns d b halts
  turns : {a : ℕ} → b ≡ false → d ≡ a → Turns d b (transfers_to a)
  goes : {c : Change} → b ≡ true → counts c ≡ true → Turns d b c

-- a step that depends on a test
by_if : (d : ℕ) (t b : Bool) (g h : Doing) → (b ≡ true → Turns d t g.change) → Turns d t h.change →
    Turns d t (if b then g else h).change
by_if d t true g h p q = p refl
by_if d t false g h p q = q

-- a wild load
wild_turns : (d : ℕ) (c : Colour) (r : ℕ) (w : List Wild) → Turns d true (wild_doing c r w).change
wild_turns d c r (Word v ∷ w) = goes refl refl
wild_turns d c r (Stop ∷ w) = stops
wild_turns d c r [] = stops

-- a load
load_turns : (d : ℕ) (c : Colour) (r : ℕ) (u : Option ℕ) (w : List Wild) → Turns d true (load_doing c r u w).change
load_turns d c r (Some v) w = goes refl refl
load_turns d c r None w = wild_turns d c r w

-- a blue jump
blue_turns : (d a : ℕ) (w : List Wild) → Turns d false (blue_jump d a w).change
blue_turns d a w = by_if d false (not (d == 0) && (d == a)) _ _ (λ e.
    turns refl (eqb-true d a (and_parts (not (d == 0)) (d == a) e).1)) stops

-- a green jump
green_turns : (d a : ℕ) (w : List Wild) → Turns d true (green_jump d a w).change
green_turns d a w = by_if d true (d == 0) _ _ (λ e. goes refl refl) stops

-- a branch that is not taken
passing_turns : (d : ℕ) (w : List Wild) → Turns d true (passing d w).change
passing_turns d w = by_if d true (d == 0) _ _ (λ e. goes refl refl) stops

-- a blue branch
branch_turns : (d a : ℕ) (w : List Wild) (b : Bool) → Turns d (not b) (if b then blue_jump d a w
    else passing d w).change
branch_turns d a w true = blue_turns d a w
branch_turns d a w false = passing_turns d w

-- what each instruction does to the counters
pub doing_turns : (i : Instr) (s : State) (w : List Wild) → Turns s.d (adds_one i s) (doing i s w).change
doing_turns (Ld Green rd rs) s w = load_turns s.d Green rd.number (found Green s (word s rs)) w
doing_turns (Ld Blue rd rs) s w = load_turns s.d Blue rd.number (found Blue s (word s rs)) w
doing_turns (St Green rd rs) s w = by_if s.d true (nat_lt (length s.queue) 8) _ _ (λ e. goes refl refl) stops
doing_turns (St Blue rd rs) s w = by_if s.d true (commits (word s rd) (word s rs) s) _ _ (λ e. goes refl refl) stops
doing_turns (JmpG rd) s w = green_turns s.d (word s rd) w
doing_turns (JmpB rd rows) s w = blue_turns s.d (word s rd) w
doing_turns (BzG rz rd) s w = by_if s.d true (word s rz == 0) _ _ (λ e. green_turns s.d (word s rd) w)
    (passing_turns s.d w)
doing_turns (BzB rz rd rows) s w = branch_turns s.d (word s rd) w (word s rz == 0)
doing_turns Halt s w = ends refl
doing_turns i s w = goes refl refl

-- no instruction reads a counter, except to add one
pub same_green : (i : Instr) (v : ℕ) (s : State) (w : List Wild) → doing i (with_word PcG v s) w ≡ doing i s w
same_green (Ld Green rd rs) v s w = refl
same_green (St Green rd rs) v s w = refl
same_green i v s w = refl

-- no instruction depends on the blue counter
pub same_blue : (i : Instr) (v : ℕ) (s : State) (w : List Wild) → doing i (with_word PcB v s) w ≡ doing i s w
same_blue (Ld Green rd rs) v s w = refl
same_blue (St Green rd rs) v s w = refl
same_blue i v s w = refl

-- a change that counts keeps a struck green counter, with one more
pub act_green : (c : Change) (v : ℕ) (s : State) → counts c ≡ true → act c (with_word PcG v s)
    ≡ with_word PcG (next v) (act c s)
act_green (fetches i) v s h = cc
act_green detects v s h = cc
act_green halts v s h = cc
act_green (transfers_to a) v s h = cc
act_green c v s h = refl

-- a change that counts keeps a struck blue counter, with one more
pub act_blue : (c : Change) (v : ℕ) (s : State) → counts c ≡ true → act c (with_word PcB v s)
    ≡ with_word PcB (next v) (act c s)
act_blue (fetches i) v s h = cc
act_blue detects v s h = cc
act_blue halts v s h = cc
act_blue (transfers_to a) v s h = cc
act_blue c v s h = refl

-- a change that counts clears what is fetched
pub act_cleared : (c : Change) (s : State) → counts c ≡ true → (act c s).fetched ≡ None
act_cleared (fetches i) s h = cc
act_cleared detects s h = cc
act_cleared halts s h = cc
act_cleared c s h = refl

-- a change that counts keeps the status
pub act_runs : (c : Change) (s : State) → counts c ≡ true → (act c s).status ≡ s.status
act_runs (fetches i) s h = cc
act_runs detects s h = cc
act_runs halts s h = cc
act_runs c s h = refl

-- a change that counts adds one to the green counter
pub act_green_next : (c : Change) (s : State) → counts c ≡ true → (act c s).pc_green ≡ next s.pc_green
act_green_next (fetches i) s h = cc
act_green_next detects s h = cc
act_green_next halts s h = cc
act_green_next (transfers_to a) s h = cc
act_green_next c s h = refl

-- a change that counts adds one to the blue counter
pub act_blue_next : (c : Change) (s : State) → counts c ≡ true → (act c s).pc_blue ≡ next s.pc_blue
act_blue_next (fetches i) s h = cc
act_blue_next detects s h = cc
act_blue_next halts s h = cc
act_blue_next (transfers_to a) s h = cc
act_blue_next c s h = refl

-- THE COUNTERS OF A RUN WITHOUT A FAULT ARE EQUAL

-- the counters of a state are equal
abbrev pub AreEqual : State → Type 0
AreEqual s = s.pc_green ≡ s.pc_blue

-- after a change
equal_act : (b : Bool) (c : Change) (s : State) → Turns s.d b c → AreEqual s → AreEqual (act c s)
equal_act b _ s stops h = h
equal_act b _ s (ends e) h = h
equal_act b _ s (turns e f) h = f
equal_act b c s (goes e f) h = act_green_next c s f ∙ ap next h ∙ sym (act_blue_next c s f)

-- after a fetch
equal_fetch : (b : Bool) (u : Option Instr) (s : State) (w : List Wild) → AreEqual s → AreEqual (if b then fetch u s w
    else detected s w).state
equal_fetch true (Some i) s w h = h
equal_fetch true None s w h = h
equal_fetch false u s w h = h

-- after a step of a running machine
equal_advance : (o : Object) (f : Option Instr) (s : State) (w : List Wild) → AreEqual s →
    AreEqual (advance o f s w).state
equal_advance o None s w h = equal_fetch (s.pc_green == s.pc_blue) (instr_at o s.pc_green) s w h
equal_advance o (Some i) s w h = subst (λ (t : Stepping). AreEqual t.state) (sym (execute_is i s w))
    (equal_act (adds_one i s) (doing i s w).change s (doing_turns i s w) h)

-- after any step
equal_step : (o : Object) (v : Status) (s : State) (w : List Wild) → AreEqual s → AreEqual (step_at o v s w).state
equal_step o Running s w h = equal_advance o s.fetched s w h
equal_step o Done s w h = h
equal_step o Detected s w h = h

-- the counters of a run without a fault are equal
pub are_equal : (o : Object) (w : List Wild) (k : ℕ) → AreEqual (state_after o None w k)
unfolding run
are_equal o w zero = refl
are_equal o w (suc k) = equal_step o (status_after o None w k) (state_after o None w k) (wild_after o None w k)
    (are_equal o w k)

-- WHAT IS FETCHED IS AT THE COUNTERS' ADDRESS

-- the instruction fetched, if any, is at the green counter's address
abbrev IsAt : Object → State → Type 0
IsAt o s = (i : Instr) → s.fetched ≡ Some i → instr_at o s.pc_green ≡ Some i

-- after a change
at_act : (o : Object) (b : Bool) (c : Change) (s : State) → Turns s.d b c → IsAt o s → IsAt o (act c s)
at_act o b _ s stops h = h
at_act o b _ s (ends e) h = h
at_act o b _ s (turns e f) h = λ i g. cc
at_act o b c s (goes e f) h = λ i g. let bad : None ≡ Some i = sym (act_cleared c s f) ∙ g in cc

-- after a fetch
at_fetch : (o : Object) (b : Bool) (u : Option Instr) (s : State) (w : List Wild) → instr_at o s.pc_green ≡ u →
    IsAt o s →
    IsAt o (if b then fetch u s w else detected s w).state
at_fetch o true (Some i) s w e h = λ j g. e ∙ g
at_fetch o true None s w e h = h
at_fetch o false u s w e h = h

-- after a step of a running machine
at_advance : (o : Object) (f : Option Instr) (s : State) (w : List Wild) → IsAt o s → IsAt o (advance o f s w).state
at_advance o None s w h = at_fetch o (s.pc_green == s.pc_blue) (instr_at o s.pc_green) s w refl h
at_advance o (Some i) s w h = subst (λ (t : Stepping). IsAt o t.state) (sym (execute_is i s w))
    (at_act o (adds_one i s) (doing i s w).change s (doing_turns i s w) h)

-- after any step
at_step : (o : Object) (v : Status) (s : State) (w : List Wild) → IsAt o s → IsAt o (step_at o v s w).state
at_step o Running s w h = at_advance o s.fetched s w h
at_step o Done s w h = h
at_step o Detected s w h = h

-- what is fetched in a run without a fault is at the address in its counters
are_at : (o : Object) (w : List Wild) (k : ℕ) → IsAt o (state_after o None w k)
unfolding run
are_at o w zero = λ i g. cc
are_at o w (suc k) = at_step o (status_after o None w k) (state_after o None w k) (wild_after o None w k) (are_at o w k)

-- a code address is a word
code_word : (o : Object) (a : ℕ) (i : Instr) → length o.instrs < 2 ^ 64 → instr_at o a ≡ Some i → IsWord a
code_word o zero i small e = cc
code_word o (suc n) i small e = (let within = slice_get_within o.instrs n i e in omega (arith, small, within))

-- so the green counter is a word where an instruction is executed
pub fetched_word : (o : Object) (w : List Wild) (k : ℕ) (i : Instr) → length o.instrs < 2 ^ 64 →
    (state_after o None w k).fetched ≡ Some i → IsWord (state_after o None w k).pc_green
fetched_word o w k i small e = code_word o (state_after o None w k).pc_green i small (are_at o w k i e)
