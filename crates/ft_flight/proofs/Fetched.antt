-- After steps, what is fetched is nothing, what is at the green counter, or what was fetched before them.
use Rattle.std.proofs.Common.{◌≡◌, ℕ, zero, suc, ◌==◌, Bool, true, false, not, ◌&&◌, nat_lt, if◌then◌else◌, List, []}
use Rattle.std.proofs.Common.{◌∷◌, ◌++◌, length, Option, Some, None, refl, ap, sym, ◌∙◌, inl, inr, ◌⊎◌}
use Rattle.ft_isa.specs.declared.plan.Wild.{Wild}
use Rattle.ft_isa.specs.declared.plan.Wild.TheVariants.{Word, Stop}
use Rattle.ft_isa.specs.declared.colour.Colour.{Colour}
use Rattle.ft_isa.specs.declared.colour.Colour.TheVariants.{Green, Blue}
use Rattle.ft_isa.specs.declared.reg.Reg.{Reg}
use Rattle.ft_isa.specs.declared.instr.Instr.{Instr}
use Rattle.ft_isa.specs.declared.instr.Instr.TheVariants.{Ld, St, JmpG, JmpB, BzG, BzB, Halt}
use Rattle.ft_types.specs.declared.object.Object.{Object}
use Rattle.ft_types.specs.Objects.{instr_at}
use Rattle.ft_semantics.specs.declared.status.Status.{Status}
use Rattle.ft_semantics.specs.declared.status.Status.TheVariants as status
use Rattle.ft_semantics.specs.State.{State, word}
use Rattle.ft_semantics.specs.Step.{Stepping, step, step_at, advance, fetch, execute, quiet, detected, goes_on}
use Rattle.ft_semantics.specs.Step.{transfers, found, load, wild_load, store, commit, commits, jump_green, jump_blue}
use Rattle.ft_semantics.specs.Step.{pass}
use Rattle.ft_machine.specs.Spans.{span}
use Rattle.ft_flight.specs.States.{IsFetchedFrom}

-- nothing is fetched, or what is at the green counter, or what is fetched and the green counter stay
abbrev Keeps : Object → State → Stepping → Type 0
Keeps o s t = (t.state.fetched ≡ None) ⊎ ((t.state.fetched ≡ instr_at o t.state.pc_green)
    ⊎ ((t.state.fetched ≡ s.fetched) × (t.state.pc_green ≡ s.pc_green)))

module _ (o : Object) where
  keeps_if : (s : State) (b : Bool) (t u : Stepping) → Keeps o s t → Keeps o s u → Keeps o s (if b then t else u)
  keeps_if s true t u p q = p
  keeps_if s false t u p q = q

  same : (s : State) (w : List Wild) → Keeps o s (detected s w)
  same s w = inr (inr (refl, refl))

  fetch_keeps : (i : Option Instr) (s : State) (w : List Wild) → i ≡ instr_at o s.pc_green → Keeps o s (fetch i s w)
  fetch_keeps None s w e = same s w
  fetch_keeps (Some i) s w e = inr (inl e)

  wild_keeps : (c : Colour) (rd : Reg) (s : State) (w : List Wild) → Keeps o s (wild_load c rd s w)
  wild_keeps c rd s (Word v ∷ w) = inl refl
  wild_keeps c rd s (Stop ∷ w) = same s w
  wild_keeps c rd s [] = same s []

  load_keeps : (c : Colour) (rd : Reg) (f : Option ℕ) (s : State) (w : List Wild) → Keeps o s (load c rd f s w)
  load_keeps c rd (Some v) s w = inl refl
  load_keeps c rd None s w = wild_keeps c rd s w

  store_keeps : (c : Colour) (a v : ℕ) (s : State) (w : List Wild) → Keeps o s (store c a v s w)
  store_keeps Green a v s w = keeps_if s (nat_lt (length s.queue) 8)
      (quiet (goes_on (record s { queue = s.queue ++ (a, v) ∷ [] })) w) (detected s w) (inl refl) (same s w)
  store_keeps Blue a v s w = keeps_if s (commits a v s) (commit a v s w) (detected s w) (inl refl) (same s w)

  green_keeps : (a : ℕ) (s : State) (w : List Wild) → Keeps o s (jump_green a s w)
  green_keeps a s w = keeps_if s (s.d == 0) (quiet (goes_on (record s { d = a })) w) (detected s w) (inl refl)
      (same s w)

  blue_keeps : (a : ℕ) (s : State) (w : List Wild) → Keeps o s (jump_blue a s w)
  blue_keeps a s w = keeps_if s (not (s.d == 0) && (s.d == a)) (quiet (transfers a s) w) (detected s w) (inl refl)
      (same s w)

  pass_keeps : (s : State) (w : List Wild) → Keeps o s (pass s w)
  pass_keeps s w = keeps_if s (s.d == 0) (quiet (goes_on s) w) (detected s w) (inl refl) (same s w)

  execute_keeps : (i : Instr) (s : State) (w : List Wild) → Keeps o s (execute i s w)
  execute_keeps (Ld c rd rs) s w = load_keeps c rd (found c s (word s rs)) s w
  execute_keeps (St c rd rs) s w = store_keeps c (word s rd) (word s rs) s w
  execute_keeps (JmpG rd) s w = green_keeps (word s rd) s w
  execute_keeps (JmpB rd subst) s w = blue_keeps (word s rd) s w
  execute_keeps (BzG rz rd) s w = keeps_if s (word s rz == 0) (jump_green (word s rd) s w) (pass s w)
      (green_keeps (word s rd) s w) (pass_keeps s w)
  execute_keeps (BzB rz rd subst) s w = keeps_if s (word s rz == 0) (jump_blue (word s rd) s w) (pass s w)
      (blue_keeps (word s rd) s w) (pass_keeps s w)
  execute_keeps Halt s w = inr (inr (refl, refl))
  execute_keeps i s w = inl refl

  advance_keeps : (f : Option Instr) (s : State) (w : List Wild) → Keeps o s (advance o f s w)
  advance_keeps None s w = keeps_if s (s.pc_green == s.pc_blue) (fetch (instr_at o s.pc_green) s w) (detected s w)
      (fetch_keeps (instr_at o s.pc_green) s w refl) (same s w)
  advance_keeps (Some i) s w = execute_keeps i s w

  step_keeps : (v : Status) (s : State) (w : List Wild) → Keeps o s (step_at o v s w)
  step_keeps status.Running s w = advance_keeps s.fetched s w
  step_keeps status.Done s w = inr (inr (refl, refl))
  step_keeps status.Detected s w = inr (inr (refl, refl))

  on : (f : Option Instr) (s : State) (t : Stepping) → IsFetchedFrom o f s.fetched s.pc_green → Keeps o s t →
      IsFetchedFrom o f t.state.fetched t.state.pc_green
  on f s t h (inl e) = inl e
  on f s t h (inr (inl e)) = inr (inl e)
  on f s t (inl h) (inr (inr e)) = inl (e.0 ∙ h)
  on f s t (inr (inl h)) (inr (inr e)) = inr (inl (e.0 ∙ h ∙ ap (instr_at o) (sym e.1)))
  on f s t (inr (inr h)) (inr (inr e)) = inr (inr (e.0 ∙ h))

  pub fetched_from : (n : ℕ) (s : State) (w : List Wild)
      → IsFetchedFrom o s.fetched (span o n s w).state.fetched (span o n s w).state.pc_green
  unfolding span
  fetched_from zero s w = inr (inr refl)
  fetched_from (suc n) s w =
      let t = (span o n s w).state in
      on s.fetched t (step o t (span o n s w).wild) (fetched_from n s w) (step_keeps t.status t (span o n s w).wild)

-- if something else than what is at the green counter is fetched, it was fetched before
pub from_last : (o : Object) (before fetched : Option Instr) (green : ℕ) → IsFetchedFrom o before fetched green →
    ¬ (fetched ≡ None) → ¬ (fetched ≡ instr_at o green) → before ≡ fetched
from_last o f s green (inl e) some other = absurd (some e)
from_last o f s green (inr (inl e)) some other = absurd (other e)
from_last o f s green (inr (inr e)) some other = sym e
