-- A cause is given exactly if a step is detected.
use Rattle.std.proofs.Common.{◌≡◌, ℕ, ◌==◌, Bool, true, false, not, ◌&&◌, nat_lt, if◌then◌else◌, List, [], ◌∷◌, ◌++◌}
use Rattle.std.proofs.Common.{length, Option, Some, None, is_some, slice_get, drop, refl, ap, sym, ◌∙◌}
use Rattle.ft_isa.specs.Pending.{Pending, is_oldest}
use Rattle.ft_isa.specs.declared.plan.Wild.{Wild}
use Rattle.ft_isa.specs.declared.colour.Colour.{Colour}
use Rattle.ft_isa.specs.declared.colour.Colour.TheVariants.{Green, Blue}
use Rattle.ft_isa.specs.declared.reg.Reg.{Reg}
use Rattle.ft_isa.specs.declared.instr.Instr.{Instr}
use Rattle.ft_isa.specs.declared.instr.Instr.TheVariants.{Ld, St, JmpG, JmpB, BzG, BzB, Halt}
use Rattle.ft_types.specs.declared.object.Object.{Object}
use Rattle.ft_types.specs.Objects.{instr_at}
use Rattle.ft_semantics.specs.declared.status.Status.{Status}
use Rattle.ft_semantics.specs.declared.status.Status.TheVariants as status
use Rattle.ft_semantics.specs.State.{State, word, is_cell}
use Rattle.ft_semantics.specs.Step.{Stepping, step, step_at, advance, fetch, execute, quiet, detected, goes_on}
use Rattle.ft_semantics.specs.Step.{transfers, found, load, commit, jump_green, jump_blue, pass}
use Rattle.ft_flight.specs.declared.reason.Cause.{Cause}
use Rattle.ft_flight.specs.Causes.{fetch_cause, load_cause, blue_store_cause, green_cause, blue_cause, pass_cause}
use Rattle.ft_flight.specs.Causes.{cause_at, cause, is_detected, because}
use Rattle.ft_flight.specs.declared.reason.Reason.TheVariants as reason
use Rattle.ft_flight.proofs.NoAnswers.{no_words}

abbrev no_cause : Option Cause
no_cause = None

abbrev Tells : Option Cause → Stepping → Type 0
Tells c t = is_some c ≡ is_detected t.state.status

tells_if : (b : Bool) (c d : Option Cause) (t u : Stepping) → Tells c t → Tells d u →
    Tells (if b then c else d) (if b then t else u)
tells_if true c d t u p q = p
tells_if false c d t u p q = q

both : (b : Bool) (c : Option Cause) (t u : Stepping) → Tells c t → Tells c u → Tells c (if b then t else u)
both true c t u p q = p
both false c t u p q = q

three : (x y z : Bool) (k l m : Cause) (t : Stepping) (s : State) → Tells no_cause t →
    Tells (if x then (if y then (if z then None else Some k) else Some l) else Some m) (if (x && y) && z then t
    else detected s no_words)
three true true true k l m t s h = h
three true true false k l m t s h = refl
three true false z k l m t s h = refl
three false y z k l m t s h = refl

two : (x y : Bool) (k l : Cause) (t : Stepping) (s : State) → Tells no_cause t →
    Tells (if x then Some k else (if y then None else Some l)) (if not x && y then t else detected s no_words)
two true y k l t s h = refl
two false true k l t s h = h
two false false k l t s h = refl

blue_tells : (q : Pending) (a v : ℕ) (there : Bool) (t : Stepping) (s : State) → Tells no_cause t →
    Tells (blue_store_cause q a v there) (if is_oldest q a v && there then t else detected s no_words)
blue_tells [] a v there t s h = refl
blue_tells (e ∷ q) a v there t s h = three (e.0 == a) (e.1 == v) there _ _ _ t s h

module _ (o : Object) (s : State) (runs : s.status ≡ status.Running) where
  on : false ≡ is_detected s.status
  on = ap is_detected (sym runs)

  load_tells : (c : Colour) (rd : Reg) (f : Option ℕ) (a : ℕ) → Tells (load_cause f a) (load c rd f s no_words)
  load_tells c rd (Some v) a = on
  load_tells c rd None a = refl

  green_tells : (a : ℕ) → Tells (green_cause s.d) (jump_green a s no_words)
  green_tells a = tells_if (s.d == 0) no_cause (because reason.JumpPending s.d 0)
      (quiet (goes_on (record s { d = a })) no_words)
      (detected s no_words) on refl

  jump_tells : (a : ℕ) → Tells (blue_cause a s.d) (jump_blue a s no_words)
  jump_tells a = two (s.d == 0) (s.d == a) _ _ (quiet (transfers a s) no_words) s on

  pass_tells : (c : Cause) → Tells (if s.d == 0 then None else Some c) (pass s no_words)
  pass_tells c = tells_if (s.d == 0) no_cause (Some c) (quiet (goes_on s) no_words) (detected s no_words) on refl

  execute_tells : (i : Instr) → Tells (cause_at o (Some i) s) (execute i s no_words)
  execute_tells (Ld c rd rs) = load_tells c rd (found c s (word s rs)) (word s rs)
  execute_tells (St Green rd rs) = tells_if (nat_lt (length s.queue) 8) no_cause (because reason.Crowded (word s rd) 8)
      (quiet (goes_on (record s { queue = s.queue ++ (word s rd, word s rs) ∷ [] })) no_words) (detected s no_words)
      on refl
  execute_tells (St Blue rd rs) = blue_tells s.queue (word s rd) (word s rs) (is_cell s.cells (word s rd))
      (commit (word s rd) (word s rs) s no_words) s on
  execute_tells (JmpG rd) = green_tells (word s rd)
  execute_tells (JmpB rd subst) = jump_tells (word s rd)
  execute_tells (BzG rz rd) = both (word s rz == 0) (green_cause s.d) (jump_green (word s rd) s no_words)
      (pass s no_words)
      (green_tells (word s rd)) (pass_tells (record { reason = reason.JumpPending; left = s.d; right = 0 }))
  execute_tells (BzB rz rd subst) = tells_if (word s rz == 0) (blue_cause (word s rd) s.d) (pass_cause (word s rz) s.d)
      (jump_blue (word s rd) s no_words) (pass s no_words)
      (jump_tells (word s rd)) (pass_tells (record { reason = reason.NoPass; left = word s rz; right = s.d }))
  execute_tells Halt = refl
  execute_tells i = on

  fetch_tells : (i : Option Instr) → Tells (fetch_cause i s.pc_green) (fetch i s no_words)
  fetch_tells None = refl
  fetch_tells (Some i) = on

  advance_tells : (f : Option Instr) → Tells (cause_at o f s) (advance o f s no_words)
  advance_tells None = tells_if (s.pc_green == s.pc_blue) (fetch_cause (instr_at o s.pc_green) s.pc_green)
      (because reason.Counters s.pc_green s.pc_blue) (fetch (instr_at o s.pc_green) s no_words)
      (detected s no_words)
      (fetch_tells (instr_at o s.pc_green)) refl
  advance_tells (Some i) = execute_tells i

  pub exact : is_some (cause o s) ≡ is_detected (step o s no_words).state.status
  exact = advance_tells s.fetched ∙ sym (ap (λ v. is_detected (step_at o v s no_words).state.status) runs)

-- a queue with an oldest pair begins with it
pub head_is : (q : Pending) (e : ℕ × ℕ) → slice_get q 0 ≡ Some e → q ≡ e ∷ drop 1 q
head_is [] e h = absurd (cc)
head_is (x ∷ q) e h = let same : x ≡ e = cc in ap (λ y. y ∷ q) same
