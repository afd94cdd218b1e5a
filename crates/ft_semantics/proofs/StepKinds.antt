-- Proves a claim about every step from a few kinds of step, so that no such proof has to go through all instructions
-- again.
use Rattle.std.proofs.Common.{◌≡◌, ℕ, ◌==◌, nat_lt, Bool, true, false, not, ◌&&◌, if◌then◌else◌, List, [], ◌∷◌, ◌++◌}
use Rattle.std.proofs.Common.{length, Option, Some, None, ap, refl}
use Rattle.ft_isa.specs.declared.colour.Colour.{Colour}
use Rattle.ft_isa.specs.declared.colour.Colour.TheVariants.{Green, Blue}
use Rattle.ft_isa.specs.declared.instr.Instr.{Instr}
use Rattle.ft_isa.specs.declared.instr.Instr.TheVariants.{Ld, St, JmpG, JmpB, BzG, BzB}
use Rattle.ft_isa.specs.declared.plan.Wild.{Wild}
use Rattle.ft_isa.specs.declared.reg.Reg.{Reg}
use Rattle.ft_semantics.specs.declared.status.Status.{Status}
use Rattle.ft_semantics.specs.declared.status.Status.TheVariants.{Running, Done, Detected}
use Rattle.ft_semantics.specs.State.{State, word}
use Rattle.ft_semantics.specs.Step.{Stepping, step, step_at, advance, fetch, execute, quiet, detected, goes_on}
use Rattle.ft_semantics.specs.Step.{transfers, found, load, commit, commits, jump_green, jump_blue, pass}
use Rattle.ft_types.specs.declared.object.Object.{Object}
use Rattle.ft_types.specs.Objects.{instr_at}

-- P is the claim about a step, taken as a function of the answers to wild loads. It must hold for every step that has
-- no output and keeps the cells, for every commit, and for the load that each load instruction makes.
module _ (s : State) (P : (List Wild → Stepping) → Type 0) (quiets : (t : State) → t.cells ≡ s.cells →
    P (quiet t)) (committed : (a v : ℕ) → commits a v s ≡ true → P (commit a v s)) where
  by_test : (b : Bool) (x y : List Wild → Stepping) → (b ≡ true → P x) → P y → P (λ w. if b then x w else y w)
  by_test true x y p q = p refl
  by_test false x y p q = q

  -- P holds of a step that depends on a test: a quiet one if the test passes, one to Detected if it fails
  checked : (b : Bool) (t : State) → t.cells ≡ s.cells → P (λ w. if b then quiet t w else detected s w)
  checked b t e = by_test b (quiet t) (detected s) (λ _. quiets t e) (quiets _ refl)

  jumps_green : (a : ℕ) → P (jump_green a s)
  jumps_green a = checked (s.d == 0) (goes_on (record s { d = a })) refl

  jumps_blue : (a : ℕ) → P (jump_blue a s)
  jumps_blue a = checked (not (s.d == 0) && (s.d == a)) (transfers a s) refl

  passes : P (pass s)
  passes = checked (s.d == 0) (goes_on s) refl

  pub execute_is : (i : Instr) → ((c : Colour) (rd rs : Reg) → i ≡ Ld c rd rs → P (load c rd (found c s (word s rs)) s))
      → P (execute i s)
  execute_is (Ld c rd rs) loads = loads c rd rs refl
  execute_is (St Green rd rs) loads = checked (nat_lt (length s.queue) 8)
      (goes_on (record s { queue = s.queue ++ (word s rd, word s rs) ∷ [] })) refl
  execute_is (St Blue rd rs) loads =
      by_test (commits (word s rd) (word s rs) s) (commit (word s rd) (word s rs) s) (detected s)
      (committed (word s rd) (word s rs)) (quiets _ refl)
  execute_is (JmpG rd) loads = jumps_green (word s rd)
  execute_is (JmpB rd subst) loads = jumps_blue (word s rd)
  execute_is (BzG rz rd) loads = by_test (word s rz == 0) (jump_green (word s rd) s) (pass s) (λ _.
      jumps_green (word s rd)) passes
  execute_is (BzB rz rd subst) loads = by_test (word s rz == 0) (jump_blue (word s rd) s) (pass s) (λ _.
      jumps_blue (word s rd)) passes
  execute_is i loads = quiets _ refl

  fetch_is : (x : Option Instr) → P (fetch x s)
  fetch_is (Some i) = quiets _ refl
  fetch_is None = quiets _ refl

  advance_is : (o : Object) (x : Option Instr) → ((c : Colour) (rd rs : Reg) → x ≡ Some (Ld c rd rs) →
      P (load c rd (found c s (word s rs)) s)) → P (advance o x s)
  advance_is o None loads = by_test (s.pc_green == s.pc_blue) (fetch (instr_at o s.pc_green) s) (detected s) (λ _.
      fetch_is (instr_at o s.pc_green)) (quiets _ refl)
  advance_is o (Some i) loads = execute_is i (λ c rd rs e. loads c rd rs (ap Some e))

  pub step_at_is : (o : Object) (x : Status) → (x ≡ Running → (c : Colour) (rd rs : Reg) → s.fetched
      ≡ Some (Ld c rd rs) → P (load c rd (found c s (word s rs)) s)) → P (step_at o x s)
  step_at_is o Running loads = advance_is o s.fetched (loads refl)
  step_at_is o Done loads = quiets s refl
  step_at_is o Detected loads = quiets s refl

  pub step_is : (o : Object) → (s.status ≡ Running → (c : Colour) (rd rs : Reg) → s.fetched ≡ Some (Ld c rd rs) →
      P (load c rd (found c s (word s rs)) s)) → P (step o s)
  step_is o loads = step_at_is o s.status loads
