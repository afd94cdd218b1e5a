-- Runs from any state, without a strike.
use Rattle.std.specs.Prelude.{◌≡◌, ℕ, zero, suc, ◌+◌, List, [], Option}
use Rattle.std.proofs.Common.{refl, add-one}
use Rattle.ft_isa.specs.declared.plan.Wild.{Wild}
use Rattle.ft_types.specs.declared.object.Object.{Object}
use Rattle.ft_semantics.specs.State.{State}
use Rattle.ft_semantics.specs.Step.{step}
use Rattle.ft_semantics.specs.Strike.{struck_before}
use Rattle.ft_isa.specs.declared.plan.Strike.{Strike}
use Rattle.ft_semantics.specs.Run.{Ran, extended}

-- the run of n steps from a state
unfoldable pub span : Object → ℕ → State → List Wild → Ran
span o zero s w = record { state = s; wild = w; outputs = [] }
span o (suc n) s w = extended (span o n s w).outputs (step o (span o n s w).state (span o n s w).wild)

pub span-zero : (o : Object) (s : State) (w : List Wild) → span o 0 s w ≡ record { state = s; wild = w; outputs = [] }
unfolding span
span-zero o s w = refl

pub span-add_one : (o : Object) (n : ℕ) (s : State) (w : List Wild) → span o (n + 1) s w ≡ extended (span o n s w).outputs (step o (span o n s w).state (span o n s w).wild)
unfolding span
span-add_one o n s w = rw add-one refl

-- the plan does not strike at step j
abbrev pub Spares : Option Strike → ℕ → Type 0
Spares strike j = (s : State) → struck_before strike j s ≡ s
