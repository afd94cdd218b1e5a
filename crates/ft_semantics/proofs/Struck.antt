-- What a strike does before its own step, and before the others.
use Rattle.std.proofs.Common.{◌≡◌, ℕ, Some, ap, refl}
use Rattle.std.specs.Prelude.{if◌then◌else◌}
use Rattle.std.proofs.lemmas.Bool.{eq-eqb, ne_eqb}
use Rattle.ft_isa.specs.declared.plan.Strike.{Strike}
use Rattle.ft_semantics.specs.State.{State}
use Rattle.ft_semantics.specs.Strike.{struck_state, struck_before}

-- before its own step, a strike is applied
pub struck_there : (x : Strike) (s : State) → struck_before (Some x) x.step s ≡ struck_state s x.site x.value
struck_there x s = ap (λ b. if b then struck_state s x.site x.value else s) (eq-eqb x.step x.step refl)

-- before any other step, it leaves the state unchanged
pub spared : (x : Strike) (j : ℕ) → (x.step ≡ j → ⊥) → (s : State) → struck_before (Some x) j s ≡ s
spared x j apart s = ap (λ b. if b then struck_state s x.site x.value else s) (ne_eqb x.step j apart)
