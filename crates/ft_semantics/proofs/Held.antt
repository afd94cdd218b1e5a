-- What registers hold after a write.
use Rattle.std.proofs.Common.{◌≡◌, ℕ, true, false, cond, Some, refl, ◌==◌}
use Rattle.std.specs.Option.{unwrap_or}
use Rattle.std.specs.FinMap as finite
use Rattle.ft_isa.specs.declared.colour.Coloured.{Coloured}
use Rattle.ft_types.proofs.Maps.{get-insert}
use Rattle.ft_semantics.specs.State.{Registers, held, with_held, green_zero}

-- after register r is written, it holds what was written, and every other register holds what it held before
pub held-with_held : (m : Registers) (r : ℕ) (x : Coloured) (q : ℕ) → held (with_held m r x) q
    ≡ cond (q == r) x (held m q)
unfolding held
held-with_held m r x q = rw (get-insert m r x q) (elim (q == r) as (λ b.
    unwrap_or (cond b (Some x) (finite.get m q)) green_zero ≡ cond b x (unwrap_or (finite.get m q) green_zero))
    [ true ↦ refl | false ↦ refl ])
