-- What finite maps hold after an insertion.
use Rattle.std.proofs.Common.{◌≡◌, ℕ, cond, Some, refl, ◌==◌}
use Rattle.std.specs.Ordering.{nat_cmp}
use Rattle.std.specs.Cmp.{nat_cmp_total, unsigned_tied}
use Rattle.std.specs.FinMap as finite
use Rattle.std.specs.FinMap.{FinMap}

-- after an insertion, a map has the new value at its key and the same values as before at all others
pub get-insert : {X : Type 0} (m : FinMap nat_cmp X) (k : ℕ) (v : X) (q : ℕ) → finite.get (finite.insert m k v) q
    ≡ cond (q == k) (Some v) (finite.get m q)
get-insert m k v q = rw (finite.get-insert nat_cmp_total m k v q, unsigned_tied q k) refl
