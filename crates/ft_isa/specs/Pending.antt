-- Pending stores: pairs of address and value, oldest first.
use Rattle.std.specs.Prelude.{ℕ, zero, suc, Bool, false, ◌&&◌, List, [], ◌∷◌, Option, Some, None, ◌==◌, if◌then◌else◌}
use Rattle.std.specs.Option.{option_or}

-- the stores waiting to be committed, oldest first
abbrev pub Pending : Type 0
Pending = List (ℕ × ℕ)

-- whether the oldest entry is this pair
abbrev pub is_oldest : Pending → ℕ → ℕ → Bool
is_oldest [] a v = false
is_oldest (e ∷ q) a v = (e.0 == a) && (e.1 == v)

-- the value of the newest entry with this address
unfoldable pub newest_at : Pending → ℕ → Option ℕ
newest_at [] a = None
newest_at (e ∷ q) a = option_or (newest_at q a) (if e.0 == a then Some e.1 else None)

-- the queue with the address of entry i replaced; the oldest entry is entry 0
unfoldable pub with_address : Pending → ℕ → ℕ → Pending
with_address [] i v = []
with_address (e ∷ q) zero v = (v, e.1) ∷ q
with_address (e ∷ q) (suc i) v = e ∷ with_address q i v

-- the queue with the value of entry i replaced
unfoldable pub with_value : Pending → ℕ → ℕ → Pending
with_value [] i v = []
with_value (e ∷ q) zero v = (e.0, v) ∷ q
with_value (e ∷ q) (suc i) v = e ∷ with_value q i v
