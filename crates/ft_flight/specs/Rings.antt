-- The pending stores that the words of a ring stand for: every bit pattern stands for some.
use Rattle.std.specs.Prelude.{ℕ, zero, suc, ◌%◌, List, [], ◌∷◌, min, slice_index_or}
use Rattle.ft_isa.specs.Pending.{Pending}
use Rattle.ft_flight.specs.declared.plain_queue.PlainPair.{PlainPair}
use Rattle.ft_flight.specs.declared.plain_queue.PlainQueue.{PlainQueue}

-- how many pairs a ring has room for
abbrev pub room : ℕ
room = 8

-- no store
abbrev pub nothing : PlainPair
nothing = record { addr = 0; value = 0 }

-- a pending store
abbrev pub pair_of : PlainPair → ℕ × ℕ
pair_of p = (p.addr, p.value)

-- so many pairs of a ring, from a place on
unfoldable pub pairs_from : List PlainPair → ℕ → ℕ → Pending
pairs_from pairs place zero = []
pairs_from pairs place (suc n) = pair_of (slice_index_or pairs (place % room) nothing) ∷ pairs_from pairs (suc place) n

-- the pending stores of a ring, oldest first
abbrev pub pending_of : PlainQueue → Pending
pending_of q = pairs_from q.pairs q.first (min q.count room)
