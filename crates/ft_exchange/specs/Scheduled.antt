-- Schedules of objects.
use Rattle.std.specs.Prelude.{ℕ}
use Rattle.ft_types.specs.declared.object.Object.{Object}
use Rattle.ft_exchange.specs.Exchange.{IsPermitted, after_exchange}

-- an object comes from another by permitted exchanges
pub data ComesFrom (o : Object) : Object → Type 0 where
  itself : ComesFrom o o
  exchange : {s : Object} (b k : ℕ) → ComesFrom o s → IsPermitted s b k → ComesFrom o (after_exchange s b k)

-- an object is a schedule of another: it comes from the other by permitted exchanges, and permits no further one
pub record IsScheduled (o s : Object) : Type 0 where
  pub comes : ComesFrom o s
  pub none_left : (b k : ℕ) → IsPermitted s b k → ⊥
