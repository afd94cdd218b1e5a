-- Exchanges within a part of a list: private to the code.
use Rattle.std.specs.Prelude.{◌≡◌, ℕ, suc, ◌<◌, ◌≤◌, true, List, Some, slice_get}
use Rattle.std.specs.List.{slice_range}
use Rattle.ft_isa.specs.declared.instr.Instr.{Instr}
use Rattle.ft_exchange.specs.Exchange.{queue_after, may_exchange, exchanged}

-- the exchange of the instructions at places k and k + 1 of a list is permitted, in a block from `start` up to `past`
-- whose code type has `rows` queue rows
pub record IsPermittedAt (rows start past : ℕ) (is : List Instr) (k : ℕ) : Type 0 where
  pub first : Instr
  pub second : Instr
  pub low : start ≤ k
  pub high : suc k < past
  pub first_there : slice_get is k ≡ Some first
  pub second_there : slice_get is (suc k) ≡ Some second
  pub may : may_exchange (queue_after rows (slice_range is start k)) first second ≡ true

-- a list comes from another by permitted exchanges in the block
pub data Reaches (rows start past : ℕ) (is : List Instr) : List Instr → Type 0 where
  stays : Reaches rows start past is is
  exchanges : {js : List Instr} (k : ℕ) → Reaches rows start past is js → IsPermittedAt rows start past js k → Reaches rows start past is (exchanged js k)

-- no permitted exchange is left
abbrev pub HasNone : ℕ → ℕ → ℕ → List Instr → Type 0
HasNone rows start past is = (k : ℕ) → IsPermittedAt rows start past is k → ⊥
