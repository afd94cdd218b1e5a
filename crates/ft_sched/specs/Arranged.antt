-- How far the instructions of a block are arranged: private to the code.
use Rattle.std.specs.Prelude.{◌≡◌, ℕ, ◌+◌, ◌<◌, ◌≤◌, true, false, cond, List, [], ◌∷◌, ◌++◌, length, drop}
use Rattle.std.specs.List.{list_all, count_by}
use Rattle.ft_isa.specs.declared.instr.Instr.{Instr}
use Rattle.ft_exchange.specs.Exchange.{is_trailing, is_green_store, is_blue_store}
use Rattle.ft_sched.specs.Inside.{Reaches, HasNone}

-- the block extends from `start` up to `past`, its code type has `rows` queue rows, and `base` was the code when the
-- block began. What is written, what waits and the rest come from the base by permitted exchanges, and no permitted
-- exchange is left in the first two. All that waits is trailing. `queued` counts the queue rows and the block's written
-- green stores, and `committed` its written blue stores
pub record Arranges (rows start past : ℕ) (base rest laid waiting : List Instr) (queued committed : ℕ) : Type 0 where
  pub begins : start ≤ length laid
  pub reached : Reaches rows start past base ((laid ++ waiting) ++ rest)
  pub none_left : HasNone rows start (length (laid ++ waiting)) ((laid ++ waiting) ++ rest)
  pub trails : list_all is_trailing waiting ≡ true
  pub queued_is : queued ≡ rows + count_by is_green_store (drop start laid)
  pub committed_is : committed ≡ count_by is_blue_store (drop start laid)

-- the last written instruction of the block, if any, isn't trailing
abbrev pub IsSettled : ℕ → List Instr → Type 0
IsSettled start laid = (front : List Instr) (i : Instr) → laid ≡ front ++ i ∷ [] → start ≤ length front → is_trailing i ≡ false

-- the block is arranged, and its last written instruction isn't trailing
pub record IsArranged (rows start past : ℕ) (base rest laid waiting : List Instr) (queued committed : ℕ) : Type 0 where
  pub arranged : Arranges rows start past base rest laid waiting queued committed
  pub settled : IsSettled start laid

-- an instruction is written
pub record Lays (i : Instr) (laid laid' : List Instr) (queued queued' committed committed' : ℕ) : Type 0 where
  pub laid_is : laid' ≡ laid ++ i ∷ []
  pub queued_is : queued' ≡ queued + cond (is_green_store i) 1 0
  pub committed_is : committed' ≡ committed + cond (is_blue_store i) 1 0

-- the first waiting instruction is written
pub record LaysFirst (laid laid' waiting waiting' : List Instr) (queued queued' committed committed' : ℕ) : Type 0 where
  pub first : Instr
  pub waited : waiting ≡ first ∷ waiting'
  pub lays : Lays first laid laid' queued queued' committed committed'

-- in any block, the first of the remaining instructions gets its place
abbrev pub GetsPlace : Instr → List Instr → List Instr → ℕ → ℕ → List Instr → List Instr → ℕ → ℕ → Type 0
GetsPlace i laid waiting queued committed laid' waiting' queued' committed' = (rows start past : ℕ) (base rest : List Instr) → length laid + length waiting < past → IsArranged rows start past base (i ∷ rest) laid waiting queued committed → IsArranged rows start past base rest laid' waiting' queued' committed'

-- in any block, the waiting instructions are written
abbrev pub LaysAll : List Instr → List Instr → ℕ → ℕ → List Instr → ℕ → ℕ → Type 0
LaysAll laid waiting queued committed laid' queued' committed' = (rows start past : ℕ) (base rest : List Instr) → Arranges rows start past base rest laid waiting queued committed → Arranges rows start past base rest laid' [] queued' committed'
