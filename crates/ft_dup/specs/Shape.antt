-- The shape of blocks that can be doubled.
use Rattle.std.specs.Prelude.{ℕ, ◌<◌, ◌≤◌, length}
use Rattle.std.specs.List.{All}
use Rattle.ft_lower.specs.declared.step3.Step3.{Step3}
use Rattle.ft_lower.specs.declared.step3.Step3.TheVariants.{Put, Copy, Op, Load, Store, LoadAt, StoreAt, Exit, Go, Stop}
use Rattle.ft_lower.specs.Flow.{Blocks, block_of}
use Rattle.ft_lower.specs.Size.{PairsBelow, blocks_size}
use Rattle.ft_lower.specs.Well.{IsBlock, IsTarget}

-- the target of a step, if it has one, is an existing block other than the entry
abbrev pub HasTarget : ℕ → Step3 → Type 0
HasTarget blocks (Put p w) = Unit {0}
HasTarget blocks (Copy p q) = Unit {0}
HasTarget blocks (Op o p q s) = Unit {0}
HasTarget blocks (Load p c) = Unit {0}
HasTarget blocks (Store c q spare) = Unit {0}
HasTarget blocks (LoadAt p q first length) = Unit {0}
HasTarget blocks (StoreAt first length i q spare) = Unit {0}
HasTarget blocks (Exit q spare to) = IsTarget blocks to
HasTarget blocks (Go spare to) = IsTarget blocks to
HasTarget blocks Stop = Unit {0}

-- pairs are below 32, targets exist, blocks end properly, and there are at most 65,536 instructions in all
pub record HasShape (bs : Blocks) : Type 0 where
  pub pairs : PairsBelow 32 bs
  pub targets : All (All (HasTarget (length bs))) bs
  pub ended : (b : ℕ) → b < length bs → IsBlock (block_of bs b)
  pub short : blocks_size bs ≤ 65536
