-- Well-formed flows: blocks end properly, jumps go to existing blocks, and steps read pairs that are known.
use Rattle.std.specs.Prelude.{◌≡◌, ◌≢◌, ℕ, zero, suc, ◌<◌, ◌≤◌, Bool, true, false, cond, List, [], ◌∷◌, ◌==◌, nat_lt, length, take}
use Rattle.ft_isa.specs.Words.{IsWord}
use Rattle.ft_scope.specs.declared.slot.Slot.TheVariants.{Run}
use Rattle.ft_scope.specs.Size.{RunFits}
use Rattle.ft_lower.specs.declared.step3.Step3.{Step3}
use Rattle.ft_lower.specs.declared.step3.Step3.TheVariants.{Put, Copy, Op, Load, Store, LoadAt, StoreAt, Exit, Go, Stop}
use Rattle.ft_lower.specs.Flow.{Blocks, Place, block_of}
use Rattle.ft_lower.specs.Size.{PairsBelow, blocks_size}

-- whether a step ends its block
abbrev pub is_last : Step3 → Bool
is_last (Put p w) = false
is_last (Copy p q) = false
is_last (Op o p q s) = false
is_last (Load p c) = false
is_last (Store c q spare) = false
is_last (LoadAt p q first length) = false
is_last (StoreAt first length i q spare) = false
is_last (Exit q spare to) = false
is_last (Go spare to) = true
is_last Stop = true

-- the last step ends the block, and no other step does
abbrev pub IsBlock : List Step3 → Type 0
IsBlock [] = ⊥
IsBlock (i ∷ is) = elim (is_last i) as (λ b. Type 0) [ true ↦ is ≡ [] | false ↦ IsBlock is ]

-- a jump goes to an existing block other than the entry
pub record IsTarget (blocks to : ℕ) : Type 0 where
  pub there : to < blocks
  pub no_entry : 0 < to

-- a word is below 2^64, and cells, arrays and targets exist
abbrev pub StepFits : ℕ → ℕ → Step3 → Type 0
StepFits cells blocks (Put p w) = IsWord w
StepFits cells blocks (Copy p q) = Unit {0}
StepFits cells blocks (Op o p q s) = Unit {0}
StepFits cells blocks (Load p c) = c < cells
StepFits cells blocks (Store c q spare) = c < cells
StepFits cells blocks (LoadAt p q first length) = RunFits cells (Run first length)
StepFits cells blocks (StoreAt first length i q spare) = RunFits cells (Run first length)
StepFits cells blocks (Exit q spare to) = IsTarget blocks to
StepFits cells blocks (Go spare to) = IsTarget blocks to
StepFits cells blocks Stop = Unit {0}

-- whether each pair is known
abbrev pub Known : Type 0
Known = ℕ → Bool

-- no pair is known
abbrev pub no_pair : Known
no_pair = λ q. false

-- the pairs below n are known
abbrev pub pairs_below : ℕ → Known
pairs_below n = λ q. nat_lt q n

-- the known pairs and one more
abbrev pub learn : ℕ → Known → Known
learn p k = λ q. cond (q == p) true (k q)

-- the known pairs without one
abbrev pub forget : ℕ → Known → Known
forget p k = λ q. cond (q == p) false (k q)

-- what is known after a step: also the pair that it sets, but no longer its spare
abbrev pub known_after : Step3 → Known → Known
known_after (Put p w) k = learn p k
known_after (Copy p q) k = learn p k
known_after (Op o p q s) k = learn p k
known_after (Load p c) k = learn p k
known_after (Store c q spare) k = forget spare k
known_after (LoadAt p q first length) k = learn p k
known_after (StoreAt first length i q spare) k = forget spare k
known_after (Exit q spare to) k = forget spare k
known_after (Go spare to) k = forget spare k
known_after Stop k = k

-- at a jump, each variable's pair is known and is not the spare
pub record KeepsVariables (vars : ℕ) (k : Known) (spare : ℕ) : Type 0 where
  pub known : (x : ℕ) → x < vars → k x ≡ true
  pub free : vars ≤ spare

-- a step reads only known pairs other than its spare; at a jump, the variables are kept
abbrev pub ReadsKnown : ℕ → Known → Step3 → Type 0
ReadsKnown vars k (Put p w) = Unit {0}
ReadsKnown vars k (Copy p q) = k q ≡ true
ReadsKnown vars k (Op o p q s) = (k q ≡ true) × (k s ≡ true)
ReadsKnown vars k (Load p c) = Unit {0}
ReadsKnown vars k (Store c q spare) = (k q ≡ true) × (q ≢ spare)
ReadsKnown vars k (LoadAt p q first length) = k q ≡ true
ReadsKnown vars k (StoreAt first length i q spare) = (k i ≡ true) × (k q ≡ true) × (i ≢ spare) × (q ≢ spare)
ReadsKnown vars k (Exit q spare to) = (k q ≡ true) × (q ≢ spare) × KeepsVariables vars k spare
ReadsKnown vars k (Go spare to) = KeepsVariables vars k spare
ReadsKnown vars k Stop = Unit {0}

-- each step of a row is well formed, given what is known before it
abbrev pub RowIsWell : ℕ → ℕ → ℕ → Known → List Step3 → Type 0
RowIsWell vars cells blocks k [] = Unit {0}
RowIsWell vars cells blocks k (i ∷ is) = StepFits cells blocks i × ReadsKnown vars k i × RowIsWell vars cells blocks (known_after i k) is

-- what is known at a block's first step: nothing in the entry block, the variables in the others
abbrev pub known_first : ℕ → ℕ → Known
known_first vars zero = no_pair
known_first vars (suc b) = pairs_below vars

-- what is known after the steps of a row
abbrev pub row_known : Known → List Step3 → Known
row_known k [] = k
row_known k (i ∷ is) = row_known (known_after i k) is

-- what is known at a place
abbrev pub known_at : ℕ → Blocks → Place → Known
known_at vars bs p = row_known (known_first vars p.block) (take p.index (block_of bs p.block))

-- blocks over this many variables and cells are well formed
pub record IsWell (vars cells : ℕ) (bs : Blocks) : Type 0 where
  pub some : 0 < length bs
  pub pairs : PairsBelow 32 bs
  pub ended : (b : ℕ) → b < length bs → IsBlock (block_of bs b)
  pub rows : (b : ℕ) → b < length bs → RowIsWell vars cells (length bs) (known_first vars b) (block_of bs b)
  pub short : blocks_size bs ≤ 65536
