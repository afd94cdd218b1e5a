-- How many instructions a step becomes, and which pairs it names.
use Rattle.std.specs.Prelude.{ℕ, ◌+◌, ◌<◌, List, [], ◌∷◌}
use Rattle.std.specs.List.{All}
use Rattle.ft_lower.specs.declared.step3.Step3.{Step3}
use Rattle.ft_lower.specs.declared.step3.Step3.TheVariants.{Put, Copy, Op, Load, Store, LoadAt, StoreAt, Exit, Go, Stop}
use Rattle.ft_lower.specs.Flow.{Blocks}

-- how many instructions a step becomes
abbrev pub size : Step3 → ℕ
size (Put p w) = 2
size (Copy p q) = 2
size (Op o p q s) = 2
size (Load p c) = 4
size (Store c q spare) = 4
size (LoadAt p q first length) = 4
size (StoreAt first length i q spare) = 4
size (Exit q spare to) = 4
size (Go spare to) = 4
size Stop = 1

-- how many instructions the steps of a row become
abbrev pub row_size : List Step3 → ℕ
row_size [] = 0
row_size (i ∷ is) = size i + row_size is

-- how many instructions the steps of all blocks become
abbrev pub blocks_size : Blocks → ℕ
blocks_size [] = 0
blocks_size (b ∷ bs) = row_size b + blocks_size bs

-- the pairs that a step names
abbrev pub pairs_of : Step3 → List ℕ
pairs_of (Put p w) = p ∷ []
pairs_of (Copy p q) = p ∷ q ∷ []
pairs_of (Op o p q s) = p ∷ q ∷ s ∷ []
pairs_of (Load p c) = p ∷ []
pairs_of (Store c q spare) = q ∷ spare ∷ []
pairs_of (LoadAt p q first length) = p ∷ q ∷ []
pairs_of (StoreAt first length i q spare) = i ∷ q ∷ spare ∷ []
pairs_of (Exit q spare to) = q ∷ spare ∷ []
pairs_of (Go spare to) = spare ∷ []
pairs_of Stop = []

-- each pair that the blocks' steps name is below n
abbrev pub PairsBelow : ℕ → Blocks → Type 0
PairsBelow n bs = All (All (λ i. All (λ p. p < n) (pairs_of i))) bs
