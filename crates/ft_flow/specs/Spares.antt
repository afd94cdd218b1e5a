-- What steps read and set, and which pairs stores and jumps overwrite.
use Rattle.std.specs.Prelude.{ℕ, Bool, true, false, List, [], ◌∷◌, Option, Some, None, not, slice_index_or}
use Rattle.std.specs.List.{position}
use Rattle.std.specs.Option.{unwrap_or}
use Rattle.ft_lower.specs.declared.step3.Step3.{Step3}
use Rattle.ft_lower.specs.declared.step3.Step3.TheVariants.{Put, Copy, Op, Load, Store, LoadAt, StoreAt, Exit, Go, Stop}

-- the pairs that a step reads
abbrev pub reads : Step3 → List ℕ
reads (Put p w) = []
reads (Copy p q) = q ∷ []
reads (Op o p q s) = q ∷ s ∷ []
reads (Load p c) = []
reads (Store c q spare) = q ∷ []
reads (LoadAt p q first length) = q ∷ []
reads (StoreAt first length i q spare) = i ∷ q ∷ []
reads (Exit q spare to) = q ∷ []
reads (Go spare to) = []
reads Stop = []

-- the pair that a step sets, if any
abbrev pub sets : Step3 → Option ℕ
sets (Put p w) = Some p
sets (Copy p q) = Some p
sets (Op o p q s) = Some p
sets (Load p c) = Some p
sets (Store c q spare) = None
sets (LoadAt p q first length) = Some p
sets (StoreAt first length i q spare) = None
sets (Exit q spare to) = None
sets (Go spare to) = None
sets Stop = None

-- whether a step needs a spare
abbrev pub needs_spare : Step3 → Bool
needs_spare (Store c q spare) = true
needs_spare (StoreAt first length i q spare) = true
needs_spare (Exit q spare to) = true
needs_spare (Go spare to) = true
needs_spare i = false

-- the step with this spare, if it needs one
abbrev pub with_spare : ℕ → Step3 → Step3
with_spare n (Store c q spare) = Store c q n
with_spare n (StoreAt first length i q spare) = StoreAt first length i q n
with_spare n (Exit q spare to) = Exit q n to
with_spare n (Go spare to) = Go n to
with_spare n i = i

-- which of the 32 pairs are set
abbrev pub Set : Type 0
Set = List Bool

-- whether a pair is set
abbrev pub is_set : Set → ℕ → Bool
is_set set q = slice_index_or set q false

-- the first pair that is not set, if any
abbrev pub unset_in : Set → Option ℕ
unset_in set = position (λ b. not b) set

-- the first pair that is not set; 0 if each is
abbrev pub spare_of : Set → ℕ
spare_of set = unwrap_or (unset_in set) 0
