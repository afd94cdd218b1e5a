-- Why the steps of a flow are refused, whatever spares they name.
use Rattle.std.specs.Prelude.{ℕ, zero, suc, ◌+◌, Bool, true, false, ◌&&◌, not, nat_lt, nat_le, List, [], ◌∷◌, Option}
use Rattle.std.specs.Prelude.{Some, None, if◌then◌else◌, slice_set, take, replicate}
use Rattle.std.specs.List.{list_all}
use Rattle.std.specs.Option.{is_some}
use Rattle.ft_isa.specs.Words.{IsWord}
use Rattle.ft_lower.specs.declared.step3.Step3.{Step3}
use Rattle.ft_lower.specs.declared.step3.Step3.TheVariants.{Put, Copy, Op, Load, Store, LoadAt, StoreAt, Exit, Go, Stop}
use Rattle.ft_lower.specs.Size.{size}
use Rattle.ft_lower.specs.Well.{is_last}
use Rattle.ft_flow.specs.declared.fault.Frame.{Frame}
use Rattle.ft_flow.specs.declared.fault.Fault.{Fault}
use Rattle.ft_flow.specs.declared.fault.Rule.{Rule}
use Rattle.ft_flow.specs.declared.fault.Rule.TheVariants as rules
use Rattle.ft_flow.specs.Spares.{reads, sets, needs_spare, with_spare, Set, is_set, unset_in, spare_of}

-- TESTS OF A STEP

-- whether a pair exists
abbrev pub is_pair : ℕ → Bool
is_pair p = nat_lt p 32

-- whether the pairs that a step reads or sets exist
abbrev pub pairs_exist : Step3 → Bool
pairs_exist (Put p w) = is_pair p
pairs_exist (Copy p q) = is_pair p && is_pair q
pairs_exist (Op o p q s) = is_pair p && is_pair q && is_pair s
pairs_exist (Load p c) = is_pair p
pairs_exist (Store c q spare) = is_pair q
pairs_exist (LoadAt p q first length) = is_pair p && is_pair q
pairs_exist (StoreAt first length i q spare) = is_pair i && is_pair q
pairs_exist (Exit q spare to) = is_pair q
pairs_exist (Go spare to) = true
pairs_exist Stop = true

-- whether an array of cells exists
abbrev pub is_array : ℕ → ℕ → ℕ → Bool
is_array cells first length = nat_lt 0 length && nat_le length 1024 && nat_le (first + length) cells

-- whether the cell or the array that a step names exists
abbrev pub cells_exist : ℕ → Step3 → Bool
cells_exist cells (Load p c) = nat_lt c cells
cells_exist cells (Store c q spare) = nat_lt c cells
cells_exist cells (LoadAt p q first length) = is_array cells first length
cells_exist cells (StoreAt first length i q spare) = is_array cells first length
cells_exist cells i = true

-- whether a jump's target exists and is not the first block
abbrev pub is_target : ℕ → ℕ → Bool
is_target blocks to = nat_lt 0 to && nat_lt to blocks

abbrev pub target_exists : ℕ → Step3 → Bool
target_exists blocks (Exit q spare to) = is_target blocks to
target_exists blocks (Go spare to) = is_target blocks to
target_exists blocks i = true

-- whether a step reads only pairs that are set
abbrev pub reads_set : Set → Step3 → Bool
reads_set set i = list_all (is_set set) (reads i)

-- whether each variable is set
abbrev pub variables_set : ℕ → Set → Bool
variables_set vars set = list_all (λ b. b) (take vars set)

-- whether, at a jump, each variable is set
abbrev pub jump_keeps : ℕ → Set → Step3 → Bool
jump_keeps vars set (Exit q spare to) = variables_set vars set
jump_keeps vars set (Go spare to) = variables_set vars set
jump_keeps vars set i = true

-- whether a pair is left for a step's address, if it needs one
abbrev pub spare_left : Set → Step3 → Bool
spare_left set i = if needs_spare i then is_some (unset_in set) else true

-- the word that a step puts is a word, as each `u64` is
abbrev pub HasWord : Step3 → Type 0
HasWord (Put p w) = IsWord w
HasWord i = Unit {0}

abbrev pub HaveWords : List Step3 → Type 0
HaveWords [] = Unit {0}
HaveWords (i ∷ is) = HasWord i × HaveWords is

-- THE FIRST RULE THAT IS BROKEN

-- this rule, unless the test holds; then what the next tests say
abbrev pub must : Bool → Rule → Option Rule → Option Rule
must test rule next = if test then next else Some rule

-- the first rule that a step breaks, if these pairs are set before it and the steps before it become this many
-- instructions
abbrev pub step_broken : Frame → Set → ℕ → Step3 → Option Rule
step_broken f set used i =
    must (pairs_exist i) rules.Pair
    (must (cells_exist f.cells i) rules.Cell
    (must (target_exists f.blocks i) rules.Target
    (must (reads_set set i) rules.Unset
    (must (jump_keeps f.vars set i) rules.Variable
    (must (spare_left set i) rules.Spare
    (must (nat_le (used + size i) 65536) rules.Long None))))))

-- the pairs that are set at the start of the first block: none
abbrev pub none_set : Set
none_set = replicate 32 false

-- the pairs below n are set: so it is at the start of any other block, where n is the number of variables
abbrev pub pairs_set : ℕ → Set
pairs_set zero = none_set
pairs_set (suc n) = slice_set (pairs_set n) n true

-- the pairs that are set after a step of a block
abbrev pub with_set : Option ℕ → Set → Set
with_set None set = set
with_set (Some p) set = slice_set set p true

-- the pairs that are set before the next step, which begins a block if this one ends its own
abbrev pub next_set : ℕ → Step3 → Set → Set
next_set vars i set = if is_last i then pairs_set vars else with_set (sets i) set

-- a fault at a step, if it breaks a rule; else what the next steps say
abbrev pub at_step : ℕ → Option Rule → Option Fault → Option Fault
at_step at None next = next
at_step at (Some rule) next = Some (record { at = at; rule = rule })

-- the first fault from step `at` on, where a block is open, these pairs are set, and the steps before became this many
-- instructions
abbrev pub fault_from : Frame → Bool → Set → ℕ → ℕ → List Step3 → Option Fault
fault_from f unended set used at [] = if unended then Some (record { at = at; rule = rules.Open }) else None
fault_from f unended set used at (i ∷ is) = at_step at (step_broken f set used i)
    (fault_from f (not (is_last i)) (next_set f.vars i set) (used + size i) (at + 1) is)

-- the first fault of the steps of a flow
abbrev pub fault_of : Frame → List Step3 → Option Fault
fault_of f is = fault_from f true none_set 0 0 is

-- THE SPARES

-- the steps, each with the first pair that is not set before it as its spare
abbrev pub spared_from : ℕ → Set → List Step3 → List Step3
spared_from vars set [] = []
spared_from vars set (i ∷ is) = with_spare (spare_of set) i ∷ spared_from vars (next_set vars i set) is

-- the steps of a flow with their spares
abbrev pub spared : ℕ → List Step3 → List Step3
spared vars is = spared_from vars none_set is

-- how many blocks these steps end
abbrev pub ends : List Step3 → ℕ
ends [] = 0
ends (i ∷ is) = (if is_last i then 1 else 0) + ends is
