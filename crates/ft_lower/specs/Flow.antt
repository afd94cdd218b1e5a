-- A machine of three-address steps in blocks, and its runs.
use Rattle.std.specs.Prelude.{ℕ, zero, suc, Bool, true, false, cond, List, [], ◌∷◌, ◌++◌, ◌==◌, Option, Some, None, slice_index, slice_set, slice_get}
use Rattle.std.specs.Option.{unwrap_or}
use Rattle.ft_isa.specs.Words.{apply, cell_address}
use Rattle.ft_isa.specs.declared.output.Output.{Output}
use Rattle.ft_meaning.specs.Meaning.{at_zero, cell_of_run}
use Rattle.ft_lower.specs.declared.step3.Step3.{Step3}
use Rattle.ft_lower.specs.declared.step3.Step3.TheVariants.{Put, Copy, Op, Load, Store, LoadAt, StoreAt, Exit, Go, Stop}

-- the steps of each block
abbrev pub Blocks : Type 0
Blocks = List (List Step3)

-- a block, and an index into it
pub record Place : Type 0 where
  pub block : ℕ
  pub index : ℕ

-- a word for each pair, the cells, the place of the next step, the outputs so far, and whether the run is done
pub record FlowState : Type 0 where
  pub pairs : ℕ → ℕ
  pub cells : List ℕ
  pub place : Place
  pub out : List Output
  pub done : Bool

-- the next place in the block
abbrev pub on : Place → Place
on p = record { block = p.block; index = suc p.index }

-- the place of a block's first step
abbrev pub first : ℕ → Place
first b = record { block = b; index = 0 }

-- the state at the next step of the block
abbrev pub goes_on : FlowState → FlowState
goes_on f = record f { place = on f.place }

-- the state at a block's first step
abbrev pub goes_to : ℕ → FlowState → FlowState
goes_to b f = record f { place = first b }

-- the state with this word in a pair
abbrev pub with_pair : ℕ → ℕ → FlowState → FlowState
with_pair p v f = record f { pairs = λ q. cond (q == p) v (f.pairs q) }

-- the state with this word put into a cell and added to the outputs
abbrev pub with_cell : ℕ → ℕ → FlowState → FlowState
with_cell c v f = record f { cells = slice_set f.cells c v; out = f.out ++ record { addr = cell_address c; value = v } ∷ [] }

-- what a step does
abbrev pub act : Step3 → FlowState → FlowState
act (Put p w) f = goes_on (with_pair p w f)
act (Copy p q) f = goes_on (with_pair p (f.pairs q) f)
act (Op o p q s) f = goes_on (with_pair p (apply o (f.pairs q) (f.pairs s)) f)
act (Load p c) f = goes_on (with_pair p (slice_index f.cells c) f)
act (Store c q spare) f = goes_on (with_pair spare 0 (with_cell c (f.pairs q) f))
act (LoadAt p q start length) f = goes_on (with_pair p (slice_index f.cells (cell_of_run start length (f.pairs q))) f)
act (StoreAt start length i q spare) f = goes_on (with_pair spare 0 (with_cell (cell_of_run start length (f.pairs i)) (f.pairs q) f))
act (Exit q spare to) f = at_zero (f.pairs q) (goes_to to (with_pair spare 0 f)) (goes_on (with_pair spare 0 f))
act (Go spare to) f = goes_to to (with_pair spare 0 f)
act Stop f = record f { done = true }

-- the steps of a block
abbrev pub block_of : Blocks → ℕ → List Step3
block_of bs b = unwrap_or (slice_get bs b) []

-- the step at a place
abbrev pub step_at : Blocks → Place → Option Step3
step_at bs p = slice_get (block_of bs p.block) p.index

-- the effect of a step, if there is one and the run is not done; otherwise nothing changes
abbrev pub act_if : Bool → Option Step3 → FlowState → FlowState
act_if true o f = f
act_if false None f = f
act_if false (Some i) f = act i f

-- one step of a run
abbrev pub flow_step : Blocks → FlowState → FlowState
flow_step bs f = act_if f.done (step_at bs f.place) f

-- n steps of a run
abbrev pub steps : Blocks → ℕ → FlowState → FlowState
steps bs zero f = f
steps bs (suc k) f = steps bs k (flow_step bs f)

-- the state at the start: 0 in each pair, and the initial words in the cells
abbrev pub flow_start : List ℕ → FlowState
flow_start inits = record { pairs = λ q. 0; cells = inits; place = first 0; out = []; done = false }

-- the run of blocks over cells with these initial words, after k steps
abbrev pub flow_run : Blocks → List ℕ → ℕ → FlowState
flow_run bs inits k = steps bs k (flow_start inits)
