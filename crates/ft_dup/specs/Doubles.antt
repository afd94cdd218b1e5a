-- Which objects carry the instructions of a flow, and what their runs do.
use Rattle.std.specs.Prelude.{◌≡◌, ℕ, zero, suc, ◌+◌, ◌*◌, ◌≤◌, Bool, true, false, cond, List, [], map, length, slice_get, Option, Some, None, All}
use Rattle.ft_isa.specs.BasicTypes.{int}
use Rattle.ft_isa.specs.Words.{IsWord, cell_address}
use Rattle.ft_isa.specs.declared.plan.Wild.{Wild}
use Rattle.ft_isa.specs.declared.instr.Instr.{Instr}
use Rattle.ft_isa.specs.declared.instr.Instr.TheVariants as instr
use Rattle.ft_types.specs.declared.object.Object.{Object}
use Rattle.ft_types.specs.declared.object.Cell.{Cell}
use Rattle.ft_semantics.specs.declared.status.Status.TheVariants.{Running, Done}
use Rattle.ft_types.specs.Objects.{start_of as start_of_block}
use Rattle.ft_semantics.specs.State.{State, register, cell_at}
use Rattle.ft_semantics.specs.Run.{state_after, outputs_after, status_after}
use Rattle.ft_lower.specs.declared.step3.Step3.{Step3}
use Rattle.ft_lower.specs.Flow.{Blocks, FlowState, step_at, flow_step, flow_run, flow_start}
use Rattle.ft_lower.specs.Size.{size}
use Rattle.ft_lower.specs.Well.{Known, known_at}
use Rattle.ft_dup.specs.Images.{green, blue, green_word, blue_word, empty, starts, doubled}

-- the same instruction with no claim and no substitution
abbrev pub bare : Instr → Instr
bare (instr.Mov rd b v) = instr.Mov rd int v
bare (instr.JmpB rd t) = instr.JmpB rd empty
bare (instr.BzB rz rd t) = instr.BzB rz rd empty
bare i = i

-- the initial word of a cell
abbrev pub init_of_cell : Cell → ℕ
init_of_cell c = c.init

-- the initial words of an object's cells
abbrev pub words_of : Object → List ℕ
words_of o = map init_of_cell o.cells

-- a cell is of type `int`, so it may hold any word
abbrev pub IsIntCell : Cell → Type 0
IsIntCell c = c.basic ≡ int

-- an object carries blocks: its instructions are theirs except for claims and substitutions, its blocks begin where
-- theirs do, its entry is block 0, and it has this many cells, each of type `int` and with an initial word below 2^64
pub record Carries (o : Object) (cells : ℕ) (bs : Blocks) : Type 0 where
  pub instrs : map bare o.instrs ≡ map bare (doubled bs)
  pub blocks : map start_of_block o.blocks ≡ starts bs
  pub entry : o.entry ≡ 0
  pub many : length o.cells ≡ cells
  pub ints : All IsIntCell o.cells
  pub words : All IsWord (words_of o)

-- how many machine steps a step of the flow costs: two for each instruction, and none if the flow is done or there is
-- no step
abbrev pub cost_if : Bool → Option Step3 → ℕ
cost_if true o = 0
cost_if false None = 0
cost_if false (Some i) = 2 * size i

-- how many machine steps the first k steps of the flow cost
abbrev pub cost : Blocks → ℕ → FlowState → ℕ
cost bs zero f = 0
cost bs (suc k) f = cost_if f.done (step_at bs f.place) + cost bs k (flow_step bs f)

-- what a running machine holds: the known pairs in both colours, 0 in d, and an empty queue
pub record Holds (known : Known) (pairs : ℕ → ℕ) (s : State) : Type 0 where
  pub green_pairs : (q : ℕ) → known q ≡ true → register s (green q) ≡ green_word (pairs q)
  pub blue_pairs : (q : ℕ) → known q ≡ true → register s (blue q) ≡ blue_word (pairs q)
  pub d : s.d ≡ 0
  pub queue : s.queue ≡ []

-- the machine's run after n steps agrees with state f of the flow
pub record DoublesAt (o : Object) (vars : ℕ) (wild : List Wild) (bs : Blocks) (f : FlowState) (n : ℕ) : Type 0 where
  pub out : outputs_after o None wild n ≡ f.out
  pub cells : (c : ℕ) → cell_at (state_after o None wild n).cells (cell_address c) ≡ slice_get f.cells c
  pub status : status_after o None wild n ≡ cond f.done Done Running
  pub holds : f.done ≡ false → Holds (known_at vars bs f.place) f.pairs (state_after o None wild n)

-- for each k, the machine's run after exactly as many steps as the first k steps of the flow cost agrees with the
-- flow's run after k steps; while the flow is running, this cost is at least k
pub record Doubles (o : Object) (vars : ℕ) (bs : Blocks) (wild : List Wild) : Type 0 where
  pub after : (k : ℕ) → DoublesAt o vars wild bs (flow_run bs (words_of o) k) (cost bs k (flow_start (words_of o)))
  pub pace : (k : ℕ) → (flow_run bs (words_of o) k).done ≡ false → k ≤ cost bs k (flow_start (words_of o))

-- each object that carries these blocks runs as they do
abbrev pub RunsAs : ℕ → ℕ → Blocks → Type 0
RunsAs vars cells bs = (o : Object) → Carries o cells bs → (wild : List Wild) → Doubles o vars bs wild
