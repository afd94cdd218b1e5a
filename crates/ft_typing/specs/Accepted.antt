-- Accepted objects, and why others are refused.
use Rattle.std.specs.Prelude.{◌≡◌, ℕ, suc, Bool, true, false, ◌&&◌, ◌==◌, if◌then◌else◌, List, [], ◌∷◌, Option, Some, None, slice_get}
use Rattle.std.specs.Option.{option_map, option_or}
use Rattle.ft_isa.specs.declared.instr.Instr.{Instr}
use Rattle.ft_static.specs.NodeTree.{HasShape}
use Rattle.ft_static.specs.declared.node.Node.{Node}
use Rattle.ft_static.specs.declared.node.Shape.{Shape}
use Rattle.ft_static.specs.declared.node.Shape.TheVariants as shape
use Rattle.ft_types.specs.declared.object.Object.{Object}
use Rattle.ft_types.specs.declared.object.Cell.{Cell}
use Rattle.ft_types.specs.declared.object.Block.{Block}
use Rattle.ft_types.specs.Objects.{reg_rows, queue_rows, ints_of, memory_of, block_type, block_instrs}
use Rattle.ft_typing.specs.TypedWord.{HasType, has_type}
use Rattle.ft_typing.specs.Context.{Context, start_context}
use Rattle.ft_typing.specs.Premise.{Premise}
use Rattle.ft_typing.specs.declared.why.Why.TheVariants.{BlockEnd}
use Rattle.ft_typing.specs.TypingRow.{row}
use Rattle.ft_typing.specs.RowWords.{Outcome, Goes, Ends, Fails}

-- ACCEPTED

-- the rows of these instructions apply in turn, starting from this context; the last one ends the block, and no other
-- does
pub data Applies (o : Object) : Context → List Instr → Type 0 where
  last_row : {c : Context} {i : Instr} → row o c i ≡ Ends → Applies o c (i ∷ [])
  next_row : {c : Context} {i : Instr} {is : List Instr} (d : Context) → row o c i ≡ Goes d → Applies o d is → Applies o c (i ∷ is)

-- a code type with which a run may begin: it has no integer variables, register rows or queue rows, and its memory is
-- the memory variable
pub record IsEntryType (o : Object) (t : ℕ) : Type 0 where
  pub ints : ints_of o t ≡ 0
  pub regs : reg_rows o t ≡ []
  pub queue : queue_rows o t ≡ []
  pub memory : HasShape o.nodes (memory_of o t) shape.Memory

-- an accepted object: a run may begin with its entry block's code type, each cell's initial word has the cell's basic
-- type, and the rows of each block's instructions apply from the block's starting context
pub record IsAccepted (o : Object) : Type 0 where
  pub entry : IsEntryType o (block_type o o.entry)
  pub cells : (k : ℕ) (x : Cell) → slice_get o.cells k ≡ Some x → HasType o x.init x.basic
  pub blocks : (b : ℕ) (x : Block) → slice_get o.blocks b ≡ Some x → Applies o (start_context o x.code_type) (block_instrs o b)

-- REFUSED

-- why an object is refused: the entry block's code type, a cell's initial word, or an instruction, given by its block,
-- its index in the block and the first premise that fails
pub data Refusal : Type 0 where
  EntryType : Refusal
  CellType : ℕ → Refusal
  Refused : ℕ → ℕ → Premise → Refusal

-- whether this is the shape of the memory variable
abbrev pub is_variable : Shape → Bool
is_variable shape.Memory = true
is_variable x = false

-- whether a node exists and is the memory variable
abbrev pub is_memory_variable : Option Node → Bool
is_memory_variable None = false
is_memory_variable (Some n) = is_variable n.shape

-- whether a list is empty
abbrev pub has_none : {X : Type 0} → List X → Bool
has_none [] = true
has_none (x ∷ xs) = false

-- whether a run may begin with code type t
unfoldable pub is_entry_type : Object → ℕ → Bool
is_entry_type o t = (ints_of o t == 0) && has_none (reg_rows o t) && has_none (queue_rows o t) && is_memory_variable (slice_get o.nodes (memory_of o t))

-- the verdict once the row of instruction k is known, given the instructions after it in the block: the first refusal,
-- or nothing
unfoldable pub after_row : Outcome → ℕ → List Instr → (Context → Option (ℕ × Premise)) → Option (ℕ × Premise)
after_row (Fails p) k others next = Some (k, p)
after_row (Goes d) k [] next = Some (k, BlockEnd)
after_row (Goes d) k (i ∷ is) next = next d
after_row Ends k [] next = None
after_row Ends k (i ∷ is) next = Some (k, BlockEnd)

-- the first of these instructions, numbered from k, whose row does not apply when the rows are applied in turn from
-- this context, with the premise that fails; a block that bytes spell is never empty
unfoldable pub walk : Object → Context → ℕ → List Instr → Option (ℕ × Premise)
walk o c k [] = Some (k, BlockEnd)
walk o c k (i ∷ is) = after_row (row o c i) k is (λ d. walk o d (suc k) is)

-- the first refusal among these elements, which are numbered from k
unfoldable pub first_refusal : {X : Type 0} → (ℕ → X → Option Refusal) → ℕ → List X → Option Refusal
first_refusal refuse k [] = None
first_refusal refuse k (x ∷ xs) = option_or (refuse k x) (first_refusal refuse (suc k) xs)

-- cell k is refused if its initial word doesn't have its basic type
abbrev pub cell_refusal : Object → ℕ → Cell → Option Refusal
cell_refusal o k x = if has_type o x.init x.basic then None else Some (CellType k)

-- block b is refused at its first refused instruction
abbrev pub block_refusal : Object → ℕ → Block → Option Refusal
block_refusal o b x = option_map (λ r. Refused b r.0 r.1) (walk o (start_context o x.code_type) 0 (block_instrs o b))

-- why an object is refused, if it is: first EntryType, then CellType with the lowest refused cell, then Refused with
-- the first refused block and the index in it
abbrev pub refusal : Object → Option Refusal
refusal o =
    if is_entry_type o (block_type o o.entry)
    then option_or (first_refusal (cell_refusal o) 0 o.cells) (first_refusal (block_refusal o) 0 o.blocks)
    else Some EntryType
