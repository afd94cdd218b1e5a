-- The parts of an object, and queries on it.
use Rattle.std.specs.Prelude.{ℕ, zero, suc, ◌<◌, ◌^◌, List, [], length, Option, None, Some, All, slice_get, slice_range}
use Rattle.std.specs.Option.{option_map, unwrap_or}
use Rattle.ft_isa.specs.Words.{code_address}
use Rattle.ft_isa.specs.declared.basic.Basic.{Basic}
use Rattle.ft_isa.specs.declared.instr.Instr.{Instr}
use Rattle.ft_static.specs.declared.node.Node.{Node}
use Rattle.ft_types.specs.declared.object.Object.{Object}
use Rattle.ft_types.specs.declared.object.Cell.{Cell}
use Rattle.ft_types.specs.declared.object.CellHead.{CellHead}
use Rattle.ft_types.specs.declared.object.Block.{Block}
use Rattle.ft_types.specs.declared.object.CodeType.{CodeType}
use Rattle.ft_types.specs.declared.object.TypeHead.{TypeHead}
use Rattle.ft_types.specs.declared.object.RegType.{RegType}

-- a code type has fewer than 2^32 rows of each kind
pub record HasCountedRows (t : CodeType) : Type 0 where
  pub regs : length t.regs < 2 ^ 32
  pub queue : length t.queue < 2 ^ 32

-- each list of an object has fewer than 2^32 entries
pub record IsCounted (o : Object) : Type 0 where
  pub cells : length o.cells < 2 ^ 32
  pub nodes : length o.nodes < 2 ^ 32
  pub types : length o.types < 2 ^ 32
  pub blocks : length o.blocks < 2 ^ 32
  pub instrs : length o.instrs < 2 ^ 32
  pub substs : length o.substs < 2 ^ 32
  pub rows : All HasCountedRows o.types

-- a cell without its name
abbrev pub cell_head_of : Cell → CellHead
cell_head_of c = record { basic = c.basic; init = c.init }

-- the basic type of a cell
abbrev pub basic_of : Cell → Basic
basic_of c = c.basic

-- the name of a cell
abbrev pub name_of : Cell → List ℕ
name_of c = c.name

-- a code type without its rows
abbrev pub type_head_of : CodeType → TypeHead
type_head_of t = record { ints = t.ints; regs = length t.regs; queue = length t.queue; memory = t.memory }

-- the register rows and the queue rows of a code type
abbrev pub regs_of : CodeType → List RegType
regs_of t = t.regs

abbrev pub queue_of : CodeType → List (ℕ × ℕ)
queue_of t = t.queue

-- the register rows of code type t, none if it does not exist
abbrev pub reg_rows : Object → ℕ → List RegType
reg_rows o t = unwrap_or (option_map regs_of (slice_get o.types t)) []

-- the queue rows of code type t: the nodes of an address and of a value
abbrev pub queue_rows : Object → ℕ → List (ℕ × ℕ)
queue_rows o t = unwrap_or (option_map queue_of (slice_get o.types t)) []

-- the number of integer variables of a code type, and the node of its memory
abbrev pub ints_of_type : CodeType → ℕ
ints_of_type t = t.ints

abbrev pub memory_of_type : CodeType → ℕ
memory_of_type t = t.memory

-- the number of integer variables of code type t, 0 if it does not exist
abbrev pub ints_of : Object → ℕ → ℕ
ints_of o t = unwrap_or (option_map ints_of_type (slice_get o.types t)) 0

-- the node of the memory of code type t, 0 if it does not exist
abbrev pub memory_of : Object → ℕ → ℕ
memory_of o t = unwrap_or (option_map memory_of_type (slice_get o.types t)) 0

-- the first instruction of a block, and its code type
abbrev pub start_of : Block → ℕ
start_of b = b.start

abbrev pub code_type_of : Block → ℕ
code_type_of b = b.code_type

-- the code type of block b, 0 if it does not exist
abbrev pub block_type : Object → ℕ → ℕ
block_type o b = unwrap_or (option_map code_type_of (slice_get o.blocks b)) 0

-- the first instruction of block b, 0 if it does not exist
abbrev pub block_start : Object → ℕ → ℕ
block_start o b = unwrap_or (option_map start_of (slice_get o.blocks b)) 0

-- where block b ends: where the next block begins, or after the last instruction
abbrev pub block_end : Object → ℕ → ℕ
block_end o b = unwrap_or (option_map start_of (slice_get o.blocks (suc b))) (length o.instrs)

-- the instructions of block b
abbrev pub block_instrs : Object → ℕ → List Instr
block_instrs o b = slice_range o.instrs (block_start o b) (block_end o b)

-- the code address at which a run begins: that of the entry block's first instruction
abbrev pub entry_address : Object → ℕ
entry_address o = code_address (block_start o o.entry)

-- the instruction at a code address: instruction i is at 1 + i
abbrev pub instr_at : Object → ℕ → Option Instr
instr_at o zero = None
instr_at o (suc i) = slice_get o.instrs i

-- the scope of a node
abbrev pub scope_of_node : Node → ℕ
scope_of_node n = n.scope

-- the scope of node n, 0 if it does not exist
abbrev pub scope_of : Object → ℕ → ℕ
scope_of o n = unwrap_or (option_map scope_of_node (slice_get o.nodes n)) 0

-- the initial word of a cell, 0 if it does not exist
abbrev pub init_or_zero : Option CellHead → ℕ
init_or_zero None = 0
init_or_zero (Some head) = head.init

-- the initial word of cell k, 0 if it does not exist
abbrev pub init_of : Object → ℕ → ℕ
init_of o k = init_or_zero (option_map cell_head_of (slice_get o.cells k))
