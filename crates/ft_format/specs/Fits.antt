-- Which objects the fields of records can hold: tables of fewer than 2^32 rows, and numbers that fit.
use Rattle.std.specs.Prelude.{ℕ, List, length, sum_by}
use Rattle.std.specs.List.{AllByRecursion}
use Rattle.ft_isa.specs.Words.{IsWord}
use Rattle.ft_types.specs.declared.object.Object.{Object}
use Rattle.ft_types.specs.declared.object.Cell.{Cell}
use Rattle.ft_types.specs.declared.object.Block.{Block}
use Rattle.ft_types.specs.declared.object.CodeType.{CodeType}
use Rattle.ft_types.specs.declared.object.RegType.{RegType}
use Rattle.ft_types.specs.Objects.{name_of}
use Rattle.ft_types.specs.Spellable.{reg_row_count, queue_row_count}
use Rattle.ft_format.specs.Codes.{Is8, Is32, FitsBasic}
use Rattle.ft_format.specs.NodeRecords.{FitsNode}
use Rattle.ft_format.specs.InstrRecords.{FitsInstr}

-- the total size of the cells' names in bytes
abbrev pub name_byte_count : List Cell → ℕ
name_byte_count cs = sum_by (λ c. length (name_of c)) cs

-- there are fewer than 2^32 rows in each table, and fewer than 2^32 register rows, queue rows and name bytes in all
pub record HasCounts (o : Object) : Type 0 where
  pub cells : Is32 (length o.cells)
  pub nodes : Is32 (length o.nodes)
  pub types : Is32 (length o.types)
  pub regs : Is32 (reg_row_count o.types)
  pub queue : Is32 (queue_row_count o.types)
  pub blocks : Is32 (length o.blocks)
  pub instrs : Is32 (length o.instrs)
  pub substs : Is32 (length o.substs)
  pub names : Is32 (name_byte_count o.cells)

-- the numbers of a cell fit
abbrev pub FitsCell : Cell → Type 0
FitsCell c = FitsBasic c.basic × IsWord c.init

-- the numbers of a register row fit, and those of a queue row
abbrev pub FitsReg : RegType → Type 0
FitsReg r = FitsBasic r.basic × Is32 r.expr

abbrev pub FitsPair : ℕ × ℕ → Type 0
FitsPair q = Is32 q.0 × Is32 q.1

-- the numbers of a code type and of its rows fit
pub record FitsType (t : CodeType) : Type 0 where
  pub ints : Is8 t.ints
  pub memory : Is32 t.memory
  pub regs : AllByRecursion FitsReg t.regs
  pub queue : AllByRecursion FitsPair t.queue

-- the numbers of a block fit
abbrev pub FitsBlock : Block → Type 0
FitsBlock b = Is32 b.start × Is32 b.code_type

-- each table of an object has fewer than 2^32 rows, and their numbers fit
pub record Fits (o : Object) : Type 0 where
  pub counts : HasCounts o
  pub cells : AllByRecursion FitsCell o.cells
  pub nodes : AllByRecursion FitsNode o.nodes
  pub types : AllByRecursion FitsType o.types
  pub blocks : AllByRecursion FitsBlock o.blocks
  pub instrs : AllByRecursion FitsInstr o.instrs
  pub substs : AllByRecursion Is32 o.substs
  pub entry : Is32 o.entry
