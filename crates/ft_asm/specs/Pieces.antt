-- The pieces of an object's text, in the order in which they are written: private to the disassembler.
use Rattle.std.specs.Prelude.{ℕ, ◌≤◌, List, ◌++◌, map, decimal, codes, length, slice_range, Option, Some, None}
use Rattle.std.specs.List.{flat_map}
use Rattle.ft_isa.specs.declared.instr.Instr.{Instr}
use Rattle.ft_isa.specs.declared.instr.Subst.{Subst}
use Rattle.ft_static.specs.declared.node.Node.{Node}
use Rattle.ft_types.specs.declared.object.Object.{Object}
use Rattle.ft_types.specs.declared.object.Cell.{Cell}
use Rattle.ft_types.specs.declared.object.Block.{Block}
use Rattle.ft_types.specs.declared.object.CodeType.{CodeType}
use Rattle.ft_types.specs.declared.object.RegType.{RegType}
use Rattle.ft_asm.specs.declared.line.Code.{Code}
use Rattle.ft_asm.specs.declared.line.Line.TheVariants as lines
use Rattle.ft_asm.specs.Listings.{Part, pend_line, type_lines, part_lines, code_of, begins_at}
use Rattle.ft_asm.specs.Reads.{line_text}

-- the line of a cell, and of a node
abbrev pub cell_text : Cell → List ℕ
cell_text c = line_text (lines.Cell c)

abbrev pub node_text : Node → List ℕ
node_text n = line_text (lines.Node n)

-- the line of a register row, and of a queue row
abbrev pub reg_text : RegType → List ℕ
reg_text r = line_text (lines.Reg r)

abbrev pub pend_text : ℕ × ℕ → List ℕ
pend_text q = line_text (pend_line q)

-- the lines of a code type
abbrev pub type_text : CodeType → List ℕ
type_text t = flat_map line_text (type_lines t)

-- the line of an instruction with its rows, and of an instruction whose rows are taken from these
abbrev pub code_text : Code → List ℕ
code_text c = line_text (lines.Code c)

abbrev pub instr_text : List ℕ → Instr → List ℕ
instr_text substs i = code_text (code_of substs i)

-- a row of a substitution, after a space
abbrev pub row_text : ℕ → List ℕ
row_text n = codes " " ++ decimal n

-- a block with its instructions, given the blocks after it
abbrev pub part_of : Object → Block → List Block → Part
part_of o b bs = record { code_type = b.code_type; codes = map (code_of o.substs) (slice_range o.instrs b.start (begins_at (length o.instrs) bs)) }

-- the lines of a block
abbrev pub part_text : Part → List ℕ
part_text p = flat_map line_text (part_lines p)

-- the rows of the substitution that an instruction carries are among these
abbrev pub HasRows : List ℕ → Option Subst → Type 0
HasRows substs None = Unit {0}
HasRows substs (Some s) = s.past ≤ length substs
