-- What a whole text says, in order, and the object that it denotes.
use Rattle.std.specs.Prelude.{ℕ, ◌+◌, List, [], ◌∷◌, ◌++◌, length, map, slice_range, Option, Some, None}
use Rattle.std.specs.List.{flat_map}
use Rattle.ft_isa.specs.declared.instr.Instr.{Instr}
use Rattle.ft_isa.specs.declared.instr.Subst.{Subst}
use Rattle.ft_static.specs.declared.node.Node.{Node}
use Rattle.ft_types.specs.declared.object.Object.{Object}
use Rattle.ft_types.specs.declared.object.Cell.{Cell}
use Rattle.ft_types.specs.declared.object.Block.{Block}
use Rattle.ft_types.specs.declared.object.CodeType.{CodeType}
use Rattle.ft_types.specs.Spellable.{subst_of}
use Rattle.ft_asm.specs.declared.line.Code.{Code}
use Rattle.ft_asm.specs.declared.line.Line.{Line}
use Rattle.ft_asm.specs.declared.line.Line.TheVariants as lines
use Rattle.ft_asm.specs.Lines.{placed}

-- a block with its instructions
pub record Part : Type 0 where
  pub code_type : ℕ
  pub codes : List Code

-- what a text says
pub record Listing : Type 0 where
  pub cells : List Cell
  pub nodes : List Node
  pub types : List CodeType
  pub parts : List Part
  pub entry : ℕ

-- LINES

-- the line of a queue row
abbrev pub pend_line : ℕ × ℕ → Line
pend_line row = lines.Pend row.0 row.1

-- the lines of a code type: its own, those of its register rows and those of its queue rows
abbrev pub type_lines : CodeType → List Line
type_lines t = lines.Type t.ints t.memory ∷ (map lines.Reg t.regs ++ map pend_line t.queue)

-- the lines of a block: its own and those of its instructions
abbrev pub part_lines : Part → List Line
part_lines p = lines.Block p.code_type ∷ map lines.Code p.codes

-- the lines of a text: cells, nodes, code types, blocks and the entry block
abbrev pub listing_lines : Listing → List Line
listing_lines l = map lines.Cell l.cells ++ (map lines.Node l.nodes ++ (flat_map type_lines l.types ++ (flat_map part_lines l.parts ++ lines.Entry l.entry ∷ [])))

-- THE OBJECT

-- the substitution rows of an instruction
abbrev pub rows_of : Code → List ℕ
rows_of code = code.rows

-- the instruction on a line, if this many substitution rows come before its own
abbrev pub instr_at : ℕ → Code → Instr
instr_at first code = placed first (first + length code.rows) code.instr

-- the instructions on lines, if this many substitution rows come before theirs
abbrev pub instrs_from : ℕ → List Code → List Instr
instrs_from first [] = []
instrs_from first (code ∷ codes) = instr_at first code ∷ instrs_from (first + length (rows_of code)) codes

-- the blocks of these parts, if this many instructions come before them
abbrev pub blocks_from : ℕ → List Part → List Block
blocks_from start [] = []
blocks_from start (p ∷ ps) = record { start = start; code_type = p.code_type } ∷ blocks_from (start + length p.codes) ps

-- the instructions of a part
abbrev pub codes_of : Part → List Code
codes_of p = p.codes

-- the tables of a listing
abbrev pub object_of : Listing → Object
object_of l = record {
  cells = l.cells;
  nodes = l.nodes;
  types = l.types;
  blocks = blocks_from 0 l.parts;
  instrs = instrs_from 0 (flat_map codes_of l.parts);
  substs = flat_map rows_of (flat_map codes_of l.parts);
  entry = l.entry;
}

-- THE LISTING OF AN OBJECT

-- the rows of a substitution, if there is one
abbrev pub rows_in : List ℕ → Option Subst → List ℕ
rows_in substs None = []
rows_in substs (Some s) = slice_range substs s.first s.past

-- an instruction with the rows of its substitution
abbrev pub code_of : List ℕ → Instr → Code
code_of substs i = record { instr = placed 0 0 i; rows = rows_in substs (subst_of i) }

-- where the first of these blocks begins, or the end
abbrev pub begins_at : ℕ → List Block → ℕ
begins_at end [] = end
begins_at end (b ∷ bs) = b.start

-- these blocks, each with its instructions up to the next block or the end
abbrev pub parts_of : List Instr → List ℕ → List Block → List Part
parts_of is substs [] = []
parts_of is substs (b ∷ bs) = record { code_type = b.code_type; codes = map (code_of substs) (slice_range is b.start (begins_at (length is) bs)) } ∷ parts_of is substs bs

-- what the text of an object says
abbrev pub listing_of : Object → Listing
listing_of o = record {
  cells = o.cells;
  nodes = o.nodes;
  types = o.types;
  parts = parts_of o.instrs o.substs o.blocks;
  entry = o.entry;
}
