-- The numbers that encode the parts of an object, except nodes and instructions, and the bytes that spell a whole
-- object.
use Rattle.std.specs.Prelude.{ℕ, ◌+◌, List, [], ◌∷◌, ◌++◌, length, map}
use Rattle.std.specs.List.{flat_map}
use Rattle.ft_types.specs.declared.object.Object.{Object}
use Rattle.ft_types.specs.declared.object.Cell.{Cell}
use Rattle.ft_types.specs.declared.object.Block.{Block}
use Rattle.ft_types.specs.declared.object.CodeType.{CodeType}
use Rattle.ft_types.specs.declared.object.RegType.{RegType}
use Rattle.ft_types.specs.Objects.{name_of, regs_of, queue_of}
use Rattle.ft_types.specs.NodeRows.{node_row}
use Rattle.ft_format.specs.declared.version.Version.{Version}
use Rattle.ft_format.specs.Versions.{magic}
use Rattle.ft_format.specs.Layout.{written, spelled, header_layout, cell_layout, code_layout, type_layout, reg_layout, pair_layout, subst_layout}
use Rattle.ft_format.specs.Codes.{colour_code, base_code, base_type}
use Rattle.ft_format.specs.InstrRecords.{instr_row}

-- a cell whose name ends at this place in the name bytes
abbrev pub cell_row : ℕ → Cell → List ℕ
cell_row past c = past ∷ c.basic.refs ∷ base_code c.basic.base ∷ base_type c.basic.base ∷ c.init ∷ []

-- cells whose names follow one another from a place in the name bytes
abbrev pub cell_rows : ℕ → List Cell → List (List ℕ)
cell_rows start [] = []
cell_rows start (c ∷ cs) = cell_row (start + length c.name) c ∷ cell_rows (start + length c.name) cs

-- a type whose rows end at these numbers
abbrev pub type_row : ℕ → ℕ → CodeType → List ℕ
type_row regs queue t = regs ∷ queue ∷ t.memory ∷ t.ints ∷ 0 ∷ 0 ∷ 0 ∷ []

-- types whose rows follow one another from these numbers
abbrev pub type_rows : ℕ → ℕ → List CodeType → List (List ℕ)
type_rows regs queue [] = []
type_rows regs queue (t ∷ ts) = type_row (regs + length t.regs) (queue + length t.queue) t ∷ type_rows (regs + length t.regs) (queue + length t.queue) ts

-- a register row
abbrev pub reg_row : RegType → List ℕ
reg_row r = r.reg.number ∷ colour_code r.colour ∷ 0 ∷ r.basic.refs ∷ base_code r.basic.base ∷ base_type r.basic.base ∷ r.expr ∷ []

-- a queue row
abbrev pub queue_row : ℕ × ℕ → List ℕ
queue_row q = q.0 ∷ q.1 ∷ []

-- a block
abbrev pub block_row : Block → List ℕ
block_row b = b.start ∷ b.code_type ∷ []

-- a substitution row
abbrev pub subst_row : ℕ → List ℕ
subst_row n = n ∷ []

-- the register rows of an object, type by type
abbrev pub all_regs : Object → List RegType
all_regs o = flat_map regs_of o.types

-- the queue rows of an object, type by type
abbrev pub all_queue : Object → List (ℕ × ℕ)
all_queue o = flat_map queue_of o.types

-- the name bytes of an object, cell by cell
abbrev pub all_names : Object → List ℕ
all_names o = flat_map name_of o.cells

-- the header
abbrev pub header_row : Version → Object → List ℕ
header_row v o =
    magic v ∷ length o.cells ∷ length o.nodes ∷ length o.types ∷ length (all_regs o) ∷ length (all_queue o)
    ∷ length o.blocks ∷ length o.instrs ∷ length o.substs ∷ length (all_names o) ∷ o.entry ∷ []

-- the bytes of an object: the header, and nine sections
unfoldable pub spelling : Version → Object → List ℕ
spelling v o =
    written header_layout (header_row v o)
    ++ (spelled cell_layout (cell_rows 0 o.cells)
    ++ (spelled code_layout (map node_row o.nodes)
    ++ (spelled type_layout (type_rows 0 0 o.types)
    ++ (spelled reg_layout (map reg_row (all_regs o))
    ++ (spelled pair_layout (map queue_row (all_queue o))
    ++ (spelled pair_layout (map block_row o.blocks)
    ++ (spelled code_layout (map instr_row o.instrs)
    ++ (spelled subst_layout (map subst_row o.substs)
    ++ all_names o))))))))
