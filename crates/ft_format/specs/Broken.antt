-- The first rule that bytes break, with its place.
use Rattle.std.specs.Prelude.{ℕ, ◌+◌, ◌-◌, ◌*◌, min, not, ◌≤◌, ◌==◌, nat_le, List, [], ◌∷◌, ◌++◌, length, drop, map, Option, Some, None}
use Rattle.std.specs.List.{list_any}
use Rattle.std.specs.Str.{bytes_eq}
use Rattle.ft_static.specs.declared.node.Node.{Node}
use Rattle.ft_types.specs.declared.object.Object.{Object}
use Rattle.ft_types.specs.declared.object.Cell.{Cell}
use Rattle.ft_types.specs.declared.object.CodeType.{CodeType}
use Rattle.ft_types.specs.declared.object.RegType.{RegType}
use Rattle.ft_types.specs.declared.object.Block.{Block}
use Rattle.ft_isa.specs.declared.instr.Instr.{Instr}
use Rattle.ft_types.specs.Spellable.{is_letter}
use Rattle.ft_format.specs.declared.object_error.ObjectError.{ObjectError}
use Rattle.ft_format.specs.declared.object_error.ObjectError.TheVariants as errors
use Rattle.ft_format.specs.declared.header.Header.{Header}
use Rattle.ft_format.specs.declared.version.Version.{Version}
use Rattle.ft_format.specs.Versions.{version_of, may_follow}
use Rattle.ft_format.specs.Layout.{numbers, rows, header_layout, cell_layout, code_layout, type_layout, reg_layout, pair_layout, subst_layout}
use Rattle.ft_format.specs.Rules.{must, ◌next◌, header_broken, cell_broken, type_broken, reg_broken, queue_broken, block_broken, subst_broken}
use Rattle.ft_format.specs.NodeRecords.{node_broken, node_of}
use Rattle.ft_format.specs.InstrRecords.{instr_broken, instr_of, rows_past}
use Rattle.ft_format.specs.Values.{past_of, cells_of, regs_end_of, queue_end_of, type_ints_of, types_of, reg_type_of, pair_of, block_of, subst_node_of, header_of}

-- the first number in a row
abbrev pub first_of_row : List ℕ → ℕ
first_of_row (n ∷ rest) = n
first_of_row [] = 0

-- the rules for cells whose names begin at `start`
unfoldable pub cells_broken : Header → ℕ → ℕ → List (List ℕ) → Option ObjectError
cells_broken h start at [] = None
cells_broken h start at (row ∷ rest) = cell_broken h start at row next cells_broken h (past_of row) (at + 16) rest

-- the rules for nodes that follow the earlier ones
unfoldable pub nodes_broken : Version → List Node → ℕ → List (List ℕ) → Option ObjectError
nodes_broken v earlier at [] = None
nodes_broken v earlier at (row ∷ rest) = node_broken v earlier at row next nodes_broken v (earlier ++ node_of row ∷ []) (at + 16) rest

-- the rules for types whose register rows and queue rows begin at these numbers
unfoldable pub types_broken : Header → List Node → ℕ → ℕ → ℕ → List (List ℕ) → Option ObjectError
types_broken h nodes regs queue at [] = None
types_broken h nodes regs queue at (row ∷ rest) = type_broken h nodes regs queue at row next types_broken h nodes (regs_end_of row) (queue_end_of row) (at + 16) rest

-- the rules for the register rows of one type
unfoldable pub type_regs_broken : ℕ → List Node → ℕ → ℕ → ℕ → List (List ℕ) → Option ObjectError
type_regs_broken types nodes ints least at [] = None
type_regs_broken types nodes ints least at (row ∷ rest) = reg_broken types nodes ints least at row next type_regs_broken types nodes ints (first_of_row row + 1) (at + 12) rest

-- the rules for the register rows of all types, from row `start`; a leftover row breaks a rule
unfoldable pub regs_broken : Header → List Node → ℕ → ℕ → List (List ℕ) → List ℕ → Option ObjectError
regs_broken h nodes start at [] bytes = must (start == h.regs) (errors.Order at)
regs_broken h nodes start at (row ∷ rest) bytes =
    type_regs_broken h.types nodes (type_ints_of row) 0 at (rows reg_layout (regs_end_of row - start) bytes)
    next regs_broken h nodes (regs_end_of row) (at + 12 * (regs_end_of row - start)) rest (drop (12 * (regs_end_of row - start)) bytes)

-- the rules for the queue rows of one type
unfoldable pub type_queue_broken : List Node → ℕ → ℕ → List (List ℕ) → Option ObjectError
type_queue_broken nodes ints at [] = None
type_queue_broken nodes ints at (row ∷ rest) = queue_broken nodes ints at row next type_queue_broken nodes ints (at + 8) rest

-- the rules for the queue rows of all types, from row `start`; a leftover row breaks a rule
unfoldable pub queues_broken : Header → List Node → ℕ → ℕ → List (List ℕ) → List ℕ → Option ObjectError
queues_broken h nodes start at [] bytes = must (start == h.queue) (errors.Order at)
queues_broken h nodes start at (row ∷ rest) bytes =
    type_queue_broken nodes (type_ints_of row) at (rows pair_layout (queue_end_of row - start) bytes)
    next queues_broken h nodes (queue_end_of row) (at + 8 * (queue_end_of row - start)) rest (drop (8 * (queue_end_of row - start)) bytes)

-- the rules for blocks; `previous` is where the block before them begins
unfoldable pub blocks_broken : Header → Option ℕ → ℕ → List (List ℕ) → Option ObjectError
blocks_broken h previous at [] = None
blocks_broken h previous at (row ∷ rest) = block_broken h previous at row next blocks_broken h (Some (first_of_row row)) (at + 8) rest

-- the rules for instructions, where earlier substitutions took the rows up to `first`
unfoldable pub instrs_broken : Header → List Node → ℕ → ℕ → List (List ℕ) → Option ObjectError
instrs_broken h nodes first at [] = None
instrs_broken h nodes first at (row ∷ rest) = instr_broken h nodes first at row next instrs_broken h nodes (rows_past first row) (at + 16) rest

-- the row after the last substitution row that the instructions take, if earlier ones took the rows up to `first`
unfoldable pub rows_taken : ℕ → List (List ℕ) → ℕ
rows_taken first [] = first
rows_taken first (row ∷ rest) = rows_taken (rows_past first row) rest

-- the rules for substitution rows
unfoldable pub subst_rows_broken : List Node → ℕ → List (List ℕ) → Option ObjectError
subst_rows_broken nodes at [] = None
subst_rows_broken nodes at (row ∷ rest) = subst_broken nodes at row next subst_rows_broken nodes (at + 4) rest

-- the rules for the substitution rows that are taken; a leftover row breaks a rule
abbrev pub substs_broken : Header → List Node → ℕ → ℕ → List ℕ → Option ObjectError
substs_broken h nodes taken at bytes =
    subst_rows_broken nodes at (rows subst_layout taken bytes)
    next must (taken == h.substs) (errors.Order (at + 4 * taken))

-- the rules for the bytes of a name after its first
unfoldable pub name_rest_broken : Version → ℕ → List ℕ → Option ObjectError
name_rest_broken v at [] = None
name_rest_broken v at (b ∷ bs) = must (may_follow v b) (errors.Name at) next name_rest_broken v (at + 1) bs

-- the rules for the bytes of a name
unfoldable pub name_bytes_broken : Version → ℕ → List ℕ → Option ObjectError
name_bytes_broken v at [] = None
name_bytes_broken v at (b ∷ bs) = must (is_letter b) (errors.Name at) next name_rest_broken v (at + 1) bs

-- the rules for a name, given the earlier cells
abbrev pub name_broken : Version → List Cell → ℕ → List ℕ → Option ObjectError
name_broken v earlier at name = name_bytes_broken v at name next must (not (list_any (λ c. bytes_eq name c.name) earlier)) (errors.Name at)

-- the rules for the names of cells, after those of earlier cells, up to `end`; a leftover byte breaks a rule
unfoldable pub names_broken : Version → ℕ → List Cell → ℕ → List Cell → Option ObjectError
names_broken v end earlier at [] = must (at == end) (errors.Order at)
names_broken v end earlier at (c ∷ cs) = name_broken v earlier at c.name next names_broken v end (earlier ++ c ∷ []) (at + length c.name) cs

-- where the nodes begin, after the header and the cells
abbrev pub nodes_at : Header → ℕ
nodes_at h = 48 + 16 * h.cells

-- where the types begin, after the nodes
abbrev pub types_at : Header → ℕ
types_at h = nodes_at h + 16 * h.nodes

-- where the register rows begin, after the types
abbrev pub regs_at : Header → ℕ
regs_at h = types_at h + 16 * h.types

-- where the queue rows begin, after the register rows
abbrev pub queue_at : Header → ℕ
queue_at h = regs_at h + 12 * h.regs

-- where the blocks begin, after the queue rows
abbrev pub blocks_at : Header → ℕ
blocks_at h = queue_at h + 8 * h.queue

-- where the instructions begin, after the blocks
abbrev pub instrs_at : Header → ℕ
instrs_at h = blocks_at h + 8 * h.blocks

-- where the substitution rows begin, after the instructions
abbrev pub substs_at : Header → ℕ
substs_at h = instrs_at h + 16 * h.instrs

-- where the name bytes begin, after the substitution rows
abbrev pub names_at : Header → ℕ
names_at h = substs_at h + 4 * h.substs

-- how many bytes an object with these counts has
abbrev pub total : Header → ℕ
total h = names_at h + h.names

-- counts within their limits
pub record IsSmall (h : Header) : Type 0 where
  pub cells : h.cells ≤ 1024
  pub nodes : h.nodes ≤ 1048576
  pub types : h.types ≤ 4096
  pub regs : h.regs ≤ 262144
  pub queue : h.queue ≤ 32768
  pub blocks : h.blocks ≤ 65536
  pub instrs : h.instrs ≤ 65536
  pub substs : h.substs ≤ 1048576
  pub names : h.names ≤ 40960

-- the bytes from the cells to the end
abbrev pub cells_part : List ℕ → List ℕ
cells_part bytes = drop 48 bytes

-- the bytes from the nodes to the end
abbrev pub nodes_part : Header → List ℕ → List ℕ
nodes_part h bytes = drop (nodes_at h) bytes

-- the bytes from the types to the end
abbrev pub types_part : Header → List ℕ → List ℕ
types_part h bytes = drop (types_at h) bytes

-- the bytes from the register rows to the end
abbrev pub regs_part : Header → List ℕ → List ℕ
regs_part h bytes = drop (regs_at h) bytes

-- the bytes from the queue rows to the end
abbrev pub queue_part : Header → List ℕ → List ℕ
queue_part h bytes = drop (queue_at h) bytes

-- the bytes from the blocks to the end
abbrev pub blocks_part : Header → List ℕ → List ℕ
blocks_part h bytes = drop (blocks_at h) bytes

-- the bytes from the instructions to the end
abbrev pub instrs_part : Header → List ℕ → List ℕ
instrs_part h bytes = drop (instrs_at h) bytes

-- the bytes from the substitution rows to the end
abbrev pub substs_part : Header → List ℕ → List ℕ
substs_part h bytes = drop (substs_at h) bytes

-- the bytes from the name bytes to the end
abbrev pub names_part : Header → List ℕ → List ℕ
names_part h bytes = drop (names_at h) bytes

-- the records of the types; the sections of register rows and queue rows use them too
abbrev pub type_rows_of : Header → List ℕ → List (List ℕ)
type_rows_of h bytes = rows type_layout h.types (types_part h bytes)

-- the records of the instructions; the section of substitution rows uses them too
abbrev pub instr_rows_of : Header → List ℕ → List (List ℕ)
instr_rows_of h bytes = rows code_layout h.instrs (instrs_part h bytes)

-- the cells that their section and the name bytes spell
abbrev pub cells_read : Header → List ℕ → List Cell
cells_read h bytes = cells_of (names_part h bytes) 0 (rows cell_layout h.cells (cells_part bytes))

-- the nodes that their section spells
abbrev pub nodes_read : Header → List ℕ → List Node
nodes_read h bytes = map node_of (rows code_layout h.nodes (nodes_part h bytes))

-- the register rows that their section spells
abbrev pub regs_read : Header → List ℕ → List RegType
regs_read h bytes = map reg_type_of (rows reg_layout h.regs (regs_part h bytes))

-- the queue rows that their section spells
abbrev pub queue_read : Header → List ℕ → List (ℕ × ℕ)
queue_read h bytes = map pair_of (rows pair_layout h.queue (queue_part h bytes))

-- the types that their section spells, together with the sections of register rows and queue rows
abbrev pub types_read : Header → List ℕ → List CodeType
types_read h bytes = types_of 0 0 (type_rows_of h bytes) (regs_read h bytes) (queue_read h bytes)

-- the blocks that their section spells
abbrev pub blocks_read : Header → List ℕ → List Block
blocks_read h bytes = map block_of (rows pair_layout h.blocks (blocks_part h bytes))

-- the instructions that their section spells
abbrev pub instrs_read : Header → List ℕ → List Instr
instrs_read h bytes = map instr_of (instr_rows_of h bytes)

-- the nodes of the substitution rows that their section spells
abbrev pub substs_read : Header → List ℕ → List ℕ
substs_read h bytes = map subst_node_of (rows subst_layout h.substs (substs_part h bytes))

-- the object that the sections spell
unfoldable pub tables_read : Header → List ℕ → Object
tables_read h bytes = record {
  cells = cells_read h bytes;
  nodes = nodes_read h bytes;
  types = types_read h bytes;
  blocks = blocks_read h bytes;
  instrs = instrs_read h bytes;
  substs = substs_read h bytes;
  entry = h.entry;
}

-- the rules for types, their register rows and their queue rows
unfoldable pub code_types_broken : Header → List Node → List ℕ → Option ObjectError
code_types_broken h nodes bytes =
    types_broken h nodes 0 0 (types_at h) (type_rows_of h bytes)
    next regs_broken h nodes 0 (regs_at h) (type_rows_of h bytes) (regs_part h bytes)
    next queues_broken h nodes 0 (queue_at h) (type_rows_of h bytes) (queue_part h bytes)

-- the rules for the nine sections, in order
unfoldable pub tables_broken : Header → List ℕ → Option ObjectError
tables_broken h bytes =
    cells_broken h 0 48 (rows cell_layout h.cells (cells_part bytes))
    next nodes_broken (version_of h) [] (nodes_at h) (rows code_layout h.nodes (nodes_part h bytes))
    next code_types_broken h (nodes_read h bytes) bytes
    next blocks_broken h None (blocks_at h) (rows pair_layout h.blocks (blocks_part h bytes))
    next instrs_broken h (nodes_read h bytes) 0 (instrs_at h) (instr_rows_of h bytes)
    next substs_broken h (nodes_read h bytes) (rows_taken 0 (instr_rows_of h bytes)) (substs_at h) (substs_part h bytes)
    next names_broken (version_of h) (total h) [] (names_at h) (cells_read h bytes)

-- the header of these bytes
abbrev pub header_at : List ℕ → Header
header_at bytes = header_of (numbers header_layout bytes)

-- the version that these bytes name
abbrev pub version_at : List ℕ → Version
version_at bytes = version_of (header_at bytes)

-- the rules that are checked before those for the sections: length, header, total
abbrev pub front_broken : List ℕ → Option ObjectError
front_broken bytes =
    must (nat_le (length bytes) 67108864) (errors.Length 67108864)
    next must (nat_le 48 (length bytes)) (errors.Length (length bytes))
    next header_broken (header_at bytes)
    next must (length bytes == total (header_at bytes)) (errors.Length (min (length bytes) (total (header_at bytes))))

-- the first rule that bytes break
unfoldable pub broken : List ℕ → Option ObjectError
broken bytes = front_broken bytes next tables_broken (header_at bytes) bytes

-- the object that valid bytes spell
abbrev pub object_of : List ℕ → Object
object_of bytes = tables_read (header_at bytes) bytes
