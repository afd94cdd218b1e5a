-- The parts of an object that valid records encode, except nodes and instructions.
use Rattle.std.specs.Prelude.{ℕ, ◌-◌, List, [], ◌∷◌, take, drop}
use Rattle.ft_isa.specs.declared.colour.Colour.TheVariants.{Green}
use Rattle.ft_types.specs.declared.object.Cell.{Cell}
use Rattle.ft_types.specs.declared.object.Block.{Block}
use Rattle.ft_types.specs.declared.object.CodeType.{CodeType}
use Rattle.ft_types.specs.declared.object.RegType.{RegType}
use Rattle.ft_format.specs.declared.header.Header.{Header}
use Rattle.ft_format.specs.Codes.{first_register, register_of, colour_of, basic_type_of}

-- where a cell's name ends
abbrev pub past_of : List ℕ → ℕ
past_of (past ∷ rest) = past
past_of [] = 0

-- a cell whose name begins at `start` in the name bytes
abbrev pub cell_of : List ℕ → ℕ → List ℕ → Cell
cell_of names start (past ∷ refs ∷ base ∷ code_type ∷ init ∷ []) = record { name = take (past - start) (drop start names); basic = basic_type_of refs base code_type; init = init }
cell_of names start _ = record { name = []; basic = basic_type_of 0 0 0; init = 0 }

-- cells whose names follow one another
abbrev pub cells_of : List ℕ → ℕ → List (List ℕ) → List Cell
cells_of names start [] = []
cells_of names start (row ∷ rest) = cell_of names start row ∷ cells_of names (past_of row) rest

-- where a type's register rows end
abbrev pub regs_end_of : List ℕ → ℕ
regs_end_of (regs ∷ rest) = regs
regs_end_of [] = 0

-- where a type's queue rows end
abbrev pub queue_end_of : List ℕ → ℕ
queue_end_of (regs ∷ queue ∷ rest) = queue
queue_end_of _ = 0

-- the memory of a type
abbrev pub type_memory_of : List ℕ → ℕ
type_memory_of (regs ∷ queue ∷ memory ∷ rest) = memory
type_memory_of _ = 0

-- the number of variables of a type
abbrev pub type_ints_of : List ℕ → ℕ
type_ints_of (regs ∷ queue ∷ memory ∷ ints ∷ rest) = ints
type_ints_of _ = 0

-- types, which take consecutive rows
abbrev pub types_of : ℕ → ℕ → List (List ℕ) → List RegType → List (ℕ × ℕ) → List CodeType
types_of regs_start queue_start [] regs queue = []
types_of regs_start queue_start (row ∷ rest) regs queue =
    record {
      ints = type_ints_of row;
      regs = take (regs_end_of row - regs_start) regs;
      queue = take (queue_end_of row - queue_start) queue;
      memory = type_memory_of row;
    }
    ∷ types_of (regs_end_of row) (queue_end_of row) rest (drop (regs_end_of row - regs_start) regs) (drop (queue_end_of row - queue_start) queue)

-- a register row, from its record
abbrev pub reg_type_of : List ℕ → RegType
reg_type_of (reg ∷ colour ∷ pad ∷ refs ∷ base ∷ code_type ∷ expr ∷ []) = record { reg = register_of reg; colour = colour_of colour; basic = basic_type_of refs base code_type; expr = expr }
reg_type_of _ = record { reg = first_register; colour = Green; basic = basic_type_of 0 0 0; expr = 0 }

-- a queue row, from its record: address and value
abbrev pub pair_of : List ℕ → ℕ × ℕ
pair_of (address ∷ value ∷ []) = (address, value)
pair_of _ = (0, 0)

-- a block, from its record
abbrev pub block_of : List ℕ → Block
block_of (start ∷ code_type ∷ []) = record { start = start; code_type = code_type }
block_of _ = record { start = 0; code_type = 0 }

-- the node of a substitution row
abbrev pub subst_node_of : List ℕ → ℕ
subst_node_of (n ∷ rest) = n
subst_node_of [] = 0

-- a header, from its numbers
abbrev pub header_of : List ℕ → Header
header_of (magic ∷ cells ∷ nodes ∷ types ∷ regs ∷ queue ∷ blocks ∷ instrs ∷ substs ∷ names ∷ entry ∷ []) = record { magic = magic; cells = cells; nodes = nodes; types = types; regs = regs; queue = queue; blocks = blocks; instrs = instrs; substs = substs; names = names; entry = entry }
header_of _ = record { magic = 0; cells = 0; nodes = 0; types = 0; regs = 0; queue = 0; blocks = 0; instrs = 0; substs = 0; names = 0; entry = 0 }
