-- The bytes of each kind of record: private to the code.
use Rattle.std.specs.Prelude.{ℕ, List}
use Rattle.ft_isa.specs.declared.instr.Instr.{Instr}
use Rattle.ft_static.specs.declared.node.Node.{Node}
use Rattle.ft_types.specs.declared.object.Block.{Block}
use Rattle.ft_types.specs.declared.object.RegType.{RegType}
use Rattle.ft_types.specs.NodeRows.{node_row}
use Rattle.ft_format.specs.Layout.{written, code_layout, reg_layout, pair_layout, subst_layout}
use Rattle.ft_format.specs.Rows.{reg_row, queue_row, block_row, subst_row}
use Rattle.ft_format.specs.InstrRecords.{instr_row}

-- the bytes of a node's record
abbrev pub node_bytes : Node → List ℕ
node_bytes n = written code_layout (node_row n)

-- the bytes of a register row
abbrev pub reg_bytes : RegType → List ℕ
reg_bytes r = written reg_layout (reg_row r)

-- the bytes of a queue row
abbrev pub pair_bytes : ℕ × ℕ → List ℕ
pair_bytes q = written pair_layout (queue_row q)

-- the bytes of a block's record
abbrev pub block_bytes : Block → List ℕ
block_bytes b = written pair_layout (block_row b)

-- the bytes of an instruction's record
abbrev pub instr_bytes : Instr → List ℕ
instr_bytes i = written code_layout (instr_row i)

-- the bytes of a substitution row
abbrev pub subst_bytes : ℕ → List ℕ
subst_bytes n = written subst_layout (subst_row n)
