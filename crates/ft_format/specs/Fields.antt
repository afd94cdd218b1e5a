-- The numbers of each record struct, as a list.
use Rattle.std.specs.Prelude.{ℕ, List, [], ◌∷◌}
use Rattle.ft_format.specs.declared.header.Header.{Header}
use Rattle.ft_format.specs.declared.rows.cell_row.CellRow.{CellRow}
use Rattle.ft_format.specs.declared.rows.code_row.CodeRow.{CodeRow}
use Rattle.ft_format.specs.declared.rows.node_row.NodeRow.{NodeRow}
use Rattle.ft_format.specs.declared.rows.type_row.TypeRow.{TypeRow}
use Rattle.ft_format.specs.declared.rows.reg_row.RegRow.{RegRow}
use Rattle.ft_format.specs.declared.rows.pair_row.PairRow.{PairRow}
use Rattle.ft_format.specs.declared.rows.subst_row.SubstRow.{SubstRow}

-- the numbers of a header, in the order of `header_layout`
abbrev pub header_numbers : Header → List ℕ
header_numbers h = h.magic ∷ h.cells ∷ h.nodes ∷ h.types ∷ h.regs ∷ h.queue ∷ h.blocks ∷ h.instrs ∷ h.substs ∷ h.names ∷ h.entry ∷ []

-- the numbers of a cell's record, in the order of `cell_layout`
abbrev pub cell_numbers : CellRow → List ℕ
cell_numbers r = r.past ∷ r.refs ∷ r.base ∷ r.code_type ∷ r.init ∷ []

-- the numbers of a node's record, in the order of `code_layout`
abbrev pub node_numbers : NodeRow → List ℕ
node_numbers r = r.kind ∷ r.op ∷ r.scope ∷ r.pad ∷ r.a ∷ r.b ∷ r.c ∷ []

-- the numbers of an instruction's record, in the order of `code_layout`
abbrev pub code_numbers : CodeRow → List ℕ
code_numbers r = r.kind ∷ r.a ∷ r.b ∷ r.c ∷ r.x ∷ r.high ∷ r.low ∷ []

-- the numbers of a type's record, in the order of `type_layout`
abbrev pub type_numbers : TypeRow → List ℕ
type_numbers r = r.regs ∷ r.queue ∷ r.memory ∷ r.ints ∷ r.pad0 ∷ r.pad1 ∷ r.pad2 ∷ []

-- the numbers of a register row, in the order of `reg_layout`
abbrev pub reg_numbers : RegRow → List ℕ
reg_numbers r = r.reg ∷ r.colour ∷ r.pad ∷ r.refs ∷ r.base ∷ r.code_type ∷ r.expr ∷ []

-- the numbers of a queue row or of a block's record, in the order of `pair_layout`
abbrev pub pair_numbers : PairRow → List ℕ
pair_numbers r = r.first ∷ r.second ∷ []

-- the number of a substitution row, as in `subst_layout`
abbrev pub subst_numbers : SubstRow → List ℕ
subst_numbers r = r.node ∷ []
