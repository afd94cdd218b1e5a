-- The code's notes as plain data. Private to the code.
use Rattle.std.specs.Prelude.{ℕ, ◌+◌, ◌*◌, ◌≤◌, ◌≡◌, length}
use Rattle.ft_compile.specs.declared.notes.Notes.{Notes}
use Rattle.ft_compile.specs.Noted.{Noted}

-- the notes so far
abbrev pub noted_of : Notes → Noted
noted_of n = record { nodes = n.nodes.items; rows = n.rows.items; substs = n.substs.items; pairs = n.pairs; memory = n.memory }

-- there is room for the nodes and rows of this many instructions, and there are 32 pairs
pub record HasRoom (w : Noted) (instrs : ℕ) : Type 0 where
  pub nodes : length w.nodes + instrs ≤ 1048576
  pub rows : length w.rows + 8 * instrs ≤ 1048576
  pub pairs : length w.pairs ≡ 32
