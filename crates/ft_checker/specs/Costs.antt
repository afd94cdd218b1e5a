-- A bound on the steps of a check.
use Rattle.std.specs.Prelude.{ℕ, ◌+◌, ◌*◌, List, [], ◌∷◌, length}
use Rattle.ft_isa.specs.declared.instr.Instr.{Instr}
use Rattle.ft_isa.specs.declared.instr.Instr.TheVariants.{JmpB, BzB}
use Rattle.ft_types.specs.declared.object.Object.{Object}

-- 1 for a blue jump or branch, else 0
abbrev pub transfers : Instr → ℕ
transfers (JmpB rd subst) = 1
transfers (BzB rz rd subst) = 1
transfers i = 0

-- how many blue jumps and branches there are
abbrev pub transfer_count : List Instr → ℕ
transfer_count [] = 0
transfer_count (i ∷ is) = transfers i + transfer_count is

-- a bound on the nodes handled: for each block and each blue jump or branch, the nodes of 210 expressions, which are
-- 128 substitution rows and their memory, 64 registers, 16 expressions in the queue, and one more memory
abbrev pub most_visits : Object → ℕ
most_visits o = 210 * length o.nodes * (length o.blocks + transfer_count o.instrs)

-- a bound on the updates of a memory
abbrev pub most_updates : Object → ℕ
most_updates o = 2 * length o.nodes + length o.instrs + 8

-- a bound on the steps of a check
abbrev pub check_cost : Object → ℕ
check_cost o = (most_visits o + 9 * length o.instrs) * (1 + most_updates o)

-- a bound on the steps for the nodes of one block's start, or of one blue jump or branch
unfoldable pub visit_cost : Object → ℕ
visit_cost o = 210 * length o.nodes * (1 + most_updates o)

-- a bound on the steps for an instruction apart from its nodes
unfoldable pub walk_cost : Object → ℕ
walk_cost o = 9 * (1 + most_updates o)

-- a bound on the steps for instructions
unfoldable pub instrs_cost : Object → List Instr → ℕ
instrs_cost o [] = 0
instrs_cost o (i ∷ is) = transfers i * visit_cost o + walk_cost o + instrs_cost o is
