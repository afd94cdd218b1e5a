-- Instructions whose run of cells is not empty.
use Rattle.std.specs.Prelude.{◌<◌}
use Rattle.ft_isa.specs.declared.instr.Instr.{Instr}
use Rattle.ft_isa.specs.declared.instr.Instr.TheVariants.{Idx}

-- the run of cells of an instruction, if it has one, is not empty; the machine executes only such instructions: private
-- to the crate
abbrev pub HasNoEmptyRun : Instr → Type 0
HasNoEmptyRun (Idx rd rs first m) = 0 < m
HasNoEmptyRun other = Unit {0}
