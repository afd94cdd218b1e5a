-- States without their pending stores and cells.
use Rattle.std.specs.Prelude.{ℕ, List, Option}
use Rattle.ft_isa.specs.Pending.{Pending}
use Rattle.ft_isa.specs.declared.instr.Instr.{Instr}
use Rattle.ft_semantics.specs.declared.status.Status.{Status}
use Rattle.ft_semantics.specs.State.{State, Registers, Cells}
use Rattle.ft_machine.specs.Arrays.{cells_of}

-- a state without its pending stores and cells
pub record ProcessorState : Type 0 where
  pub registers : Registers
  pub d : ℕ
  pub pc_green : ℕ
  pub pc_blue : ℕ
  pub fetched : Option Instr
  pub status : Status

-- the state with these pending stores and these cells
abbrev pub state_with : ProcessorState → Pending → Cells → State
state_with p queue cells = record {
  registers = p.registers;
  d = p.d;
  pc_green = p.pc_green;
  pc_blue = p.pc_blue;
  queue = queue;
  cells = cells;
  fetched = p.fetched;
  status = p.status;
}

-- the state with these pending stores and the cells of these words
abbrev pub state_over : ProcessorState → Pending → List ℕ → State
state_over p queue words = state_with p queue (cells_of words)
