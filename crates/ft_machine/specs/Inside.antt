-- The state without pending stores and cells that a processor's fields represent.
use Rattle.std.specs.Prelude.{◌≡◌}
use Rattle.ft_machine.specs.declared.processor.Processor.TheInside.{Inside}
use Rattle.ft_machine.specs.Processors.{ProcessorState}

-- what the fields hold
abbrev pub processor_of : Inside → ProcessorState
processor_of p = record {
  registers = p.file.registers;
  d = p.file.d;
  pc_green = p.pc_green;
  pc_blue = p.pc_blue;
  fetched = p.fetched;
  status = p.status;
}

-- two states agree in all but their registers, queue and cells
pub record Stands (s t : ProcessorState) : Type 0 where
  pub d : s.d ≡ t.d
  pub pc_green : s.pc_green ≡ t.pc_green
  pub pc_blue : s.pc_blue ≡ t.pc_blue
  pub status : s.status ≡ t.status
  pub fetched : s.fetched ≡ t.fetched
