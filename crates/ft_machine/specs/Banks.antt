-- What instructions work on, wherever the pending stores and the words of the cells are kept.
use Rattle.std.specs.Prelude.{ℕ, List}
use Rattle.ft_isa.specs.Pending.{Pending}
use Rattle.ft_semantics.specs.State.{Registers, Cells}
use Rattle.ft_machine.specs.declared.bank.RegisterFile.{RegisterFile}
use Rattle.ft_machine.specs.Arrays.{cells_of}

-- registers, d, the store queue and cells
pub record Bank : Type 0 where
  pub registers : Registers
  pub d : ℕ
  pub queue : Pending
  pub cells : Cells

-- registers and d, with these pending stores and these cells
abbrev pub bank_with : RegisterFile → Pending → Cells → Bank
bank_with file queue cells = record { registers = file.registers; d = file.d; queue = queue; cells = cells }

-- the same with the cells of these words
abbrev pub bank_over : RegisterFile → Pending → List ℕ → Bank
bank_over file queue words = bank_with file queue (cells_of words)
