-- The registers that instructions read and write, one by one: private to the code.
use Rattle.std.specs.Prelude.{ℕ, Bool, false, Option, Some, None}
pub use Rattle.ft_isa.specs.Instructions.{number_of, first_read, second_read}
use Rattle.ft_isa.specs.declared.instr.Instr.{Instr}
use Rattle.ft_exchange.specs.Exchange.{written, is_register, touches}

-- whether an instruction writes a register, if one is given
abbrev pub writes : Option ℕ → Instr → Bool
writes None i = false
writes (Some r) i = is_register (written i) r

-- whether an instruction reads or writes a register, if one is given
abbrev pub meets : Option ℕ → Instr → Bool
meets None i = false
meets (Some r) i = touches i r
