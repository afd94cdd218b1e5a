-- The program counters: their sites, their words, and the instructions that add one to both.
use Rattle.std.specs.Prelude.{ℕ, Bool, true, false, ◌==◌, not}
use Rattle.ft_isa.specs.declared.instr.Instr.{Instr}
use Rattle.ft_isa.specs.declared.instr.Instr.TheVariants.{JmpB, BzB, Halt}
use Rattle.ft_isa.specs.declared.plan.Site.{Site}
use Rattle.ft_isa.specs.declared.plan.Site.TheVariants.{PcG, PcB}
use Rattle.ft_semantics.specs.State.{State, word}

-- whether a site is a counter
abbrev pub is_counter : Site → Bool
is_counter PcG = true
is_counter PcB = true
is_counter x = false

-- the word of a counter
abbrev pub counter_of : Site → State → ℕ
counter_of PcB s = s.pc_blue
counter_of x s = s.pc_green

-- whether an instruction adds one to both counters, unless a fault is detected: it neither transfers control nor halts
abbrev pub adds_one : Instr → State → Bool
adds_one (JmpB rd subst) s = false
adds_one (BzB rz rd subst) s = not (word s rz == 0)
adds_one Halt s = false
adds_one i s = true
