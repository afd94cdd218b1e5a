-- What each instruction does to a hart: one equation for each form of the table.
use Rattle.std.specs.Prelude.{ℕ, ◌-◌, ◌%◌, Bool, true, false, ◌==◌, if◌then◌else◌, List, Option, Some, None, slice_index_or, slice_set}
use Rattle.ft_riscv.specs.declared.reg.Reg.{Reg}
use Rattle.ft_riscv.specs.declared.instr.Instr.{Instr}
use Rattle.ft_riscv.specs.declared.instr.Instr.TheVariants.{Operate, OperateImmediate, ShiftBy, Upper, Load, Store, Branch, Jump, JumpRegister}
use Rattle.ft_riscv.specs.declared.hart.Hart.{Hart}
use Rattle.ft_riscv.specs.declared.hart.Effect.{Effect}
use Rattle.ft_riscv.specs.declared.hart.Effect.TheVariants.{Nothing, Stores, Traps}
use Rattle.ft_riscv.specs.Results.{sum, result_of, immediate_result, shift_result, upper_result, holds}
use Rattle.ft_riscv.specs.Table.{decoded}
use Rattle.ft_riscv.specs.Memory.{code_at, word_at, with_word}

-- the word of a register: x0 reads as 0
abbrev pub register : Hart → Reg → ℕ
register h r = if r.number == 0 then 0 else slice_index_or h.registers (r.number - 1) 0

-- a register gets a word: x0 gets none
abbrev pub with_register : Reg → ℕ → Hart → Hart
with_register r v h = if r.number == 0 then h else record h { registers = slice_set h.registers (r.number - 1) v }

-- the hart after an instruction, and what else the instruction does
pub record Stepping : Type 0 where
  pub hart : Hart
  pub effect : Effect

abbrev pub stepping : Hart → Effect → Stepping
stepping h e = record { hart = h; effect = e }

-- an instruction that only changes the hart
abbrev pub quiet : Hart → Stepping
quiet h = stepping h Nothing

-- an instruction that traps changes nothing
abbrev pub traps : Hart → Stepping
traps h = stepping h Traps

-- the address of the next instruction
abbrev pub next : ℕ → ℕ
next pc = sum pc 4

-- the next instruction follows
abbrev pub goes_on : Hart → Hart
goes_on h = record h { pc = next h.pc }

-- the next instruction is at an address
abbrev pub jumps : ℕ → Hart → Hart
jumps a h = record h { pc = a }

-- a register is written, and the next instruction follows
abbrev pub writes : Reg → ℕ → Hart → Stepping
writes rd v h = quiet (goes_on (with_register rd v h))

-- whether an instruction may be at an address: without the extension C, only at a multiple of 4
abbrev pub is_aligned : ℕ → Bool
is_aligned a = a % 4 == 0

-- the address after this instruction is written, and the next instruction is at an address: at a misaligned one, a trap
abbrev pub links : Reg → ℕ → Hart → Stepping
links rd a h = if is_aligned a then quiet (jumps a (with_register rd (next h.pc) h)) else traps h

-- a load of what memory has at its address: nothing there, a trap
abbrev pub load : Reg → Option ℕ → Hart → Stepping
load rd (Some v) h = writes rd v h
load rd None h = traps h

-- a store to an address at which memory has a word: nothing there, a trap
abbrev pub store : ℕ → ℕ → Option ℕ → Hart → Stepping
store a v (Some before) h = stepping (goes_on h) (Stores a v)
store a v None h = traps h

-- the next instruction is at the target of a branch that is taken: at a misaligned one, a trap
abbrev pub lands : ℕ → Hart → Stepping
lands a h = if is_aligned a then quiet (jumps a h) else traps h

-- a branch that is taken, or is not: then its target does not matter
abbrev pub branch : Bool → ℕ → Hart → Stepping
branch taken offset h = if taken then lands (sum h.pc offset) h else quiet (goes_on h)

-- an address without its lowest bit
abbrev pub even : ℕ → ℕ
even a = a - a % 2

-- what an instruction does, by a function that gives memory's word at an address, if there is one
abbrev pub execute : Instr → (ℕ → Option ℕ) → Hart → Stepping
execute (Operate o rd rs1 rs2) memory h = writes rd (result_of o (register h rs1) (register h rs2)) h
execute (OperateImmediate o rd rs1 v) memory h = writes rd (immediate_result o (register h rs1) v) h
execute (ShiftBy o rd rs1 n) memory h = writes rd (shift_result o (register h rs1) n) h
execute (Upper o rd v) memory h = writes rd (upper_result o h.pc v) h
execute (Load rd rs1 offset) memory h = load rd (memory (sum (register h rs1) offset)) h
execute (Store rs1 rs2 offset) memory h =
    store (sum (register h rs1) offset) (register h rs2) (memory (sum (register h rs1) offset)) h
execute (Branch c rs1 rs2 offset) memory h = branch (holds c (register h rs1) (register h rs2)) offset h
execute (Jump rd offset) memory h = links rd (sum h.pc offset) h
execute (JumpRegister rd rs1 offset) memory h = links rd (even (sum (register h rs1) offset)) h

-- what an instruction does, if there is one
abbrev pub attempt : Option Instr → (ℕ → Option ℕ) → Hart → Stepping
attempt None memory h = traps h
attempt (Some i) memory h = execute i memory h

-- the instruction that a word stands for, if there is a word
abbrev pub instr_in : Option ℕ → Option Instr
instr_in None = None
instr_in (Some w) = decoded w

-- one step: code and memory are rows of words that begin at addresses
unfoldable pub step : ℕ → List ℕ → ℕ → List ℕ → Hart → Stepping
step start code base words h = attempt (instr_in (code_at start code h.pc)) (word_at base words) h

-- memory after an instruction
abbrev pub stored : ℕ → List ℕ → Effect → List ℕ
stored base words (Stores a v) = with_word base words a v
stored base words Nothing = words
stored base words Traps = words

-- whether an instruction did not trap
abbrev pub went : Effect → Bool
went Traps = false
went e = true
