-- Properties of instructions: which are fixed, which are leading, which registers each reads and writes, and which are
-- green or blue stores. Other crates use these definitions.
use Rattle.std.specs.Prelude.{ℕ, Bool, true, false, ◌||◌, ◌==◌, nat_lt, Option, Some, None}
use Rattle.ft_isa.specs.declared.colour.Colour.{Colour}
use Rattle.ft_isa.specs.declared.colour.Colour.TheVariants.{Green, Blue}
use Rattle.ft_isa.specs.declared.reg.Reg.{Reg}
use Rattle.ft_isa.specs.declared.instr.Instr.{Instr}
use Rattle.ft_isa.specs.declared.instr.Instr.TheVariants.{OpReg, OpWord, Mov, Ld, St, JmpG, JmpB, BzG, BzB, Halt, Idx}

-- LEADING AND TRAILING

-- whether an instruction is fixed: a jump, a branch or `halt`
abbrev pub is_fixed : Instr → Bool
is_fixed (JmpG rd) = true
is_fixed (JmpB rd subst) = true
is_fixed (BzG rz rd) = true
is_fixed (BzB rz rd subst) = true
is_fixed Halt = true
is_fixed i = false

abbrev pub is_green : Colour → Bool
is_green Green = true
is_green Blue = false

-- whether an instruction is leading: a move, a load, a store or an operation with a word, if its colour is green; and
-- an operation on two registers, or an `idx`, if rs is below r32
abbrev pub is_leading : Instr → Bool
is_leading (OpReg op rd rs rt) = nat_lt rs.number 32
is_leading (OpWord op rd rs value) = is_green value.colour
is_leading (Mov rd basic value) = is_green value.colour
is_leading (Ld colour rd rs) = is_green colour
is_leading (St colour rd rs) = is_green colour
is_leading (Idx rd rs first m) = nat_lt rs.number 32
is_leading i = false

-- REGISTERS READ AND WRITTEN

-- the number of a register, if one is given
abbrev pub number_of : Option Reg → Option ℕ
number_of None = None
number_of (Some r) = Some r.number

-- the register that an instruction writes, if any
abbrev pub written : Instr → Option ℕ
written (OpReg op rd rs rt) = Some rd.number
written (OpWord op rd rs value) = Some rd.number
written (Mov rd basic value) = Some rd.number
written (Ld colour rd rs) = Some rd.number
written (Idx rd rs first m) = Some rd.number
written i = None

-- the first register that an instruction reads, if any
abbrev pub first_read : Instr → Option ℕ
first_read (OpReg op rd rs rt) = Some rs.number
first_read (OpWord op rd rs value) = Some rs.number
first_read (Ld colour rd rs) = Some rs.number
first_read (St colour rd rs) = Some rd.number
first_read (JmpG rd) = Some rd.number
first_read (JmpB rd subst) = Some rd.number
first_read (BzG rz rd) = Some rz.number
first_read (BzB rz rd subst) = Some rz.number
first_read (Idx rd rs first m) = Some rs.number
first_read i = None

-- the second register that an instruction reads, if any
abbrev pub second_read : Instr → Option ℕ
second_read (OpReg op rd rs rt) = Some rt.number
second_read (St colour rd rs) = Some rs.number
second_read (BzG rz rd) = Some rd.number
second_read (BzB rz rd subst) = Some rd.number
second_read i = None

-- whether a register is given and is register r
abbrev pub is_register : Option ℕ → ℕ → Bool
is_register None r = false
is_register (Some q) r = q == r

-- whether register r is one of two registers, each of which may be absent
abbrev pub is_one_of : Option ℕ → Option ℕ → ℕ → Bool
is_one_of (Some p) (Some q) r = (p == r) || (q == r)
is_one_of p None r = is_register p r
is_one_of None q r = is_register q r

-- whether an instruction reads register r
abbrev pub reads : Instr → ℕ → Bool
reads i r = is_one_of (first_read i) (second_read i) r

-- STORES

abbrev pub is_green_store : Instr → Bool
is_green_store (St Green rd rs) = true
is_green_store i = false

abbrev pub is_blue_store : Instr → Bool
is_blue_store (St Blue rd rs) = true
is_blue_store i = false
