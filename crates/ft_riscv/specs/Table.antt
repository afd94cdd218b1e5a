-- The instructions as a table, and the decoder that it is: an instruction is what the first row that fits spells.
use Rattle.std.specs.Prelude.{ℕ, Bool, true, ◌&&◌, ◌==◌, if◌then◌else◌, List, [], ◌∷◌, Option, Some, None}
use Rattle.ft_riscv.specs.declared.instr.Operation.TheVariants.{Add, Sub, Sll, Sltu, Xor, Srl, Or, And, Mul, Remu}
use Rattle.ft_riscv.specs.declared.instr.ImmediateOperation.TheVariants.{Addi, Sltiu, Xori, Ori, Andi, Addiw}
use Rattle.ft_riscv.specs.declared.instr.ShiftOperation.TheVariants.{Slli, Srli}
use Rattle.ft_riscv.specs.declared.instr.UpperOperation.TheVariants.{Lui, Auipc}
use Rattle.ft_riscv.specs.declared.instr.Condition.TheVariants.{Equal, NotEqual, Less, NotLess}
use Rattle.ft_riscv.specs.declared.instr.Instr.{Instr}
use Rattle.ft_riscv.specs.declared.instr.Instr.TheVariants.{Operate, OperateImmediate, ShiftBy, Upper, Load, Store, Branch, Jump, JumpRegister}
use Rattle.ft_riscv.specs.declared.table.High.{High}
use Rattle.ft_riscv.specs.declared.table.High.TheVariants.{Any, Seven, Six}
use Rattle.ft_riscv.specs.declared.table.Form.{Form}
use Rattle.ft_riscv.specs.declared.table.Form.TheVariants.{R, I, IShift, ILoad, IJump, S, B, U, J}
use Rattle.ft_riscv.specs.declared.table.Row.{Row}
use Rattle.ft_riscv.specs.Fields.{opcode, funct3, funct7, funct6, rd, rs1, rs2, value_i, value_s, value_b, value_u, value_j, amount}

abbrev pub row : ℕ → Option ℕ → High → Form → Row
row o f h k = record { opcode = o; funct3 = f; high = h; form = k }

-- opcode, funct3, the upper bits (funct7, or the six upper ones for a shift by an amount), format with operation
unfoldable pub table : List Row
table =
    row 55 None Any (U Lui)
    ∷ row 23 None Any (U Auipc)
    ∷ row 111 None Any J
    ∷ row 103 (Some 0) Any IJump
    ∷ row 99 (Some 0) Any (B Equal)
    ∷ row 99 (Some 1) Any (B NotEqual)
    ∷ row 99 (Some 6) Any (B Less)
    ∷ row 99 (Some 7) Any (B NotLess)
    ∷ row 3 (Some 3) Any ILoad
    ∷ row 35 (Some 3) Any S
    ∷ row 19 (Some 0) Any (I Addi)
    ∷ row 19 (Some 3) Any (I Sltiu)
    ∷ row 19 (Some 4) Any (I Xori)
    ∷ row 19 (Some 6) Any (I Ori)
    ∷ row 19 (Some 7) Any (I Andi)
    ∷ row 27 (Some 0) Any (I Addiw)
    ∷ row 19 (Some 1) (Six 0) (IShift Slli)
    ∷ row 19 (Some 5) (Six 0) (IShift Srli)
    ∷ row 51 (Some 0) (Seven 0) (R Add)
    ∷ row 51 (Some 0) (Seven 32) (R Sub)
    ∷ row 51 (Some 1) (Seven 0) (R Sll)
    ∷ row 51 (Some 3) (Seven 0) (R Sltu)
    ∷ row 51 (Some 4) (Seven 0) (R Xor)
    ∷ row 51 (Some 5) (Seven 0) (R Srl)
    ∷ row 51 (Some 6) (Seven 0) (R Or)
    ∷ row 51 (Some 7) (Seven 0) (R And)
    ∷ row 51 (Some 0) (Seven 1) (R Mul)
    ∷ row 51 (Some 7) (Seven 1) (R Remu)
    ∷ []

-- whether a word has this funct3, if one is wanted
abbrev pub has_funct3 : Option ℕ → ℕ → Bool
has_funct3 None w = true
has_funct3 (Some n) w = funct3 w == n

-- whether a word has these upper bits, if any are wanted
abbrev pub has_high : High → ℕ → Bool
has_high Any w = true
has_high (Seven n) w = funct7 w == n
has_high (Six n) w = funct6 w == n

-- whether a row is a word's
abbrev pub fits : Row → ℕ → Bool
fits r w = (r.opcode == opcode w) && has_funct3 r.funct3 w && has_high r.high w

-- the instruction of this form that a word spells
abbrev pub spelled : Form → ℕ → Instr
spelled (R o) w = Operate o (rd w) (rs1 w) (rs2 w)
spelled (I o) w = OperateImmediate o (rd w) (rs1 w) (value_i w)
spelled (IShift o) w = ShiftBy o (rd w) (rs1 w) (amount w)
spelled ILoad w = Load (rd w) (rs1 w) (value_i w)
spelled IJump w = JumpRegister (rd w) (rs1 w) (value_i w)
spelled S w = Store (rs1 w) (rs2 w) (value_s w)
spelled (B c) w = Branch c (rs1 w) (rs2 w) (value_b w)
spelled (U o) w = Upper o (rd w) (value_u w)
spelled J w = Jump (rd w) (value_j w)

-- the instruction that the first fitting row spells
abbrev pub first_fitting : List Row → ℕ → Option Instr
first_fitting [] w = None
first_fitting (r ∷ rs) w = if fits r w then Some (spelled r.form w) else first_fitting rs w

-- the instruction that a word stands for, if any
unfoldable pub decoded : ℕ → Option Instr
decoded w = first_fitting table w
