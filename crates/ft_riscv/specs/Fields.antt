-- The fields of a 32-bit word that stands for an instruction, and the values that the formats spell.
use Rattle.std.specs.Prelude.{ℕ, ◌+◌, ◌-◌, ◌*◌, ◌/◌, ◌%◌, ◌^◌, nat_lt, if◌then◌else◌}
use Rattle.std.proofs.Math.Nat.{mod-lt}
use Rattle.std.proofs.Common.{lit<}
use Rattle.ft_riscv.specs.declared.reg.Reg.{Reg}

-- bits 6 to 0
abbrev pub opcode : ℕ → ℕ
opcode w = w % 2 ^ 7

-- bits 14 to 12
abbrev pub funct3 : ℕ → ℕ
funct3 w = w / 2 ^ 12 % 2 ^ 3

-- bits 31 to 25
abbrev pub funct7 : ℕ → ℕ
funct7 w = w / 2 ^ 25

-- bits 31 to 26
abbrev pub funct6 : ℕ → ℕ
funct6 w = w / 2 ^ 26

-- the register whose number is this one modulo 32
abbrev pub reg_of : ℕ → Reg
reg_of n = record { number = n % 32; in_range = mod-lt n (lit< tt) }

-- bits 11 to 7
abbrev pub rd : ℕ → Reg
rd w = reg_of (w / 2 ^ 7)

-- bits 19 to 15
abbrev pub rs1 : ℕ → Reg
rs1 w = reg_of (w / 2 ^ 15)

-- bits 24 to 20
abbrev pub rs2 : ℕ → Reg
rs2 w = reg_of (w / 2 ^ 20)

-- the word with these bits, of which the one with the weight `sign` is the sign
unfoldable pub extended : ℕ → ℕ → ℕ
extended sign bits = if nat_lt bits sign then bits else (bits + (2 ^ 64 - 2 * sign)) % 2 ^ 64

-- the I format: bits 31 to 20
abbrev pub value_i : ℕ → ℕ
value_i w = extended (2 ^ 11) (w / 2 ^ 20)

-- the S format: bits 31 to 25, then 11 to 7
abbrev pub value_s : ℕ → ℕ
value_s w = extended (2 ^ 11) (w / 2 ^ 25 * 2 ^ 5 + w / 2 ^ 7 % 2 ^ 5)

-- the B format, in steps of 2: bit 31, then bit 7, bits 30 to 25 and bits 11 to 8
abbrev pub value_b : ℕ → ℕ
value_b w =
    extended (2 ^ 12)
    (w / 2 ^ 31 * 2 ^ 12 + w / 2 ^ 7 % 2 * 2 ^ 11 + (w / 2 ^ 25 % 2 ^ 6 * 2 ^ 5 + w / 2 ^ 8 % 2 ^ 4 * 2))

-- the U format, in steps of 2^12: bits 31 to 12
abbrev pub value_u : ℕ → ℕ
value_u w = extended (2 ^ 31) (w / 2 ^ 12 * 2 ^ 12)

-- the J format, in steps of 2: bit 31, then bits 19 to 12, bit 20 and bits 30 to 21
abbrev pub value_j : ℕ → ℕ
value_j w =
    extended (2 ^ 20)
    (w / 2 ^ 31 * 2 ^ 20 + w / 2 ^ 12 % 2 ^ 8 * 2 ^ 12 + (w / 2 ^ 20 % 2 * 2 ^ 11 + w / 2 ^ 21 % 2 ^ 10 * 2))

-- the amount of a shift: bits 25 to 20
abbrev pub amount : ℕ → ℕ
amount w = w / 2 ^ 20 % 2 ^ 6
