-- The numbers of an instruction's record, each read at its place in the record's bytes.
use Rattle.std.specs.Prelude.{ℕ, List, drop}
use Rattle.std.specs.Int.{w8, w32}
use Rattle.ft_isa.specs.declared.instr.Instr.{Instr}
use Rattle.ft_format.specs.Layout.{number_of}
use Rattle.ft_format.specs.InstrRecords.{instr_by}

-- kind, a, b, c, x, and the two halves of v
abbrev pub kind_in : List ℕ → ℕ
kind_in bytes = number_of w8 bytes

abbrev pub a_in : List ℕ → ℕ
a_in bytes = number_of w8 (drop 1 bytes)

abbrev pub b_in : List ℕ → ℕ
b_in bytes = number_of w8 (drop 2 bytes)

abbrev pub c_in : List ℕ → ℕ
c_in bytes = number_of w8 (drop 3 bytes)

abbrev pub x_in : List ℕ → ℕ
x_in bytes = number_of w32 (drop 4 bytes)

abbrev pub high_in : List ℕ → ℕ
high_in bytes = number_of w32 (drop 8 bytes)

abbrev pub low_in : List ℕ → ℕ
low_in bytes = number_of w32 (drop 12 bytes)

-- the instruction that a record encodes
abbrev pub instr_in : List ℕ → Instr
instr_in bytes = instr_by (kind_in bytes) (a_in bytes) (b_in bytes) (c_in bytes) (x_in bytes) (high_in bytes) (low_in bytes)
