-- The results of operations on words, an equation for each operation.
use Rattle.std.specs.Prelude.{ℕ, ◌+◌, ◌-◌, ◌*◌, ◌/◌, ◌%◌, ◌^◌, Bool, not, ◌==◌, nat_lt, nat_le, if◌then◌else◌, bit_and, bit_or, bit_xor}
use Rattle.ft_riscv.specs.declared.instr.Operation.{Operation}
use Rattle.ft_riscv.specs.declared.instr.Operation.TheVariants.{Add, Sub, Sll, Sltu, Xor, Srl, Or, And, Mul, Remu}
use Rattle.ft_riscv.specs.declared.instr.ImmediateOperation.{ImmediateOperation}
use Rattle.ft_riscv.specs.declared.instr.ImmediateOperation.TheVariants.{Addi, Sltiu, Xori, Ori, Andi, Addiw}
use Rattle.ft_riscv.specs.declared.instr.ShiftOperation.{ShiftOperation}
use Rattle.ft_riscv.specs.declared.instr.ShiftOperation.TheVariants.{Slli, Srli}
use Rattle.ft_riscv.specs.declared.instr.UpperOperation.{UpperOperation}
use Rattle.ft_riscv.specs.declared.instr.UpperOperation.TheVariants.{Lui, Auipc}
use Rattle.ft_riscv.specs.declared.instr.Condition.{Condition}
use Rattle.ft_riscv.specs.declared.instr.Condition.TheVariants.{Equal, NotEqual, Less, NotLess}
use Rattle.ft_riscv.specs.Fields.{extended}

-- 1 if a test holds, and 0 otherwise
abbrev pub word_of_test : Bool → ℕ
word_of_test b = if b then 1 else 0

-- the sum of two words
abbrev pub sum : ℕ → ℕ → ℕ
sum a b = (a + b) % 2 ^ 64

-- an operation on two words
unfoldable pub result_of : Operation → ℕ → ℕ → ℕ
result_of Add a b = sum a b
result_of Sub a b = (a + (2 ^ 64 - b)) % 2 ^ 64
result_of Sll a b = a * 2 ^ (b % 64) % 2 ^ 64
result_of Sltu a b = word_of_test (nat_lt a b)
result_of Xor a b = bit_xor a b
result_of Srl a b = a / 2 ^ (b % 64)
result_of Or a b = bit_or a b
result_of And a b = bit_and a b
result_of Mul a b = a * b % 2 ^ 64
result_of Remu a b = if b == 0 then a else a % b

-- an operation on a word and the value of the instruction
unfoldable pub immediate_result : ImmediateOperation → ℕ → ℕ → ℕ
immediate_result Addi a v = sum a v
immediate_result Sltiu a v = word_of_test (nat_lt a v)
immediate_result Xori a v = bit_xor a v
immediate_result Ori a v = bit_or a v
immediate_result Andi a v = bit_and a v
immediate_result Addiw a v = extended (2 ^ 31) (sum a v % 2 ^ 32)

-- a shift by the amount of the instruction
unfoldable pub shift_result : ShiftOperation → ℕ → ℕ → ℕ
shift_result Slli a n = a * 2 ^ (n % 64) % 2 ^ 64
shift_result Srli a n = a / 2 ^ (n % 64)

-- an upper value, by itself or added to the instruction's address
unfoldable pub upper_result : UpperOperation → ℕ → ℕ → ℕ
upper_result Lui pc v = v
upper_result Auipc pc v = sum pc v

-- whether a branch is taken
unfoldable pub holds : Condition → ℕ → ℕ → Bool
holds Equal a b = a == b
holds NotEqual a b = not (a == b)
holds Less a b = nat_lt a b
holds NotLess a b = nat_le b a
