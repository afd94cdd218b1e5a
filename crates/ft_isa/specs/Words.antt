-- Words, lengths of runs, operations, addresses, and the line of an output.
use Rattle.std.specs.Prelude.{ℕ, ◌+◌, ◌-◌, ◌*◌, ◌/◌, ◌%◌, ◌^◌, ◌<◌, ◌≤◌, Bool, List, ◌++◌, decimal, codes, bit_and, bit_or, bit_xor, nat_lt, ◌==◌, if◌then◌else◌}
use Rattle.ft_isa.specs.declared.op.Op.{Op}
use Rattle.ft_isa.specs.declared.op.Op.TheVariants.{Add, Sub, Mul, Ltu, Eq, And, Or, Xor, Shl, Shr}

-- a number below 2^64
abbrev pub IsWord : ℕ → Type 0
IsWord n = n < 2 ^ 64

-- the length of a run of cells
abbrev pub IsLength : ℕ → Type 0
IsLength m = (1 ≤ m) × (m ≤ 1024)

-- 1 if a test holds, and 0 otherwise
abbrev pub word_of_test : Bool → ℕ
word_of_test b = if b then 1 else 0

-- the result of an operation on two words
unfoldable pub apply : Op → ℕ → ℕ → ℕ
apply Add a b = (a + b) % 2 ^ 64
apply Sub a b = (a + (2 ^ 64 - b)) % 2 ^ 64
apply Mul a b = a * b % 2 ^ 64
apply Ltu a b = word_of_test (nat_lt a b)
apply Eq a b = word_of_test (a == b)
apply And a b = bit_and a b
apply Or a b = bit_or a b
apply Xor a b = bit_xor a b
apply Shl a b = if nat_lt b 64 then a * 2 ^ b % 2 ^ 64 else 0
apply Shr a b = if nat_lt b 64 then a / 2 ^ b else 0

-- the code address of instruction i
abbrev pub code_address : ℕ → ℕ
code_address i = 1 + i

-- the address of cell k
abbrev pub cell_address : ℕ → ℕ
cell_address k = 1048576 + k

-- the address of the array cell that a word selects: the word modulo the length is the index in the array
abbrev pub cell_in_run : ℕ → ℕ → ℕ → ℕ
cell_in_run first m w = cell_address (first + w % m)

-- a name, a space, the value in decimal digits and a line feed
abbrev pub line : List ℕ → ℕ → List ℕ
line name value = name ++ codes " " ++ decimal value ++ codes "\n"
