-- The operations as a table: the code of each in records, and its word in assembly texts.
use Rattle.std.specs.Prelude.{ℕ, ◌==◌, if◌then◌else◌, List, codes, Option, Some, None}
use Rattle.std.specs.Str.{bytes_eq}
use Rattle.ft_isa.specs.declared.op.Op.{Op}
use Rattle.ft_isa.specs.declared.op.Op.TheVariants.{Add, Sub, Mul, Ltu, Eq, And, Or, Xor, Shl, Shr}

-- the code of an operation
abbrev pub op_code : Op → ℕ
op_code Add = 0
op_code Sub = 1
op_code Mul = 2
op_code Ltu = 3
op_code Eq = 4
op_code And = 5
op_code Or = 6
op_code Xor = 7
op_code Shl = 8
op_code Shr = 9

-- the largest code
abbrev pub last_op_code : ℕ
last_op_code = 9

-- the operation with this code
abbrev pub op_of : ℕ → Op
op_of n =
    if n == 0 then Add
    else (if n == 1 then Sub
    else (if n == 2 then Mul
    else (if n == 3 then Ltu
    else (if n == 4 then Eq
    else (if n == 5 then And
    else (if n == 6 then Or
    else (if n == 7 then Xor
    else (if n == 8 then Shl
    else Shr))))))))

-- the word of an operation
abbrev pub op_word : Op → List ℕ
op_word Add = codes "add"
op_word Sub = codes "sub"
op_word Mul = codes "mul"
op_word Ltu = codes "ltu"
op_word Eq = codes "eq"
op_word And = codes "and"
op_word Or = codes "or"
op_word Xor = codes "xor"
op_word Shl = codes "shl"
op_word Shr = codes "shr"

-- the operation that a word names, if any
unfoldable pub op_in : List ℕ → Option Op
op_in word =
    if bytes_eq word (codes "add") then Some Add
    else (if bytes_eq word (codes "sub") then Some Sub
    else (if bytes_eq word (codes "mul") then Some Mul
    else (if bytes_eq word (codes "ltu") then Some Ltu
    else (if bytes_eq word (codes "eq") then Some Eq
    else (if bytes_eq word (codes "and") then Some And
    else (if bytes_eq word (codes "or") then Some Or
    else (if bytes_eq word (codes "xor") then Some Xor
    else (if bytes_eq word (codes "shl") then Some Shl
    else (if bytes_eq word (codes "shr") then Some Shr
    else None)))))))))
