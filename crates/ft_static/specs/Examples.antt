-- Abbreviations for the expressions in the examples.
use Rattle.std.specs.Prelude.{ℕ, zero, suc, ◌+◌, List, [], ◌∷◌}
use Rattle.ft_isa.specs.declared.op.Op.TheVariants.{Add, Sub, Mul, Ltu, Eq, And, Or, Xor, Shl, Shr}
use Rattle.ft_static.specs.declared.node.Node.{Node}
use Rattle.ft_static.specs.declared.node.Shape.TheVariants as shape
use Rattle.ft_static.specs.Expression.{Integer, Memory, word, variable, operation, memory_variable, upd}

-- two variables
abbrev pub x : Integer
x = variable 0

abbrev pub y : Integer
y = variable 1

-- a variable that comes after 64 others
abbrev pub z : Integer
z = variable 64

abbrev pub add : Integer → Integer → Integer
add a b = operation Add a b

abbrev pub sub : Integer → Integer → Integer
sub a b = operation Sub a b

abbrev pub mul : Integer → Integer → Integer
mul a b = operation Mul a b

abbrev pub ltu : Integer → Integer → Integer
ltu a b = operation Ltu a b

abbrev pub eq : Integer → Integer → Integer
eq a b = operation Eq a b

abbrev pub and : Integer → Integer → Integer
and a b = operation And a b

abbrev pub or : Integer → Integer → Integer
or a b = operation Or a b

abbrev pub xor : Integer → Integer → Integer
xor a b = operation Xor a b

abbrev pub shl : Integer → Integer → Integer
shl a b = operation Shl a b

abbrev pub shr : Integer → Integer → Integer
shr a b = operation Shr a b

-- the sum of the variables i to i + n, from left to right
abbrev pub sum_up : ℕ → ℕ → Integer
sum_up i zero = variable i
sum_up i (suc n) = add (sum_up i n) (variable (i + suc n))

-- the same sum, from right to left
abbrev pub sum_down : ℕ → ℕ → Integer
sum_down i zero = variable i
sum_down i (suc n) = add (variable (i + suc n)) (sum_down i n)

-- the word 7 at the address x
abbrev pub at_x : Memory
at_x = upd memory_variable x (word 7)

-- the same, and then 8 at the address x + 1
abbrev pub past_x : Memory
past_x = upd at_x (add x (word 1)) (word 8)

-- the word 7 at the address x, and then 8 at the address y
abbrev pub then_y : Memory
then_y = upd at_x y (word 8)

-- the memory variable, an integer variable, the word 5, the sum of the variable and the word, and the word of the
-- memory at that sum
abbrev pub nodes : List Node
nodes = record { scope = 0; shape = shape.Memory } ∷ record { scope = 1; shape = shape.Var 0 } ∷ record { scope = 0; shape = shape.Word 5 } ∷ record { scope = 1; shape = shape.Op Add 1 2 } ∷ record { scope = 1; shape = shape.Sel 0 3 } ∷ []
