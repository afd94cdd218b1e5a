-- The parts of a node of any kind: their sorts, a property that each of them has, the ranges of the other numbers in
-- the node, the maximum of a function over the parts, and their renaming.
use Rattle.std.specs.Prelude.{ℕ, ◌<◌, Bool, true, false, max}
use Rattle.ft_isa.specs.Words.{IsWord, IsLength}
use Rattle.ft_static.specs.declared.node.Shape.{Shape}
use Rattle.ft_static.specs.declared.node.Shape.TheVariants.{Word, Var, Op, Sel, Memory, Upd, Rem}

-- whether a node stands for a memory; the others stand for integers
abbrev pub is_memory : Shape → Bool
is_memory Memory = true
is_memory (Upd memory at value) = true
is_memory x = false

-- P holds of each part, given whether it must be a memory, and its number
abbrev pub EachPart : (Bool → ℕ → Type 0) → Shape → Type 0
EachPart P (Op op a b) = P false a × P false b
EachPart P (Sel memory at) = P true memory × P false at
EachPart P (Upd memory at value) = P true memory × P false at × P false value
EachPart P (Rem a m) = P false a
EachPart P x = Unit {0}

-- P holds of each part, and the word, variable or length in the node is in range in this scope
abbrev pub IsInRange : (Bool → ℕ → Type 0) → ℕ → Shape → Type 0
IsInRange P scope (Word w) = IsWord w
IsInRange P scope (Var i) = i < scope
IsInRange P scope (Rem a m) = P false a × IsLength m
IsInRange P scope x = EachPart P x

-- the maximum of f over the parts; 0 if there are none
abbrev pub greatest_part : (Bool → ℕ → ℕ) → Shape → ℕ
greatest_part f (Op op a b) = max (f false a) (f false b)
greatest_part f (Sel memory at) = max (f true memory) (f false at)
greatest_part f (Upd memory at value) = max (max (f true memory) (f false at)) (f false value)
greatest_part f (Rem a m) = f false a
greatest_part f x = 0

-- a node with f applied to the numbers of its parts
abbrev pub renamed : (ℕ → ℕ) → Shape → Shape
renamed f (Op op a b) = Op op (f a) (f b)
renamed f (Sel memory at) = Sel (f memory) (f at)
renamed f (Upd memory at value) = Upd (f memory) (f at) (f value)
renamed f (Rem a m) = Rem (f a) m
renamed f x = x
