-- The record of a node: what its numbers encode, which nodes fit, which nodes a version supports, and the rules.
-- `node_row` gives the numbers.
use Rattle.std.specs.Prelude.{ℕ, ◌+◌, ◌≤◌, Bool, true, false, ◌==◌, nat_lt, nat_le, List, [], ◌∷◌, Option, None, if◌then◌else◌}
use Rattle.ft_isa.specs.Words.{IsWord}
use Rattle.ft_isa.specs.Operations.{op_of}
use Rattle.ft_static.specs.declared.node.Node.{Node}
use Rattle.ft_static.specs.declared.node.Shape.{Shape}
use Rattle.ft_static.specs.declared.node.Shape.TheVariants.{Word, Var, Op, Sel, Memory, Upd, Rem}
use Rattle.ft_types.specs.NodeRows.{joined}
use Rattle.ft_format.specs.declared.version.Version.{Version}
use Rattle.ft_format.specs.declared.object_error.ObjectError.{ObjectError}
use Rattle.ft_format.specs.declared.object_error.ObjectError.TheVariants as errors
use Rattle.ft_format.specs.Versions.{SupportsOp, last_node_kind}
use Rattle.ft_format.specs.Codes.{Is8, Is32}
use Rattle.ft_format.specs.Rules.{must, ◌next◌, zero_broken, count_broken, some_broken, op_broken, named_broken}

-- a shape, from its kind and its parts
abbrev pub shape_of : ℕ → ℕ → ℕ → ℕ → ℕ → Shape
shape_of kind op a b c =
    if kind == 0 then Word (joined b c)
    else (if kind == 1 then Var a
    else (if kind == 2 then Op (op_of op) a b
    else (if kind == 3 then Sel a b
    else (if kind == 4 then Memory
    else (if kind == 5 then Upd a b c
    else Rem a b)))))

-- a node, from its record
abbrev pub node_of : List ℕ → Node
node_of (kind ∷ op ∷ scope ∷ pad ∷ a ∷ b ∷ c ∷ []) = record { scope = scope; shape = shape_of kind op a b c }
node_of _ = record { scope = 0; shape = Memory }

-- the numbers of a shape fit their fields
abbrev pub FitsShape : Shape → Type 0
FitsShape (Word w) = IsWord w
FitsShape (Var i) = Is8 i
FitsShape (Op op a b) = Is32 a × Is32 b
FitsShape (Sel memory at) = Is32 memory × Is32 at
FitsShape Memory = Unit {0}
FitsShape (Upd memory at value) = Is32 memory × Is32 at × Is32 value
FitsShape (Rem a m) = Is32 a × Is32 m

-- the numbers of a node fit
abbrev pub FitsNode : Node → Type 0
FitsNode n = Is8 n.scope × FitsShape n.shape

-- the version supports nodes of this shape; a remainder has kind 6
abbrev pub SupportsShape : Version → Shape → Type 0
SupportsShape v (Op op a b) = SupportsOp v op
SupportsShape v (Rem a m) = 6 ≤ last_node_kind v
SupportsShape v _ = Unit {0}

-- the version supports this node
abbrev pub SupportsNode : Version → Node → Type 0
SupportsNode v n = SupportsShape v n.shape

-- the rule for the operation of a node, which only kind 2 has
abbrev pub node_op_broken : Version → ℕ → ℕ → ℕ → Option ObjectError
node_op_broken v at kind op = if kind == 2 then op_broken v at op else zero_broken at op

-- the rules for a variable: its number is below the scope
abbrev pub variable_broken : ℕ → ℕ → ℕ → ℕ → ℕ → Option ObjectError
variable_broken at scope a b c = must (nat_lt a scope) (errors.Index (at + 4)) next zero_broken (at + 8) b next zero_broken (at + 12) c

-- the rules for an operation or a word of a memory: a node of the given sort, and an integer
abbrev pub pair_broken : List Node → Bool → ℕ → ℕ → ℕ → ℕ → ℕ → Option ObjectError
pair_broken earlier memory at scope a b c =
    named_broken earlier scope memory (at + 4) a
    next named_broken earlier scope false (at + 8) b
    next zero_broken (at + 12) c

-- the rules for the memory variable
abbrev pub memory_broken : ℕ → ℕ → ℕ → ℕ → Option ObjectError
memory_broken at a b c = zero_broken (at + 4) a next zero_broken (at + 8) b next zero_broken (at + 12) c

-- the rules for a memory with another word at one address
abbrev pub upd_broken : List Node → ℕ → ℕ → ℕ → ℕ → ℕ → Option ObjectError
upd_broken earlier at scope a b c =
    named_broken earlier scope true (at + 4) a
    next named_broken earlier scope false (at + 8) b
    next named_broken earlier scope false (at + 12) c

-- the rules for the remainder of an integer divided by a length
abbrev pub rem_broken : List Node → ℕ → ℕ → ℕ → ℕ → ℕ → Option ObjectError
rem_broken earlier at scope a b c =
    named_broken earlier scope false (at + 4) a
    next some_broken 1024 (at + 8) b
    next zero_broken (at + 12) c

-- the rules for the parts a, b and c of a node, by its kind; it refers to earlier nodes only
abbrev pub parts_broken : List Node → ℕ → ℕ → ℕ → ℕ → ℕ → ℕ → Option ObjectError
parts_broken earlier at kind scope a b c =
    if kind == 0 then zero_broken (at + 4) a
    else (if kind == 1 then variable_broken at scope a b c
    else (if kind == 2 then pair_broken earlier false at scope a b c
    else (if kind == 3 then pair_broken earlier true at scope a b c
    else (if kind == 4 then memory_broken at a b c
    else (if kind == 5 then upd_broken earlier at scope a b c
    else rem_broken earlier at scope a b c)))))

-- the rules for a node, 16 bytes, after the earlier nodes
abbrev pub node_broken : Version → List Node → ℕ → List ℕ → Option ObjectError
node_broken v earlier at (kind ∷ op ∷ scope ∷ pad ∷ a ∷ b ∷ c ∷ []) =
    must (nat_le kind (last_node_kind v)) (errors.Kind at)
    next node_op_broken v (at + 1) kind op
    next count_broken 128 (at + 2) scope
    next zero_broken (at + 3) pad
    next parts_broken earlier at kind scope a b c
node_broken v earlier at _ = None
