-- The rules for fields, and for all records except those of nodes and instructions. A broken rule gives an error with
-- its place, and only the first one counts.
use Rattle.std.specs.Prelude.{ℕ, ◌+◌, Bool, true, false, not, ◌==◌, nat_lt, nat_le, List, [], ◌∷◌, length, Option, Some, None, if◌then◌else◌, slice_get}
use Rattle.ft_static.specs.declared.node.Node.{Node}
use Rattle.ft_static.specs.NodeParts.{is_memory}
use Rattle.ft_format.specs.declared.version.Version.{Version}
use Rattle.ft_format.specs.declared.object_error.ObjectError.{ObjectError}
use Rattle.ft_format.specs.declared.object_error.ObjectError.TheVariants as errors
use Rattle.ft_format.specs.declared.header.Header.{Header}
use Rattle.ft_format.specs.Versions.{is_magic, version_of, last_op, longest_name, most_name_bytes}

-- nothing if the test holds, else the error
abbrev pub must : Bool → ObjectError → Option ObjectError
must true e = None
must false e = Some e

infixr 5 ◌next◌
-- the result of the first rules, or of the next ones if the first are unbroken
abbrev pub ◌next◌ : Option ObjectError → Option ObjectError → Option ObjectError
None next rules = rules
(Some e) next rules = Some e

-- the rule that a field is 0
abbrev pub zero_broken : ℕ → ℕ → Option ObjectError
zero_broken at n = must (n == 0) (errors.Pad at)

-- the rule that a count is at most `most`
abbrev pub count_broken : ℕ → ℕ → ℕ → Option ObjectError
count_broken most at n = must (nat_le n most) (errors.Count at)

-- the rules that a count is at least 1 and at most `most`
abbrev pub some_broken : ℕ → ℕ → ℕ → Option ObjectError
some_broken most at n = must (nat_le 1 n) (errors.Count at) next count_broken most at n

-- the rules for the header, 48 bytes
abbrev pub header_broken : Header → Option ObjectError
header_broken h =
    must (is_magic h.magic) (errors.Magic 0)
    next count_broken 1024 8 h.cells
    next count_broken 1048576 12 h.nodes
    next some_broken 4096 16 h.types
    next count_broken 262144 20 h.regs
    next count_broken 32768 24 h.queue
    next some_broken 65536 28 h.blocks
    next some_broken 65536 32 h.instrs
    next count_broken 1048576 36 h.substs
    next count_broken (most_name_bytes (version_of h)) 40 h.names
    next must (nat_lt h.entry h.blocks) (errors.Entry 44)

-- the rule for the code of a colour
abbrev pub colour_broken : ℕ → ℕ → Option ObjectError
colour_broken at n = must (nat_le n 1) (errors.Kind at)

-- the rule for the code of an operation
abbrev pub op_broken : Version → ℕ → ℕ → Option ObjectError
op_broken v at n = must (nat_le n (last_op v)) (errors.Kind at)

-- the rule for the number of a register
abbrev pub register_broken : ℕ → ℕ → Option ObjectError
register_broken at n = must (nat_lt n 64) (errors.Index at)

-- the rule for the code type of a basic type: zero for `int`, an existing one for `code`
abbrev pub code_type_broken : ℕ → ℕ → ℕ → ℕ → Option ObjectError
code_type_broken types at base n = if base == 0 then zero_broken at n else must (nat_lt n types) (errors.Index at)

-- the rules for a basic type, 4 bytes
abbrev pub basic_broken : ℕ → ℕ → ℕ → ℕ → ℕ → Option ObjectError
basic_broken types at refs base code_type =
    must (nat_le refs 8) (errors.Kind at)
    next must (nat_le base 1) (errors.Kind (at + 1))
    next code_type_broken types (at + 2) base code_type

-- the rules for a cell, 16 bytes, after a cell whose name ends at `start`
abbrev pub cell_broken : Header → ℕ → ℕ → List ℕ → Option ObjectError
cell_broken h start at (past ∷ refs ∷ base ∷ code_type ∷ init ∷ []) =
    must (nat_lt start past) (errors.Order at)
    next must (nat_le past h.names) (errors.Order at)
    next must (nat_le past (start + longest_name (version_of h))) (errors.Name at)
    next basic_broken h.types (at + 4) refs base code_type
cell_broken h start at _ = None

-- whether the node exists and has the given sort, integer or memory
abbrev pub is_of_sort : Bool → Option Node → Bool
is_of_sort memory None = false
is_of_sort memory (Some n) = if memory then is_memory n.shape else not (is_memory n.shape)

-- whether the node exists and its scope is at most this
abbrev pub is_within : ℕ → Option Node → Bool
is_within scope None = false
is_within scope (Some n) = nat_le n.scope scope

-- the rules for the number of a node of the given sort
abbrev pub node_number_broken : List Node → Bool → ℕ → ℕ → Option ObjectError
node_number_broken nodes memory at n =
    must (nat_lt n (length nodes)) (errors.Index at)
    next must (is_of_sort memory (slice_get nodes n)) (errors.Kind at)

-- the rules for the number of a node of the given sort, within a scope
abbrev pub named_broken : List Node → ℕ → Bool → ℕ → ℕ → Option ObjectError
named_broken nodes scope memory at n =
    node_number_broken nodes memory at n
    next must (is_within scope (slice_get nodes n)) (errors.Index at)

-- the rules for a type, 16 bytes, after types whose register rows and queue rows end at `regs` and `queue`
abbrev pub type_broken : Header → List Node → ℕ → ℕ → ℕ → List ℕ → Option ObjectError
type_broken h nodes regs queue at (regs_end ∷ queue_end ∷ memory ∷ ints ∷ pad0 ∷ pad1 ∷ pad2 ∷ []) =
    must (nat_le regs regs_end) (errors.Order at)
    next must (nat_le regs_end h.regs) (errors.Order at)
    next must (nat_le queue queue_end) (errors.Order (at + 4))
    next must (nat_le queue_end h.queue) (errors.Order (at + 4))
    next must (nat_le queue_end (queue + 8)) (errors.Count (at + 4))
    next named_broken nodes ints true (at + 8) memory
    next count_broken 128 (at + 12) ints
    next zero_broken (at + 13) pad0
    next zero_broken (at + 13) pad1
    next zero_broken (at + 13) pad2
type_broken h nodes regs queue at _ = None

-- the rules for a register row, 12 bytes, of a type with this many variables; its register is at least `least`
abbrev pub reg_broken : ℕ → List Node → ℕ → ℕ → ℕ → List ℕ → Option ObjectError
reg_broken types nodes ints least at (reg ∷ colour ∷ pad ∷ refs ∷ base ∷ code_type ∷ expr ∷ []) =
    register_broken at reg
    next must (nat_le least reg) (errors.Order at)
    next colour_broken (at + 1) colour
    next zero_broken (at + 2) pad
    next basic_broken types (at + 4) refs base code_type
    next named_broken nodes ints false (at + 8) expr
reg_broken types nodes ints least at _ = None

-- the rules for a queue row, 8 bytes, of a type with this many variables
abbrev pub queue_broken : List Node → ℕ → ℕ → List ℕ → Option ObjectError
queue_broken nodes ints at (address ∷ value ∷ []) =
    named_broken nodes ints false at address
    next named_broken nodes ints false (at + 4) value
queue_broken nodes ints at _ = None

-- whether a block may begin here, given where the previous block begins
abbrev pub may_begin : Option ℕ → ℕ → Bool
may_begin None start = start == 0
may_begin (Some previous) start = nat_lt previous start

-- the rules for a block, 8 bytes
abbrev pub block_broken : Header → Option ℕ → ℕ → List ℕ → Option ObjectError
block_broken h previous at (start ∷ code_type ∷ []) =
    must (may_begin previous start) (errors.Order at)
    next must (nat_lt start h.instrs) (errors.Order at)
    next must (nat_lt code_type h.types) (errors.Index (at + 4))
block_broken h previous at _ = None

-- the rules for a substitution row, 4 bytes
abbrev pub subst_broken : List Node → ℕ → List ℕ → Option ObjectError
subst_broken nodes at (n ∷ []) = node_number_broken nodes false at n
subst_broken nodes at _ = None
