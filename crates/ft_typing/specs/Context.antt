-- What typing knows at a place in a block, and at the start of a block of a given code type.
use Rattle.std.specs.Prelude.{ℕ, List, [], ◌∷◌, map, Option, slice_range}
use Rattle.std.specs.Ordering.{nat_cmp}
use Rattle.std.specs.FinMap as finite
use Rattle.std.specs.FinMap.{FinMap}
use Rattle.ft_isa.specs.declared.colour.Colour.{Colour}
use Rattle.ft_isa.specs.declared.basic.Basic.{Basic}
use Rattle.ft_isa.specs.declared.instr.Subst.{Subst}
use Rattle.ft_static.specs.Form.{Polynomial, Updates}
use Rattle.ft_static.specs.NormalForm.{norm_integer, norm_memory, norm_under, norm_memory_under}
use Rattle.ft_static.specs.NodeTree.{trees, integer_at, memory_at}
use Rattle.ft_types.specs.declared.object.Object.{Object}
use Rattle.ft_types.specs.declared.object.RegType.{RegType}
use Rattle.ft_types.specs.Objects.{reg_rows, queue_rows, ints_of, memory_of}

-- what is known of a register: its colour, its basic type, and the form of its word
pub record Typed : Type 0 where
  pub colour : Colour
  pub basic : Basic
  pub form : Polynomial

-- what is known of d: it is 0; it is a code address of this code type and form; or it is such an address if the test
-- denotes 0, and 0 otherwise
pub data StateOfD : Type 0 where
  d_zero : StateOfD
  d_code : ℕ → Polynomial → StateOfD
  d_conditional : Polynomial → ℕ → Polynomial → StateOfD

-- a pair of forms: of an address, and of the value to be stored there
abbrev pub FormPair : Type 0
FormPair = Polynomial × Polynomial

-- what is known of the registers, by number
abbrev pub TypedRegisters : Type 0
TypedRegisters = FinMap nat_cmp Typed

-- a context: the block's number of integer variables, what is known of the registers and of d, the static queue
-- (oldest first), and the form of the memory
pub record Context : Type 0 where
  pub ints : ℕ
  pub registers : TypedRegisters
  pub d : StateOfD
  pub queue : List FormPair
  pub memory : Updates

-- what is known of register r
abbrev pub typed : Context → ℕ → Option Typed
typed c r = finite.get c.registers r

-- the context once this is known of register r
abbrev pub with_type : ℕ → Typed → Context → Context
with_type r t c = record c { registers = finite.insert c.registers r t }

-- the form of the integer that a node represents, with its variables unchanged
unfoldable pub integer_form_of : Object → ℕ → Polynomial
integer_form_of o n = norm_integer (integer_at (trees o.nodes) n)

-- the form of the memory that a node represents, with its variables unchanged
unfoldable pub memory_form_of : Object → ℕ → Updates
memory_form_of o n = norm_memory (memory_at (trees o.nodes) n)

-- what replaces the variables: a form for each integer variable, and one for the memory variable
pub record Replacement : Type 0 where
  pub integers : List Polynomial
  pub memory : Updates

-- the form of the integer that a node represents, after a replacement
unfoldable pub integer_form_after : Object → Replacement → ℕ → Polynomial
integer_form_after o x n = norm_under (integer_at (trees o.nodes) n) x.integers x.memory

-- the form of the memory that a node represents, after a replacement
unfoldable pub memory_form_after : Object → Replacement → ℕ → Updates
memory_form_after o x n = norm_memory_under (memory_at (trees o.nodes) n) x.integers x.memory

-- the rows of a substitution: the nodes substituted for the target's integer variables, in order
abbrev pub rows_of : Object → Subst → List ℕ
rows_of o u = slice_range o.substs u.first u.past

-- what a substitution puts in place of the target's variables, expressed in its own block's variables
unfoldable pub replacement : Object → Subst → Replacement
replacement o u = record { integers = map (integer_form_of o) (rows_of o u); memory = memory_form_of o u.memory }

-- what a register row says about its register
abbrev pub typed_row : Object → RegType → Typed
typed_row o r = record { colour = r.colour; basic = r.basic; form = integer_form_of o r.expr }

-- what is known of the registers after these rows, each of which overrides those before it
unfoldable pub registers_after : Object → TypedRegisters → List RegType → TypedRegisters
registers_after o m [] = m
registers_after o m (r ∷ rs) = registers_after o (finite.insert m r.reg.number (typed_row o r)) rs

-- the forms of a queue row
abbrev pub queue_pair : Object → ℕ × ℕ → FormPair
queue_pair o q = (integer_form_of o q.0, integer_form_of o q.1)

-- what is known at the start of a block of code type t: the code type's registers, queue and memory, with its variables
-- unchanged, and that d is 0
abbrev pub start_context : Object → ℕ → Context
start_context o t = record {
  ints = ints_of o t;
  registers = registers_after o finite.empty (reg_rows o t);
  d = d_zero;
  queue = map (queue_pair o) (queue_rows o t);
  memory = memory_form_of o (memory_of o t);
}
