-- The tests of the typing rows as data: for each test, the premise that fails if it does not hold, and whether it
-- holds.
use Rattle.std.specs.Prelude.{ℕ, zero, suc, Bool, true, false, ◌&&◌, not, ◌==◌, nat_lt, List, [], ◌∷◌, length, is_some}
use Rattle.std.specs.Option.{unwrap_or}
use Rattle.ft_isa.specs.declared.basic.Base.{Base}
use Rattle.ft_isa.specs.declared.basic.Base.TheVariants.{Int, Code}
use Rattle.ft_isa.specs.declared.basic.Basic.{Basic}
use Rattle.ft_isa.specs.declared.colour.Colour.{Colour}
use Rattle.ft_isa.specs.declared.colour.Colour.TheVariants.{Green}
use Rattle.ft_isa.specs.declared.reg.Reg.{Reg}
use Rattle.ft_isa.specs.declared.instr.Subst.{Subst}
use Rattle.ft_isa.specs.BasicTypes.{int}
use Rattle.ft_static.specs.Form.{Polynomial, nought, same_polynomial, same_updates}
use Rattle.ft_types.specs.declared.object.Object.{Object}
use Rattle.ft_types.specs.Objects.{reg_rows, queue_rows, memory_of}
use Rattle.ft_typing.specs.TypedWord.{has_type, is_seen_as, run_type}
use Rattle.ft_typing.specs.declared.why.Why.TheVariants as premise
use Rattle.ft_typing.specs.Premise.{Premise}
use Rattle.ft_typing.specs.Context.{Typed, StateOfD, d_zero, d_code, d_conditional, FormPair, Context, typed, replacement, memory_form_after}
use Rattle.ft_typing.specs.RowWords.{same_colour, is_empty, are_like, is_queue_like, is_annotated}

-- a test, on the registers, words and substitution of the instruction that makes it
pub data Test : Type 0 where
  -- the register has a type
  is_typed : Reg → Test
  -- the register has this colour
  is_coloured : Reg → Colour → Test
  -- the register has the same colour as another
  is_coloured_as : Reg → Reg → Test
  -- a word's colour is that of the register
  is_colour_of : Colour → Reg → Test
  -- the word has the claimed type
  is_claimed : ℕ → Basic → Test
  -- the value register's type is accepted as the type to which the address register refers
  is_stored_as : Reg → Reg → Test
  -- the register's basic type is a `ref`
  is_reference : Reg → Test
  -- the register's basic type is `code T`
  is_target : Reg → Test
  -- d is Zero; d is Code; d is Conditional
  is_d_zero : Test
  is_d_code : Test
  is_d_conditional : Test
  -- the static queue has fewer than 8 pairs
  has_room : Test
  -- the static queue is not empty
  has_oldest : Test
  -- the register's form is that of the oldest pair's address; likewise for the oldest pair's value
  is_oldest_address : Reg → Test
  is_oldest_value : Reg → Test
  -- the register's form is the one that d's condition tests
  is_tested : Reg → Test
  -- the register's T and form are those of d
  is_announced : Reg → Test
  -- the substitution fits this block and T, the register's code type
  is_substitution : Reg → Subst → Test
  -- under the substitution, the registers are as T requires; likewise the static queue, and the memory
  has_registers : Reg → Subst → Test
  has_queue : Reg → Subst → Test
  has_memory : Reg → Subst → Test
  -- the static queue is empty
  has_empty_queue : Test
  -- the cells of the run are of one type, to which a `ref` can refer
  is_array : ℕ → ℕ → Test

-- the premise that fails if a test does not hold
abbrev pub premise_of : Test → Premise
premise_of (is_typed r) = premise.Untyped
premise_of (is_coloured r k) = premise.Colour
premise_of (is_coloured_as r s) = premise.Colour
premise_of (is_colour_of k r) = premise.Colour
premise_of (is_claimed w b) = premise.BasicType
premise_of (is_stored_as rs rd) = premise.BasicType
premise_of (is_reference r) = premise.NotRef
premise_of (is_target r) = premise.NotCode
premise_of is_d_zero = premise.StateOfD
premise_of is_d_code = premise.StateOfD
premise_of is_d_conditional = premise.StateOfD
premise_of has_room = premise.QueueFull
premise_of has_oldest = premise.QueueEmpty
premise_of (is_oldest_address r) = premise.Addresses
premise_of (is_oldest_value r) = premise.Values
premise_of (is_tested r) = premise.Conditions
premise_of (is_announced r) = premise.Targets
premise_of (is_substitution r u) = premise.Annotation
premise_of (has_registers r u) = premise.RegisterUnlike
premise_of (has_queue r u) = premise.QueueUnlike
premise_of (has_memory r u) = premise.MemoryUnlike
premise_of has_empty_queue = premise.QueueUnlike
premise_of (is_array first m) = premise.Array

-- WHAT THE TESTS READ. If it is absent, an earlier test of the row has failed, so the default does not matter.

-- what is known of a register
abbrev pub known : Context → Reg → Typed
known c r = unwrap_or (typed c r.number) (record { colour = Green; basic = int; form = nought })

-- whether a type of n refs over a base is a `ref`, and the type to which it refers
abbrev pub refers : ℕ → Bool
refers zero = false
refers (suc k) = true

abbrev pub referred : ℕ → Base → Basic
referred zero base = int
referred (suc k) base = record { refs = k; base = base }

-- whether a type of n refs over a base is `code T`, and that T
abbrev pub leads_to_code : ℕ → Base → Bool
leads_to_code zero Int = false
leads_to_code zero (Code t) = true
leads_to_code (suc k) base = false

abbrev pub code_led_to : ℕ → Base → ℕ
code_led_to zero Int = 0
code_led_to zero (Code t) = t
code_led_to (suc k) base = 0

-- the type to which a register's `ref` refers, and the T of a register's `code T`
abbrev pub type_referred : Context → Reg → Basic
type_referred c r = referred (known c r).basic.refs (known c r).basic.base

abbrev pub code_of : Context → Reg → ℕ
code_of c r = code_led_to (known c r).basic.refs (known c r).basic.base

-- the type of the cells of a run
abbrev pub array_type : Object → ℕ → ℕ → Basic
array_type o first m = unwrap_or (run_type o first m) int

-- whether d is Zero, whether it is Code, whether it is Conditional
abbrev pub is_zero : StateOfD → Bool
is_zero d_zero = true
is_zero (d_code t f) = false
is_zero (d_conditional z t f) = false

abbrev pub is_code : StateOfD → Bool
is_code d_zero = false
is_code (d_code t f) = true
is_code (d_conditional z t f) = false

abbrev pub is_conditional : StateOfD → Bool
is_conditional d_zero = false
is_conditional (d_code t f) = false
is_conditional (d_conditional z t f) = true

-- the T, the form and the test of d
abbrev pub code_of_d : StateOfD → ℕ
code_of_d d_zero = 0
code_of_d (d_code t f) = t
code_of_d (d_conditional z t f) = t

abbrev pub form_of_d : StateOfD → Polynomial
form_of_d d_zero = nought
form_of_d (d_code t f) = f
form_of_d (d_conditional z t f) = f

abbrev pub test_of_d : StateOfD → Polynomial
test_of_d d_zero = nought
test_of_d (d_code t f) = nought
test_of_d (d_conditional z t f) = z

-- the oldest pair of a static queue, and the other pairs
abbrev pub oldest : List FormPair → FormPair
oldest [] = (nought, nought)
oldest (e ∷ q) = e

abbrev pub others : List FormPair → List FormPair
others [] = []
others (e ∷ q) = q

-- whether a test holds
abbrev pub holds : Object → Context → Test → Bool
holds o c (is_typed r) = is_some (typed c r.number)
holds o c (is_coloured r k) = same_colour (known c r).colour k
holds o c (is_coloured_as r s) = same_colour (known c r).colour (known c s).colour
holds o c (is_colour_of k r) = same_colour k (known c r).colour
holds o c (is_claimed w b) = has_type o w b
holds o c (is_stored_as rs rd) = is_seen_as (known c rs).basic (type_referred c rd)
holds o c (is_reference r) = refers (known c r).basic.refs
holds o c (is_target r) = leads_to_code (known c r).basic.refs (known c r).basic.base
holds o c is_d_zero = is_zero c.d
holds o c is_d_code = is_code c.d
holds o c is_d_conditional = is_conditional c.d
holds o c has_room = nat_lt (length c.queue) 8
holds o c has_oldest = not (is_empty c.queue)
holds o c (is_oldest_address r) = same_polynomial (known c r).form (oldest c.queue).0
holds o c (is_oldest_value r) = same_polynomial (known c r).form (oldest c.queue).1
holds o c (is_tested r) = same_polynomial (known c r).form (test_of_d c.d)
holds o c (is_announced r) = (code_of c r == code_of_d c.d) && same_polynomial (known c r).form (form_of_d c.d)
holds o c (is_substitution r u) = is_annotated o c.ints u (code_of c r)
holds o c (has_registers r u) = are_like o (replacement o u) c (reg_rows o (code_of c r))
holds o c (has_queue r u) = is_queue_like o (replacement o u) c.queue (queue_rows o (code_of c r))
holds o c (has_memory r u) = same_updates c.memory (memory_form_after o (replacement o u) (memory_of o (code_of c r)))
holds o c has_empty_queue = is_empty c.queue
holds o c (is_array first m) = is_some (run_type o first m)
