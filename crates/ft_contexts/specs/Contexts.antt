-- Which defined context a context of the code represents, given the normal forms that an interner holds.
use Rattle.std.specs.Prelude.{◌≡◌, ◌<◌, ℕ, suc, List, [], ◌∷◌, map, length, Option, None, Some, slice_get}
use Rattle.std.specs.Option.{option_map}
use Rattle.std.specs.FinMap as finite
use Rattle.ft_static.specs.Form.{Form as Normal, integer_form, memory_form, variable_atom, unchanged}
use Rattle.ft_static.specs.NormalForm.{alone}
use Rattle.ft_norm.specs.declared.form.Form.{Form}
use Rattle.ft_norm.specs.Held.{held, polynomial, polynomials, updates_held, IsInteger, IsMemory, AreIntegers}
use Rattle.ft_types.specs.declared.object.Object.{Object}
use Rattle.ft_types.specs.Spellable.{IsBase}
use Rattle.ft_typing.specs.Context as defined
use Rattle.ft_typing.specs.Context.{Typed, TypedRegisters, StateOfD, d_zero, d_code, d_conditional, FormPair, Replacement}
use Rattle.ft_contexts.specs.declared.register.RegForm.{RegForm}
use Rattle.ft_contexts.specs.declared.destination.StateD.{StateD}
use Rattle.ft_contexts.specs.declared.destination.StateD.TheVariants.{Zero, Code, Conditional}
use Rattle.ft_norm.specs.declared.substitution.Memo.{Memo}
use Rattle.ft_norm.specs.Memos.{Remembers}
use Rattle.ft_contexts.specs.declared.variables.OwnVariables.{OwnVariables}
use Rattle.ft_contexts.specs.declared.variables.Variables.{Variables}
use Rattle.ft_contexts.specs.declared.context.Context.{Context}
use Rattle.ft_contexts.specs.declared.transfers.Shared.{Shared}

-- WHAT A CONTEXT MEANS

-- what is known of a register
abbrev pub typed_in : List Normal → RegForm → Typed
typed_in fs r = record { colour = r.colour; basic = r.basic; form = polynomial fs r.form }

-- what is known of the registers if this is also known of register n
abbrev pub with_known : ℕ → Option Typed → TypedRegisters → TypedRegisters
with_known n None m = m
with_known n (Some t) m = finite.insert m n t

-- what is known of the registers from number n on
unfoldable pub registers_in : List Normal → ℕ → List (Option RegForm) → TypedRegisters
registers_in fs n [] = finite.empty
registers_in fs n (x ∷ xs) = with_known n (option_map (typed_in fs) x) (registers_in fs (suc n) xs)

-- what is known of d
abbrev pub d_in : List Normal → StateD → StateOfD
d_in fs Zero = d_zero
d_in fs (Code t f) = d_code t (polynomial fs f)
d_in fs (Conditional z t f) = d_conditional (polynomial fs z) t (polynomial fs f)

-- a pair of the static queue
abbrev pub pair_in : List Normal → Form × Form → FormPair
pair_in fs p = (polynomial fs p.0, polynomial fs p.1)

-- the defined context that a context of the code represents
abbrev pub context_in : List Normal → Context → defined.Context
context_in fs c = record {
  ints = c.ints;
  registers = registers_in fs 0 c.registers;
  d = d_in fs c.d;
  queue = map (pair_in fs) c.queue;
  memory = updates_held fs c.memory;
}

-- how many integer variables a context's block has
abbrev pub variable_count : Context → ℕ
variable_count c = c.ints

-- how many pairs a context's static queue has
abbrev pub pending_count : Context → ℕ
pending_count c = length c.queue

-- what is substituted for the variables
abbrev pub replacement_in : List Normal → Variables → Replacement
replacement_in fs v = record { integers = polynomials fs v.integers; memory = updates_held fs v.memory }

-- WHAT AN INTERNER HOLDS

-- the forms of these variables are held, each of the right sort
pub record HoldsVariables (fs : List Normal) (v : Variables) : Type 0 where
  pub integers : AreIntegers fs v.integers
  pub memory : IsMemory fs v.memory

-- the forms are those of n integer variables and of the memory variable
pub record AreOwn (fs : List Normal) (n : ℕ) (v : Variables) : Type 0 where
  pub count : length v.integers ≡ n
  pub integers : (i : ℕ) (f : Form) → slice_get v.integers i ≡ Some f → held fs f ≡ Some (integer_form (alone (variable_atom i)))
  pub memory : held fs v.memory ≡ Some (memory_form unchanged)

-- what a memo remembers of an object's nodes is right if these are substituted for the variables
abbrev pub RemembersUnder : Object → List Normal → Variables → Memo → Type 0
RemembersUnder o fs v m = Remembers o.nodes fs v.integers v.memory m

-- the forms of the variables themselves are held, and what is remembered of an object's nodes is right
pub record HoldsOwn (o : Object) (fs : List Normal) (v : OwnVariables) : Type 0 where
  pub own : AreOwn fs 128 v.variables
  pub made : RemembersUnder o fs v.variables v.made

-- the forms of what blocks share are held, and what is remembered of an object's nodes is right
pub record HoldsShared (o : Object) (fs : List Normal) (s : Shared) : Type 0 where
  pub own : HoldsOwn o fs s.own
  pub put : HoldsVariables fs s.put
  pub made : RemembersUnder o fs s.put s.made

-- the forms of d's state are held
abbrev pub HoldsD : List Normal → StateD → Type 0
HoldsD fs Zero = Unit {0}
HoldsD fs (Code t f) = IsInteger fs f
HoldsD fs (Conditional z t f) = IsInteger fs z × IsInteger fs f

-- the forms of typed registers are held
abbrev pub HoldsRegisters : List Normal → List (Option RegForm) → Type 0
HoldsRegisters fs xs = (r : ℕ) (x : RegForm) → slice_get xs r ≡ Some (Some x) → IsInteger fs x.form

-- the forms of a static queue are held
abbrev pub HoldsQueue : List Normal → List (Form × Form) → Type 0
HoldsQueue fs q = (i : ℕ) (p : Form × Form) → slice_get q i ≡ Some p → IsInteger fs p.0 × IsInteger fs p.1

-- every form of a context is held, and is of the right sort
pub record HoldsForms (fs : List Normal) (c : Context) : Type 0 where
  pub registers : HoldsRegisters fs c.registers
  pub d : HoldsD fs c.d
  pub queue : HoldsQueue fs c.queue
  pub memory : IsMemory fs c.memory

-- THE NAMED CODE TYPES

-- the code type that d's state names, if any, is below this number
abbrev pub DNamesType : ℕ → StateD → Type 0
DNamesType types Zero = Unit {0}
DNamesType types (Code t f) = t < types
DNamesType types (Conditional z t f) = t < types

-- the code types that the registers' basic types name are below this number
abbrev pub RegistersNameTypes : ℕ → List (Option RegForm) → Type 0
RegistersNameTypes types xs = (r : ℕ) (x : RegForm) → slice_get xs r ≡ Some (Some x) → IsBase types x.basic.base

-- every code type named in a context is the object's
pub record NamesTypes (o : Object) (c : Context) : Type 0 where
  pub registers : RegistersNameTypes (length o.types) c.registers
  pub d : DNamesType (length o.types) c.d
