-- The vocabulary of the typing rows: the results of a row, and for each premise a function that tests it and continues.
use Rattle.std.specs.Prelude.{ℕ, zero, suc, Bool, true, false, ◌&&◌, ◌==◌, nat_le, if◌then◌else◌, List, [], ◌∷◌, length, Option, Some, None}
use Rattle.std.specs.List.{list_all}
use Rattle.ft_isa.specs.declared.colour.Colour.{Colour}
use Rattle.ft_isa.specs.declared.colour.Colour.TheVariants.{Green, Blue}
use Rattle.ft_isa.specs.declared.basic.Base.{Base}
use Rattle.ft_isa.specs.declared.basic.Base.TheVariants.{Int, Code}
use Rattle.ft_isa.specs.declared.basic.Basic.{Basic}
use Rattle.ft_isa.specs.declared.instr.Subst.{Subst}
use Rattle.ft_isa.specs.Words.{cell_address}
use Rattle.ft_static.specs.Form.{Polynomial, Updates, same_polynomial, same_updates}
use Rattle.ft_static.specs.NormalForm.{constant, norm_add, norm_rem, norm_upd}
use Rattle.ft_types.specs.declared.object.Object.{Object}
use Rattle.ft_types.specs.declared.object.RegType.{RegType}
use Rattle.ft_types.specs.Objects.{reg_rows, queue_rows, ints_of, memory_of, scope_of}
use Rattle.ft_typing.specs.TypedWord.{is_seen_as}
use Rattle.ft_typing.specs.declared.why.Why.TheVariants as premise
use Rattle.ft_typing.specs.Premise.{Premise}
use Rattle.ft_typing.specs.Context.{Typed, StateOfD, d_zero, d_code, d_conditional, FormPair, Context, typed, Replacement, replacement, rows_of, integer_form_after, memory_form_after}

-- the result of a row: the context of the next instruction, the end of the block, or the first failing premise
pub data Outcome : Type 0 where
  Goes : Context → Outcome
  Ends : Outcome
  Fails : Premise → Outcome

-- whether two colours are equal
unfoldable pub same_colour : Colour → Colour → Bool
same_colour Green Green = true
same_colour Green Blue = false
same_colour Blue Green = false
same_colour Blue Blue = true

-- a premise that is a plain test: if it holds, the row continues
unfoldable pub need : Premise → Bool → Outcome → Outcome
need p b next = if b then next else Fails p

-- premise Untyped: the row continues with what is known of the register
unfoldable pub for_typed : Option Typed → (Typed → Outcome) → Outcome
for_typed None next = Fails premise.Untyped
for_typed (Some t) next = next t

-- premise NotRef: the row continues with the basic type referred to
unfoldable pub for_ref_over : ℕ → Base → (Basic → Outcome) → Outcome
for_ref_over zero base next = Fails premise.NotRef
for_ref_over (suc k) base next = next (record { refs = k; base = base })

abbrev pub for_ref : Basic → (Basic → Outcome) → Outcome
for_ref b next = for_ref_over b.refs b.base next

-- premise NotCode: the row continues with the code type
unfoldable pub for_code_over : ℕ → Base → (ℕ → Outcome) → Outcome
for_code_over zero Int next = Fails premise.NotCode
for_code_over zero (Code t) next = next t
for_code_over (suc k) base next = Fails premise.NotCode

abbrev pub for_code : Basic → (ℕ → Outcome) → Outcome
for_code b next = for_code_over b.refs b.base next

-- premise StateOfD, where d must be Zero
unfoldable pub for_zero : StateOfD → Outcome → Outcome
for_zero d_zero next = next
for_zero (d_code t f) next = Fails premise.StateOfD
for_zero (d_conditional z t f) next = Fails premise.StateOfD

-- premise StateOfD, where d must be Code: the row continues with the code type and the form
unfoldable pub for_target : StateOfD → (ℕ → Polynomial → Outcome) → Outcome
for_target d_zero next = Fails premise.StateOfD
for_target (d_code t f) next = next t f
for_target (d_conditional z t f) next = Fails premise.StateOfD

-- premise StateOfD, where d must be Conditional: the row continues with the test, the code type and the form
unfoldable pub for_conditional : StateOfD → (Polynomial → ℕ → Polynomial → Outcome) → Outcome
for_conditional d_zero next = Fails premise.StateOfD
for_conditional (d_code t f) next = Fails premise.StateOfD
for_conditional (d_conditional z t f) next = next z t f

-- premise QueueEmpty: the row continues with the oldest pair and the others
unfoldable pub for_oldest : List FormPair → (FormPair → List FormPair → Outcome) → Outcome
for_oldest [] next = Fails premise.QueueEmpty
for_oldest (e ∷ q) next = next e q

-- premise Array: the row continues with the type of the cells of a run
unfoldable pub for_run : Option Basic → (Basic → Outcome) → Outcome
for_run None next = Fails premise.Array
for_run (Some b) next = next b

-- the form of the address of a cell in a run, from the form of the word that selects it
abbrev pub run_form : ℕ → ℕ → Polynomial → Polynomial
run_form first m p = norm_add (constant (cell_address first)) (norm_rem p m)

-- whether the static queue is empty
unfoldable pub is_empty : List FormPair → Bool
is_empty [] = true
is_empty (e ∷ q) = false

-- the pending memory: the memory updated by each pair of the queue, oldest first
unfoldable pub pending_memory : Updates → List FormPair → Updates
pending_memory m [] = m
pending_memory m (e ∷ q) = pending_memory (norm_upd m e.0 e.1) q

-- the memory that a load of this colour sees: the pending memory for green, the memory itself for blue
abbrev pub seen_memory : Colour → Context → Updates
seen_memory Green c = pending_memory c.memory c.queue
seen_memory Blue c = c.memory

-- whether the register here is as the target's row requires, under the substitution
unfoldable pub is_like : Object → Replacement → Option Typed → RegType → Bool
is_like o x None r = false
is_like o x (Some t) r = same_colour t.colour r.colour && is_seen_as t.basic r.basic && same_polynomial t.form (integer_form_after o x r.expr)

-- whether all registers of the target's code type are as its rows require
abbrev pub are_like : Object → Replacement → Context → List RegType → Bool
are_like o x c rows = list_all (λ r. is_like o x (typed c r.reg.number) r) rows

-- whether the static queue is as long as the target's, and each pair is the same under the substitution
unfoldable pub is_queue_like : Object → Replacement → List FormPair → List (ℕ × ℕ) → Bool
is_queue_like o x [] [] = true
is_queue_like o x [] (r ∷ rs) = false
is_queue_like o x (e ∷ q) [] = false
is_queue_like o x (e ∷ q) (r ∷ rs) = same_polynomial e.0 (integer_form_after o x r.0) && same_polynomial e.1 (integer_form_after o x r.1) && is_queue_like o x q rs

-- whether a substitution has a row for each integer variable of code type t, and the scopes of its rows and of its
-- memory are at most this block's number of integer variables
unfoldable pub is_annotated : Object → ℕ → Subst → ℕ → Bool
is_annotated o ints u t = (length (rows_of o u) == ints_of o t) && list_all (λ n. nat_le (scope_of o n) ints) (rows_of o u) && nat_le (scope_of o u.memory) ints

-- the premises of a transfer to code type t by a substitution: Annotation, RegisterUnlike, QueueUnlike, MemoryUnlike
unfoldable pub leads : Object → Subst → ℕ → Context → Outcome → Outcome
leads o u t c next =
    need premise.Annotation (is_annotated o c.ints u t) (
    need premise.RegisterUnlike (are_like o (replacement o u) c (reg_rows o t)) (
    need premise.QueueUnlike (is_queue_like o (replacement o u) c.queue (queue_rows o t)) (
    need premise.MemoryUnlike (same_updates c.memory (memory_form_after o (replacement o u) (memory_of o t))) (
    next))))
