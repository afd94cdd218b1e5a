use Rattle.std.proofs.Common.{◌≡◌, ◌&&◌, ◌==◌, ℕ, Bool, List, [], ◌∷◌, length, slice_get, refl, sym, ◌∙◌, arith}
use Rattle.ft_types.specs.declared.object.Object.{Object}
use Rattle.ft_types.specs.declared.object.TypeHead.{TypeHead}
use Rattle.ft_typing.specs.Accepted.{has_none, is_entry_type, is_memory_variable}
use Rattle.ft_types.specs.Objects.{ints_of, reg_rows, queue_rows, memory_of}
use Rattle.ft_contexts.proofs.Registers.{apart}
use Rattle.ft_contexts.proofs.Turns.{head_says}
use Rattle.ft_checker.proofs.entry.is_entry_type.Goals as goal

-- a list is empty exactly when its length is 0
none_counted : {X : Type 0} (xs : List X) → has_none xs ≡ (length xs == 0)
none_counted [] = refl
none_counted (x ∷ xs) = sym (apart _ 0 (λ e. absurd (omega arith)))

-- the test, in terms of the code type's head
entry_is : (o : Object) (t : ℕ) (x : TypeHead) (b : Bool) → (x.ints ≡ ints_of o t) × (x.regs ≡ length (reg_rows o t))
    × (x.queue ≡ length (queue_rows o t)) × (x.memory ≡ memory_of o t) → b
    ≡ ((x.ints == 0) && (x.regs == 0) && (x.queue == 0)) → is_entry_type o t
    ≡ (b && is_memory_variable (slice_get o.nodes x.memory))
unfolding is_entry_type
entry_is o t x b h e = rw (e, h.0, h.1, h.2, h.3, none_counted (reg_rows o t), none_counted (queue_rows o t)) refl

pub returns-then-is_bare : goal.returns-then-is_bare
returns-then-is_bare g c = c.is_memory_variable.ensures
    ∙ sym (rw c.if-is_bare.true at (entry_is (g.P.Program.object c.args.program.now) c.args.t c.code_type-head.result
    c.is_bare.result (head_says (g.P.Program.object c.args.program.now) c.args.t c.code_type-head.result
    c.code_type-head.ensures) c.is_bare.ensures))

pub returns-else-is_bare : goal.returns-else-is_bare
returns-else-is_bare g c = sym (rw c.if-is_bare.false at
    (entry_is (g.P.Program.object c.args.program.now) c.args.t c.code_type-head.result c.is_bare.result
    (head_says (g.P.Program.object c.args.program.now) c.args.t c.code_type-head.result c.code_type-head.ensures)
    c.is_bare.ensures))
