use Rattle.std.proofs.Common.{◌≡◌, ◌+◌, ◌*◌, ◌≤◌, arith, ℕ, Bool, true, List, length, nat_le, refl, sym, ap, ◌∙◌}
use Rattle.std.proofs.Common.{eqb-true}
use Rattle.std.specs.List.{list_all}
use Rattle.std.proofs.lemmas.Bool.{and_parts}
use Rattle.std.proofs.lemmas.List.{length-map}
use Rattle.ft_isa.specs.declared.instr.Subst.{Subst}
use Rattle.ft_static.specs.Form.{Form as Normal, updates, same_updates}
use Rattle.ft_norm.specs.Held.{polynomial, updates_held}
use Rattle.ft_types.specs.declared.object.Object.{Object}
use Rattle.ft_types.specs.Objects.{ints_of, scope_of, memory_of, reg_rows, queue_rows}
use Rattle.ft_typing.specs.Context.{Context, Replacement, replacement, rows_of, integer_form_of, memory_form_after}
use Rattle.ft_typing.specs.RowWords.{leads, is_annotated, are_like, is_queue_like}
use Rattle.ft_types.specs.declared.object.RegType.{RegType}
use Rattle.ft_norm.proofs.HeldForms.{keeps_both}
use Rattle.ft_contexts.specs.declared.variables.Variables.{Variables}
use Rattle.ft_contexts.specs.Contexts.{replacement_in, context_in}
use Rattle.ft_contexts.specs.Costs.{tree_cost}
use Rattle.ft_contexts.proofs.Costs.{cost_rises}
use Rattle.ft_rules.proofs.Chains.{passes_exit, passes_stop, passes_after}
use Rattle.ft_contexts.proofs.Kept.{memory_stays, forms_kept, shared_made, variables_kept, context_stays}
use Rattle.ft_contexts.proofs.Kept.{replacement_stays}
use Rattle.ft_rules.proofs.transfer.leads.Goals as goal

-- a substitution that meets Annotation has a row for each of the target's variables, within the scope of the block's
-- own variables
annotated_parts : (o : Object) (ints : ℕ) (u : Subst) (t : ℕ) → is_annotated o ints u t ≡ true →
    (length (rows_of o u) ≡ ints_of o t) × (list_all (λ n. nat_le (scope_of o n) ints) (rows_of o u) ≡ true)
    × (nat_le (scope_of o u.memory) ints ≡ true)
unfolding is_annotated
annotated_parts o ints u t h =
    let p = and_parts _ _ h in
    let q = and_parts _ _ p.0 in
    (eqb-true (length (rows_of o u)) (ints_of o t) q.0, q.1, p.1)

-- so as many forms are substituted as the target has variables
as_many : (o : Object) (fs : List Normal) (v : Variables) (u : Subst) (ints t : ℕ) → replacement_in fs v
    ≡ replacement o u → is_annotated o ints u t ≡ true → length v.integers ≡ ints_of o t
unfolding replacement
as_many o fs v u ints t e h =
    sym (length-map v.integers (polynomial fs)) ∙ ap (λ (x : Replacement). length x.integers) e
    ∙ length-map (rows_of o u) (integer_form_of o) ∙ (annotated_parts o ints u t h).0

-- the tests give the same results for equal replacements and equal contexts
registers_so : (o : Object) (b : Bool) (x y : Replacement) (k l : Context) (rows : List RegType) → b
    ≡ are_like o x k rows → x ≡ y → k ≡ l → b ≡ are_like o y l rows
registers_so o b x y k l rows h e f = h ∙ ap (λ (z : Replacement). are_like o z k rows) e
    ∙ ap (λ (z : Context). are_like o y z rows) f

queue_so : (o : Object) (b : Bool) (x y : Replacement) (k l : Context) (rows : List (ℕ × ℕ)) → b
    ≡ is_queue_like o x k.queue rows → x ≡ y → k ≡ l → b ≡ is_queue_like o y l.queue rows
queue_so o b x y k l rows h e f = h ∙ ap (λ (z : Replacement). is_queue_like o z k.queue rows) e
    ∙ ap (λ (z : Context). is_queue_like o y z.queue rows) f

memory_so : (o : Object) (b : Bool) (x y : Replacement) (k l : Context) (n : ℕ) → b
    ≡ same_updates k.memory (memory_form_after o x n) → x ≡ y → k ≡ l → b
    ≡ same_updates l.memory (memory_form_after o y n)
memory_so o b x y k l n h e f = h ∙ ap (λ (z : Replacement). same_updates k.memory (memory_form_after o z n)) e
    ∙ ap (λ (z : Context). same_updates z.memory (memory_form_after o y n)) f

pub registers_are_like-requires-clause-count : goal.registers_are_like-requires-clause-count
registers_are_like-requires-clause-count g c = as_many (g.P.Program.object c.args.program.now) c.replace.new.forms
    c.replace.new.self.put c.args.subst c.args.context.now.ints c.args.t c.in_ok-replace.ensures.replaced
    (sym c.is_annotated-annotated.ensures ∙ c.in_ok-need.ensures.holds)

pub queue_is_like-requires-clause-count : goal.queue_is_like-requires-clause-count
queue_is_like-requires-clause-count g c = as_many (g.P.Program.object c.args.program.now) c.replace.new.forms
    c.replace.new.self.put c.args.subst c.args.context.now.ints c.args.t c.in_ok-replace.ensures.replaced
    (sym c.is_annotated-annotated.ensures ∙ c.in_ok-need.ensures.holds)

pub memory_is_like-requires-clause-count : goal.memory_is_like-requires-clause-count
memory_is_like-requires-clause-count g c = as_many (g.P.Program.object c.args.program.now) c.replace.new.forms
    c.replace.new.self.put c.args.subst c.args.context.now.ints c.args.t c.in_ok-replace.ensures.replaced
    (sym c.is_annotated-annotated.ensures ∙ c.in_ok-need.ensures.holds)

pub registers_are_like-requires-clause-held : goal.registers_are_like-requires-clause-held
registers_are_like-requires-clause-held g c = forms_kept c.args.forms.now c.replace.new.forms c.args.context.now
    c.replace.ensures.kept c.requires.held

pub queue_is_like-requires-clause-held : goal.queue_is_like-requires-clause-held
queue_is_like-requires-clause-held g c = forms_kept c.args.forms.now c.registers_are_like.new.forms c.args.context.now
    (keeps_both _ _ _ c.replace.ensures.kept c.registers_are_like.ensures.kept) c.requires.held

pub queue_is_like-requires-clause-put : goal.queue_is_like-requires-clause-put
queue_is_like-requires-clause-put g c = (variables_kept c.replace.new.forms c.registers_are_like.new.forms
    c.replace.new.self.put c.registers_are_like.ensures.kept c.replace.ensures.shared.put)

pub memory_is_like-requires-clause-held : goal.memory_is_like-requires-clause-held
memory_is_like-requires-clause-held g c = forms_kept c.args.forms.now c.queue_is_like.new.forms c.args.context.now
    (keeps_both _ _ _ (keeps_both _ _ _ c.replace.ensures.kept c.registers_are_like.ensures.kept)
    c.queue_is_like.ensures.kept) c.requires.held

pub memory_is_like-requires-clause-put : goal.memory_is_like-requires-clause-put
memory_is_like-requires-clause-put g c = (variables_kept c.replace.new.forms c.queue_is_like.new.forms
    c.replace.new.self.put (keeps_both _ _ _ c.registers_are_like.ensures.kept c.queue_is_like.ensures.kept)
    c.replace.ensures.shared.put)

pub returns-in_err-need-clause-passes : goal.returns-in_err-need-clause-passes
unfolding leads
returns-in_err-need-clause-passes g c = λ next. passes_exit _ _ _ _ _ c.from_residual.ensures.1 refl
    ((rw c.is_annotated-annotated.ensures at c.in_err-need.ensures.passes) _)

pub returns-in_err-replace-clause-passes : goal.returns-in_err-replace-clause-passes
returns-in_err-replace-clause-passes g c = λ next. passes_stop _ _ _ c.from_residual-in_err-replace.ensures.1

pub returns-in_err-registers-clause-passes : goal.returns-in_err-registers-clause-passes
returns-in_err-registers-clause-passes g c = λ next. passes_stop _ _ _ c.from_residual-in_err-registers.ensures.1

pub returns-in_err-need-2-clause-passes : goal.returns-in_err-need-2-clause-passes
unfolding leads
returns-in_err-need-2-clause-passes g c = λ next.
    let x1 = c.in_ok-replace.ensures.replaced in
    let k1 = context_stays c.args.forms.now c.replace.new.forms c.args.context.now c.replace.ensures.kept
    c.requires.held in
    let l1 = registers_so (g.P.Program.object c.args.program.now) _
    (replacement_in c.replace.new.forms c.replace.new.self.put)
    (replacement (g.P.Program.object c.args.program.now) c.args.subst)
    (context_in c.replace.new.forms c.args.context.now) (context_in c.args.forms.now c.args.context.now)
    (reg_rows (g.P.Program.object c.args.program.now) c.args.t) c.in_ok-registers.ensures.like x1 k1 in
    passes_exit _ _ _ _ _ c.from_residual-in_err-need-2.ensures.1
    ((rw c.is_annotated-annotated.ensures at c.in_ok-need.ensures.passes) _)
    ((rw l1 at c.in_err-need-2.ensures.passes) _)

pub returns-in_err-queue-clause-passes : goal.returns-in_err-queue-clause-passes
returns-in_err-queue-clause-passes g c = λ next. passes_stop _ _ _ c.from_residual-in_err-queue.ensures.1

pub returns-in_err-need-3-clause-passes : goal.returns-in_err-need-3-clause-passes
unfolding leads
returns-in_err-need-3-clause-passes g c = λ next.
    let x1 = c.in_ok-replace.ensures.replaced in
    let k1 = context_stays c.args.forms.now c.replace.new.forms c.args.context.now c.replace.ensures.kept
    c.requires.held in
    let l1 = registers_so (g.P.Program.object c.args.program.now) _
    (replacement_in c.replace.new.forms c.replace.new.self.put)
    (replacement (g.P.Program.object c.args.program.now) c.args.subst)
    (context_in c.replace.new.forms c.args.context.now) (context_in c.args.forms.now c.args.context.now)
    (reg_rows (g.P.Program.object c.args.program.now) c.args.t) c.in_ok-registers.ensures.like x1 k1 in
    let x2 = replacement_stays c.replace.new.forms c.registers_are_like.new.forms c.replace.new.self.put
    c.registers_are_like.ensures.kept c.replace.ensures.shared.put ∙ x1 in
    let k2 = context_stays c.args.forms.now c.registers_are_like.new.forms c.args.context.now
    (keeps_both _ _ _ c.replace.ensures.kept c.registers_are_like.ensures.kept) c.requires.held in
    let l2 = queue_so (g.P.Program.object c.args.program.now) _
    (replacement_in c.registers_are_like.new.forms c.replace.new.self.put)
    (replacement (g.P.Program.object c.args.program.now) c.args.subst)
    (context_in c.registers_are_like.new.forms c.args.context.now) (context_in c.args.forms.now c.args.context.now)
    (queue_rows (g.P.Program.object c.args.program.now) c.args.t) c.in_ok-queue.ensures.like x2 k2 in
    passes_exit _ _ _ _ _ c.from_residual-in_err-need-3.ensures.1
    ((rw c.is_annotated-annotated.ensures at c.in_ok-need.ensures.passes) _
    ∙ (rw l1 at c.in_ok-need-2.ensures.passes) _) ((rw l2 at c.in_err-need-3.ensures.passes) _)

pub returns-in_err-memory-clause-passes : goal.returns-in_err-memory-clause-passes
returns-in_err-memory-clause-passes g c = λ next. passes_stop _ _ _ c.from_residual-in_err-memory.ensures.1

pub returns-clause-passes : goal.returns-clause-passes
unfolding leads
returns-clause-passes g c = λ next.
    let x1 = c.in_ok-replace.ensures.replaced in
    let k1 = context_stays c.args.forms.now c.replace.new.forms c.args.context.now c.replace.ensures.kept
    c.requires.held in
    let l1 = registers_so (g.P.Program.object c.args.program.now) _
    (replacement_in c.replace.new.forms c.replace.new.self.put)
    (replacement (g.P.Program.object c.args.program.now) c.args.subst)
    (context_in c.replace.new.forms c.args.context.now) (context_in c.args.forms.now c.args.context.now)
    (reg_rows (g.P.Program.object c.args.program.now) c.args.t) c.in_ok-registers.ensures.like x1 k1 in
    let x2 = replacement_stays c.replace.new.forms c.registers_are_like.new.forms c.replace.new.self.put
    c.registers_are_like.ensures.kept c.replace.ensures.shared.put ∙ x1 in
    let k2 = context_stays c.args.forms.now c.registers_are_like.new.forms c.args.context.now
    (keeps_both _ _ _ c.replace.ensures.kept c.registers_are_like.ensures.kept) c.requires.held in
    let l2 = queue_so (g.P.Program.object c.args.program.now) _
    (replacement_in c.registers_are_like.new.forms c.replace.new.self.put)
    (replacement (g.P.Program.object c.args.program.now) c.args.subst)
    (context_in c.registers_are_like.new.forms c.args.context.now) (context_in c.args.forms.now c.args.context.now)
    (queue_rows (g.P.Program.object c.args.program.now) c.args.t) c.in_ok-queue.ensures.like x2 k2 in
    let x3 = replacement_stays c.replace.new.forms c.queue_is_like.new.forms c.replace.new.self.put
    (keeps_both _ _ _ c.registers_are_like.ensures.kept c.queue_is_like.ensures.kept) c.replace.ensures.shared.put
    ∙ x1 in
    let k3 = context_stays c.args.forms.now c.queue_is_like.new.forms c.args.context.now
    (keeps_both _ _ _ (keeps_both _ _ _ c.replace.ensures.kept c.registers_are_like.ensures.kept)
    c.queue_is_like.ensures.kept) c.requires.held in
    let l3 = memory_so (g.P.Program.object c.args.program.now) _
    (replacement_in c.queue_is_like.new.forms c.replace.new.self.put)
    (replacement (g.P.Program.object c.args.program.now) c.args.subst)
    (context_in c.queue_is_like.new.forms c.args.context.now) (context_in c.args.forms.now c.args.context.now)
    (memory_of (g.P.Program.object c.args.program.now) c.args.t) c.in_ok-memory.ensures.like x3 k3 in
    (rw c.is_annotated-annotated.ensures at c.in_ok-need.ensures.passes) _
    ∙ (rw l1 at c.in_ok-need-2.ensures.passes) _ ∙ (rw l2 at c.in_ok-need-3.ensures.passes) _
    ∙ (rw l3 at c.in_ok-need-4.ensures.passes) _

pub returns-in_err-need-4-clause-passes : goal.returns-in_err-need-4-clause-passes
unfolding leads
returns-in_err-need-4-clause-passes g c = λ next.
    let x1 = c.in_ok-replace.ensures.replaced in
    let k1 = context_stays c.args.forms.now c.replace.new.forms c.args.context.now c.replace.ensures.kept
    c.requires.held in
    let l1 = registers_so (g.P.Program.object c.args.program.now) _
    (replacement_in c.replace.new.forms c.replace.new.self.put)
    (replacement (g.P.Program.object c.args.program.now) c.args.subst)
    (context_in c.replace.new.forms c.args.context.now) (context_in c.args.forms.now c.args.context.now)
    (reg_rows (g.P.Program.object c.args.program.now) c.args.t) c.in_ok-registers.ensures.like x1 k1 in
    let x2 = replacement_stays c.replace.new.forms c.registers_are_like.new.forms c.replace.new.self.put
    c.registers_are_like.ensures.kept c.replace.ensures.shared.put ∙ x1 in
    let k2 = context_stays c.args.forms.now c.registers_are_like.new.forms c.args.context.now
    (keeps_both _ _ _ c.replace.ensures.kept c.registers_are_like.ensures.kept) c.requires.held in
    let l2 = queue_so (g.P.Program.object c.args.program.now) _
    (replacement_in c.registers_are_like.new.forms c.replace.new.self.put)
    (replacement (g.P.Program.object c.args.program.now) c.args.subst)
    (context_in c.registers_are_like.new.forms c.args.context.now) (context_in c.args.forms.now c.args.context.now)
    (queue_rows (g.P.Program.object c.args.program.now) c.args.t) c.in_ok-queue.ensures.like x2 k2 in
    let x3 = replacement_stays c.replace.new.forms c.queue_is_like.new.forms c.replace.new.self.put
    (keeps_both _ _ _ c.registers_are_like.ensures.kept c.queue_is_like.ensures.kept) c.replace.ensures.shared.put
    ∙ x1 in
    let k3 = context_stays c.args.forms.now c.queue_is_like.new.forms c.args.context.now
    (keeps_both _ _ _ (keeps_both _ _ _ c.replace.ensures.kept c.registers_are_like.ensures.kept)
    c.queue_is_like.ensures.kept) c.requires.held in
    let l3 = memory_so (g.P.Program.object c.args.program.now) _
    (replacement_in c.queue_is_like.new.forms c.replace.new.self.put)
    (replacement (g.P.Program.object c.args.program.now) c.args.subst)
    (context_in c.queue_is_like.new.forms c.args.context.now) (context_in c.args.forms.now c.args.context.now)
    (memory_of (g.P.Program.object c.args.program.now) c.args.t) c.in_ok-memory.ensures.like x3 k3 in
    passes_exit _ _ _ _ _ c.from_residual-in_err-need-4.ensures.1
    ((rw c.is_annotated-annotated.ensures at c.in_ok-need.ensures.passes) _
    ∙ (rw l1 at c.in_ok-need-2.ensures.passes) _ ∙ (rw l2 at c.in_ok-need-3.ensures.passes) _)
    ((rw l3 at c.in_err-need-4.ensures.passes) _)

pub returns-in_err-replace-clause-steps : goal.returns-in_err-replace-clause-steps
returns-in_err-replace-clause-steps g c =
    let o = g.P.Program.object c.args.program.now in
    let n = length o.nodes in
    let z = cost_rises o 0 n (omega arith) in
    omega (arith, z, c.replace.ensures.steps)

pub returns-in_err-registers-clause-steps : goal.returns-in_err-registers-clause-steps
returns-in_err-registers-clause-steps g c =
    let o = g.P.Program.object c.args.program.now in
    let n = length o.nodes in
    let z = cost_rises o 0 n (omega arith) in
    let u = updates (updates_held c.replace.new.forms c.replace.new.self.put.memory) in
    let w = cost_rises o u n c.in_ok-replace.ensures.count in
    omega (arith, z, w, c.replace.ensures.steps, c.registers_are_like.ensures.steps)

pub returns-in_err-need-2-clause-steps : goal.returns-in_err-need-2-clause-steps
returns-in_err-need-2-clause-steps g c =
    let o = g.P.Program.object c.args.program.now in
    let n = length o.nodes in
    let z = cost_rises o 0 n (omega arith) in
    let u = updates (updates_held c.replace.new.forms c.replace.new.self.put.memory) in
    let w = cost_rises o u n c.in_ok-replace.ensures.count in
    omega (arith, z, w, c.replace.ensures.steps, c.registers_are_like.ensures.steps)

pub returns-in_err-queue-clause-steps : goal.returns-in_err-queue-clause-steps
returns-in_err-queue-clause-steps g c =
    let o = g.P.Program.object c.args.program.now in
    let n = length o.nodes in
    let z = cost_rises o 0 n (omega arith) in
    let u = updates (updates_held c.replace.new.forms c.replace.new.self.put.memory) in
    let w = cost_rises o u n c.in_ok-replace.ensures.count in
    let k = memory_stays c.replace.new.forms c.registers_are_like.new.forms c.replace.new.self.put.memory
    c.registers_are_like.ensures.kept c.replace.ensures.shared.put.memory in
    let y : (g.M.Meter.counted c.queue_is_like.new.meter) ≤ (g.M.Meter.counted c.registers_are_like.new.meter) + 16 *
    tree_cost o u =
    rw k at c.queue_is_like.ensures.steps in
    omega (arith, z, w, c.replace.ensures.steps, c.registers_are_like.ensures.steps, y)

pub returns-in_err-need-3-clause-steps : goal.returns-in_err-need-3-clause-steps
returns-in_err-need-3-clause-steps g c =
    let o = g.P.Program.object c.args.program.now in
    let n = length o.nodes in
    let z = cost_rises o 0 n (omega arith) in
    let u = updates (updates_held c.replace.new.forms c.replace.new.self.put.memory) in
    let w = cost_rises o u n c.in_ok-replace.ensures.count in
    let k = memory_stays c.replace.new.forms c.registers_are_like.new.forms c.replace.new.self.put.memory
    c.registers_are_like.ensures.kept c.replace.ensures.shared.put.memory in
    let y : (g.M.Meter.counted c.queue_is_like.new.meter) ≤ (g.M.Meter.counted c.registers_are_like.new.meter) + 16 *
    tree_cost o u =
    rw k at c.queue_is_like.ensures.steps in
    omega (arith, z, w, c.replace.ensures.steps, c.registers_are_like.ensures.steps, y)

pub returns-in_err-memory-clause-steps : goal.returns-in_err-memory-clause-steps
returns-in_err-memory-clause-steps g c =
    let o = g.P.Program.object c.args.program.now in
    let n = length o.nodes in
    let z = cost_rises o 0 n (omega arith) in
    let u = updates (updates_held c.replace.new.forms c.replace.new.self.put.memory) in
    let w = cost_rises o u n c.in_ok-replace.ensures.count in
    let k = memory_stays c.replace.new.forms c.registers_are_like.new.forms c.replace.new.self.put.memory
    c.registers_are_like.ensures.kept c.replace.ensures.shared.put.memory in
    let y : (g.M.Meter.counted c.queue_is_like.new.meter) ≤ (g.M.Meter.counted c.registers_are_like.new.meter) + 16 *
    tree_cost o u =
    rw k at c.queue_is_like.ensures.steps in
    let l = memory_stays c.replace.new.forms c.queue_is_like.new.forms c.replace.new.self.put.memory
    (keeps_both _ _ _ c.registers_are_like.ensures.kept c.queue_is_like.ensures.kept)
    c.replace.ensures.shared.put.memory in
    let x : (g.M.Meter.counted c.memory_is_like.new.meter) ≤ (g.M.Meter.counted c.queue_is_like.new.meter) + tree_cost o
    u =
    rw l at c.memory_is_like.ensures.steps in
    omega (arith, z, w, c.replace.ensures.steps, c.registers_are_like.ensures.steps, y, x)

pub returns-clause-steps : goal.returns-clause-steps
returns-clause-steps g c =
    let o = g.P.Program.object c.args.program.now in
    let n = length o.nodes in
    let z = cost_rises o 0 n (omega arith) in
    let u = updates (updates_held c.replace.new.forms c.replace.new.self.put.memory) in
    let w = cost_rises o u n c.in_ok-replace.ensures.count in
    let k = memory_stays c.replace.new.forms c.registers_are_like.new.forms c.replace.new.self.put.memory
    c.registers_are_like.ensures.kept c.replace.ensures.shared.put.memory in
    let y : (g.M.Meter.counted c.queue_is_like.new.meter) ≤ (g.M.Meter.counted c.registers_are_like.new.meter) + 16 *
    tree_cost o u =
    rw k at c.queue_is_like.ensures.steps in
    let l = memory_stays c.replace.new.forms c.queue_is_like.new.forms c.replace.new.self.put.memory
    (keeps_both _ _ _ c.registers_are_like.ensures.kept c.queue_is_like.ensures.kept)
    c.replace.ensures.shared.put.memory in
    let x : (g.M.Meter.counted c.memory_is_like.new.meter) ≤ (g.M.Meter.counted c.queue_is_like.new.meter) + tree_cost o
    u =
    rw l at c.memory_is_like.ensures.steps in
    omega (arith, z, w, c.replace.ensures.steps, c.registers_are_like.ensures.steps, y, x)

pub returns-in_err-need-4-clause-steps : goal.returns-in_err-need-4-clause-steps
returns-in_err-need-4-clause-steps g c =
    let o = g.P.Program.object c.args.program.now in
    let n = length o.nodes in
    let z = cost_rises o 0 n (omega arith) in
    let u = updates (updates_held c.replace.new.forms c.replace.new.self.put.memory) in
    let w = cost_rises o u n c.in_ok-replace.ensures.count in
    let k = memory_stays c.replace.new.forms c.registers_are_like.new.forms c.replace.new.self.put.memory
    c.registers_are_like.ensures.kept c.replace.ensures.shared.put.memory in
    let y : (g.M.Meter.counted c.queue_is_like.new.meter) ≤ (g.M.Meter.counted c.registers_are_like.new.meter) + 16 *
    tree_cost o u =
    rw k at c.queue_is_like.ensures.steps in
    let l = memory_stays c.replace.new.forms c.queue_is_like.new.forms c.replace.new.self.put.memory
    (keeps_both _ _ _ c.registers_are_like.ensures.kept c.queue_is_like.ensures.kept)
    c.replace.ensures.shared.put.memory in
    let x : (g.M.Meter.counted c.memory_is_like.new.meter) ≤ (g.M.Meter.counted c.queue_is_like.new.meter) + tree_cost o
    u =
    rw l at c.memory_is_like.ensures.steps in
    omega (arith, z, w, c.replace.ensures.steps, c.registers_are_like.ensures.steps, y, x)

pub returns-in_err-registers-clause-shared : goal.returns-in_err-registers-clause-shared
returns-in_err-registers-clause-shared g c = shared_made (g.P.Program.object c.args.program.now) c.replace.new.forms
    c.registers_are_like.new.forms c.replace.new.self c.registers_are_like.new.made c.registers_are_like.ensures.kept
    c.replace.ensures.shared c.registers_are_like.ensures.made

pub returns-in_err-need-2-clause-shared : goal.returns-in_err-need-2-clause-shared
returns-in_err-need-2-clause-shared g c = shared_made (g.P.Program.object c.args.program.now) c.replace.new.forms
    c.registers_are_like.new.forms c.replace.new.self c.registers_are_like.new.made c.registers_are_like.ensures.kept
    c.replace.ensures.shared c.registers_are_like.ensures.made

pub returns-in_err-queue-clause-shared : goal.returns-in_err-queue-clause-shared
returns-in_err-queue-clause-shared g c = shared_made (g.P.Program.object c.args.program.now) c.replace.new.forms
    c.queue_is_like.new.forms c.replace.new.self c.queue_is_like.new.made
    (keeps_both _ _ _ c.registers_are_like.ensures.kept c.queue_is_like.ensures.kept) c.replace.ensures.shared
    c.queue_is_like.ensures.made

pub returns-in_err-need-3-clause-shared : goal.returns-in_err-need-3-clause-shared
returns-in_err-need-3-clause-shared g c = shared_made (g.P.Program.object c.args.program.now) c.replace.new.forms
    c.queue_is_like.new.forms c.replace.new.self c.queue_is_like.new.made
    (keeps_both _ _ _ c.registers_are_like.ensures.kept c.queue_is_like.ensures.kept) c.replace.ensures.shared
    c.queue_is_like.ensures.made

pub returns-in_err-memory-clause-shared : goal.returns-in_err-memory-clause-shared
returns-in_err-memory-clause-shared g c = shared_made (g.P.Program.object c.args.program.now) c.replace.new.forms
    c.memory_is_like.new.forms c.replace.new.self c.memory_is_like.new.made
    (keeps_both _ _ _ (keeps_both _ _ _ c.registers_are_like.ensures.kept c.queue_is_like.ensures.kept)
    c.memory_is_like.ensures.kept) c.replace.ensures.shared c.memory_is_like.ensures.made

pub returns-in_err-need-4-clause-shared : goal.returns-in_err-need-4-clause-shared
returns-in_err-need-4-clause-shared g c = shared_made (g.P.Program.object c.args.program.now) c.replace.new.forms
    c.memory_is_like.new.forms c.replace.new.self c.memory_is_like.new.made
    (keeps_both _ _ _ (keeps_both _ _ _ c.registers_are_like.ensures.kept c.queue_is_like.ensures.kept)
    c.memory_is_like.ensures.kept) c.replace.ensures.shared c.memory_is_like.ensures.made

pub returns-clause-shared : goal.returns-clause-shared
returns-clause-shared g c =
    let o = g.P.Program.object c.args.program.now in
    c.forget.ensures.shared o c.replace.new.forms (sym c.count-held.ensures)
    (keeps_both _ _ _ (keeps_both _ _ _ c.registers_are_like.ensures.kept c.queue_is_like.ensures.kept)
    c.memory_is_like.ensures.kept)
    c.replace.ensures.shared.own c.replace.ensures.shared.put c.memory_is_like.ensures.made

pub returns-clause-kept : goal.returns-clause-kept
returns-clause-kept g c = keeps_both _ _ _ c.replace.ensures.kept
    (c.forget.ensures.kept c.replace.new.forms (sym c.count-held.ensures)
    (keeps_both _ _ _ (keeps_both _ _ _ c.registers_are_like.ensures.kept c.queue_is_like.ensures.kept)
    c.memory_is_like.ensures.kept))
