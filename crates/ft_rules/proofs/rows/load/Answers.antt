use Rattle.std.proofs.Common.{arith}
use Rattle.std.proofs.lemmas.List.{length-map}
use Rattle.ft_contexts.specs.Contexts.{pair_in}
use Rattle.std.proofs.Common.{refl, ◌∙◌}
use Rattle.ft_rules.proofs.Chains.{does_exit, does_stop, does_note}
use Rattle.ft_contexts.proofs.Kept.{keeps_itself}
use Rattle.std.proofs.Common.{length}
use Rattle.ft_norm.proofs.HeldForms.{memory_from, keeps_both}
use Rattle.ft_types.specs.Spellable.{IsBase}
use Rattle.ft_contexts.proofs.Kept.{integer_kept, updates_found, integer_stays}
use Rattle.ft_rules.proofs.rows.load.Goals as goal

pub returns-in_err-address-clause-row : goal.returns-in_err-address-clause-row
returns-in_err-address-clause-row g c = λ o t. does_exit _ _ _ _ o _ _ _ c.from_residual.ensures.1 (refl)
    (c.in_err-address.ensures.passes c.args.forms.now _) (keeps_itself _) c.requires t

pub returns-in_err-basic-clause-row : goal.returns-in_err-basic-clause-row
returns-in_err-basic-clause-row g c = λ o t. does_exit _ _ _ _ o _ _ _ c.from_residual-in_err-basic.ensures.1
    (c.in_ok-address.ensures.passes c.args.forms.now _) (c.in_err-basic.ensures.passes _) (keeps_itself _) c.requires t

pub returns-in_err-memory-clause-row : goal.returns-in_err-memory-clause-row
returns-in_err-memory-clause-row g c = λ o t. does_stop _ _ o _ _ _ c.from_residual-in_err-memory.ensures.1
    c.seen.ensures.kept c.requires t

pub returns-in_err-form-clause-row : goal.returns-in_err-form-clause-row
returns-in_err-form-clause-row g c = λ o t. does_stop _ _ o _ _ _ c.from_residual-in_err-form.ensures.1
    (keeps_both _ _ _ c.seen.ensures.kept c.sel.ensures.kept) c.requires t

pub sel-requires-clause-memory : goal.sel-requires-clause-memory
sel-requires-clause-memory g c = memory_from c.seen.new.forms c.in_ok-memory.memory _ c.in_ok-memory.ensures.form

pub sel-requires-clause-address : goal.sel-requires-clause-address
sel-requires-clause-address g c = integer_kept c.args.forms.now c.seen.new.forms c.in_ok-address.address.form
    c.seen.ensures.kept (c.in_ok-address.ensures.held c.args.forms.now c.requires)

pub returns-clause-row : goal.returns-clause-row
returns-clause-row g c = λ o t.
    let memory = updates_found c.seen.new.forms c.in_ok-memory.memory _ c.in_ok-memory.ensures.form in
    let address = integer_stays c.args.forms.now c.seen.new.forms c.in_ok-address.address.form c.seen.ensures.kept
    (c.in_ok-address.ensures.held c.args.forms.now c.requires) in
    let base : IsBase (length o.types) c.in_ok-basic.basic.base =
    rw c.in_ok-basic.ensures.base (c.in_ok-address.ensures.types o t) in
    does_note _ o _ _ _ _ _ _ _
    (c.in_ok-address.ensures.passes c.args.forms.now _ ∙ c.in_ok-basic.ensures.passes _)
    (rw (memory, address) at c.in_ok-form.ensures.form) base (keeps_both _ _ _ c.seen.ensures.kept c.sel.ensures.kept)
    c.requires t c.put.ensures.context c.put.ensures.held c.put.ensures.types

pub returns-in_err-memory-clause-steps : goal.returns-in_err-memory-clause-steps
returns-in_err-memory-clause-steps g c =
    let q = length-map c.args.context.now.queue (pair_in c.args.forms.now) in
    omega (arith, q, c.seen.ensures.steps)

pub returns-in_err-form-clause-steps : goal.returns-in_err-form-clause-steps
returns-in_err-form-clause-steps g c =
    let q = length-map c.args.context.now.queue (pair_in c.args.forms.now) in
    omega (arith, q, c.seen.ensures.steps, c.in_ok-memory.ensures.count, c.sel.ensures.steps)

pub returns-clause-steps : goal.returns-clause-steps
returns-clause-steps g c =
    let q = length-map c.args.context.now.queue (pair_in c.args.forms.now) in
    omega (arith, q, c.seen.ensures.steps, c.in_ok-memory.ensures.count, c.sel.ensures.steps)
