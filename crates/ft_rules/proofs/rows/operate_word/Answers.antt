use Rattle.std.proofs.Common.{refl, ◌∙◌}
use Rattle.ft_norm.proofs.HeldForms.{integer_from, keeps_both}
use Rattle.ft_rules.proofs.Chains.{does_exit, does_stop, does_note}
use Rattle.ft_contexts.proofs.Kept.{keeps_itself}
use Rattle.ft_contexts.proofs.Kept.{integer_kept, polynomial_found, integer_stays}
use Rattle.ft_rules.proofs.rows.operate_word.Goals as goal

pub returns-in_err-first-clause-row : goal.returns-in_err-first-clause-row
returns-in_err-first-clause-row g c = λ o t. does_exit _ _ _ _ o _ _ _ c.from_residual.ensures.1 (refl)
    (c.in_err-first.ensures.passes c.args.forms.now _) (keeps_itself _) c.requires t

pub returns-in_err-need-clause-row : goal.returns-in_err-need-clause-row
returns-in_err-need-clause-row g c = λ o t. does_exit _ _ _ _ o _ _ _ c.from_residual-in_err-need.ensures.1
    (c.in_ok-first.ensures.passes c.args.forms.now _) ((rw c.same_colour.ensures at c.in_err-need.ensures.passes) _)
    (keeps_itself _) c.requires t

pub returns-in_err-word-clause-row : goal.returns-in_err-word-clause-row
returns-in_err-word-clause-row g c = λ o t. does_stop _ _ o _ _ _ c.from_residual-in_err-word.ensures.1
    c.word.ensures.kept
    c.requires t

pub returns-in_err-form-clause-row : goal.returns-in_err-form-clause-row
returns-in_err-form-clause-row g c = λ o t. does_stop _ _ o _ _ _ c.from_residual-in_err-form.ensures.1
    (keeps_both _ _ _ c.word.ensures.kept c.op_within.ensures.kept) c.requires t

pub op_within-requires-clause-first : goal.op_within-requires-clause-first
op_within-requires-clause-first g c = integer_kept c.args.forms.now c.word.new.self c.in_ok-first.first.form
    c.word.ensures.kept
    (c.in_ok-first.ensures.held c.args.forms.now c.requires)

pub op_within-requires-clause-second : goal.op_within-requires-clause-second
op_within-requires-clause-second g c = integer_from c.word.new.self c.in_ok-word.word _ c.in_ok-word.ensures.form

pub returns-clause-row : goal.returns-clause-row
returns-clause-row g c = λ o t.
    let word = polynomial_found c.word.new.self c.in_ok-word.word _ c.in_ok-word.ensures.form in
    let first = integer_stays c.args.forms.now c.word.new.self c.in_ok-first.first.form c.word.ensures.kept
    (c.in_ok-first.ensures.held c.args.forms.now c.requires) in
    does_note _ o _ _ _ _ _ _ _
    (c.in_ok-first.ensures.passes c.args.forms.now _ ∙ (rw c.same_colour.ensures at c.in_ok-need.ensures.passes) _)
    (rw (word, first) at c.in_ok-form.ensures.form) tt (keeps_both _ _ _ c.word.ensures.kept c.op_within.ensures.kept)
    c.requires t c.put.ensures.context c.put.ensures.held c.put.ensures.types
