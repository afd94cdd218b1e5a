use Rattle.std.proofs.Common.{refl, ◌∙◌}
use Rattle.ft_isa.specs.declared.basic.Basic.{Basic}
use Rattle.ft_norm.specs.Held.{polynomial}
use Rattle.ft_typing.specs.Context.{with_type}
use Rattle.ft_typing.specs.RowWords.{Goes, Outcome, run_form}
use Rattle.ft_contexts.specs.Contexts.{context_in}
use Rattle.ft_contexts.proofs.Kept.{keeps_itself}
use Rattle.ft_rules.proofs.Chains.{does_exit, does_stop, does_note}
use Rattle.ft_rules.proofs.runs.index.Goals as goal

pub returns-in_err-named : goal.returns-in_err-named
returns-in_err-named g c = does_exit _ _ _ _ _ _ _ _ c.from_residual.ensures.1 refl
    (c.in_err-named.ensures.passes c.args.forms.now _) (keeps_itself _) c.requires.held c.requires.types

pub returns-in_err-basic : goal.returns-in_err-basic
returns-in_err-basic g c =
    let next : Basic → Outcome = λ t. Goes (with_type c.args.rd.number (record {
      colour = c.in_ok-named.named.colour;
      basic = t;
      form = run_form c.args.first c.args.count (polynomial c.args.forms.now c.in_ok-named.named.form);
    })
    (context_in c.args.forms.now c.args.context.now)) in
    does_exit _ _ _ _ _ _ _ _ c.from_residual-in_err-basic.ensures.1 (c.in_ok-named.ensures.passes c.args.forms.now _)
    (c.in_err-basic.ensures.passes next) (keeps_itself _) c.requires.held c.requires.types

pub returns-in_err-form : goal.returns-in_err-form
returns-in_err-form g c = does_stop _ _ _ _ _ _ c.from_residual-in_err-form.ensures.1 c.run_form.ensures.kept
    c.requires.held c.requires.types

pub returns : goal.returns
returns g c =
    let next : Basic → Outcome = λ t. Goes (with_type c.args.rd.number (record {
      colour = c.in_ok-named.named.colour;
      basic = t;
      form = run_form c.args.first c.args.count (polynomial c.args.forms.now c.in_ok-named.named.form);
    })
    (context_in c.args.forms.now c.args.context.now)) in
    does_note _ _ _ _ _ _ _ _ _
    (c.in_ok-named.ensures.passes c.args.forms.now _ ∙ c.in_ok-basic.ensures.passes next)
    c.in_ok-form.ensures.form c.in_ok-basic.ensures.base c.run_form.ensures.kept c.requires.held c.requires.types
    c.put.ensures.context c.put.ensures.held c.put.ensures.types
