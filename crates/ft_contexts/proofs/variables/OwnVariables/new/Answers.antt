use Rattle.std.proofs.Common.{◌≡◌, List, slice_get, Some, arith, subst}
use Rattle.std.proofs.lemmas.List.{length_push}
use Rattle.ft_static.specs.Form.{integer_form, variable_atom}
use Rattle.ft_static.specs.NormalForm.{alone}
use Rattle.ft_norm.specs.declared.form.Form.{Form}
use Rattle.ft_norm.specs.Held.{held}
use Rattle.ft_norm.proofs.Memos.{remembers_none}
use Rattle.ft_norm.proofs.HeldForms.{keeps_both}
use Rattle.ft_contexts.proofs.Lists.{get_pushed}
use Rattle.ft_contexts.proofs.variables.OwnVariables.new.Goals as goal

pub loop-i-preserved : goal.loop-i-preserved
loop-i-preserved c =
    let pushed = c.in_ok-push.ensures.ok in
    let long = length_push c.loop-i.integers c.in_ok-form.form in
    record {
      kept = keeps_both _ _ _ c.loop-i.invariant.kept c.var.ensures.kept;
      count = rw pushed (omega arith);
      made = λ i f e. get_pushed c.loop-i.integers c.in_ok-form.form i f (subst (λ (xs : List Form). slice_get xs i
          ≡ Some f) pushed e) (λ j z. held c.var.new.self z ≡ Some (integer_form (alone (variable_atom j))))
          (rw c.loop-i.invariant.count c.in_ok-form.ensures.form) (λ j z s.
          c.var.ensures.kept.forms_stay z _ (c.loop-i.invariant.made j z s));
    }

pub returns-clause-own : goal.returns-clause-own
returns-clause-own c = λ o. record {
  own = record {
    count = omega arith;
    integers = λ i f e. c.memory.ensures.kept.forms_stay f _ (c.loop-i.invariant.made i f e);
    memory = c.in_ok-memory.ensures.form;
  };
  made = remembers_none o.nodes c.memory.new.self c.loop-i.integers c.in_ok-memory.memory c.new.result c.new.ensures;
}
