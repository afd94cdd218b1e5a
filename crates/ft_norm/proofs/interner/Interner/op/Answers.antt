use Rattle.std.proofs.Common.{◌∙◌, ap, Some, rules}
use Rattle.ft_static.specs.Form.{integer_form}
use Rattle.ft_static.specs.NormalForm.{constant}
use Rattle.ft_norm.proofs.Constants.{op_known}
use Rattle.ft_norm.proofs.interner.Interner.op.Goals as goal

pub returns-in_ok-form-in-Some-Some-clause-form : goal.returns-in_ok-form-in-Some-Some-clause-form
returns-in_ok-form-in-Some-Some-clause-form c =
    let fs = c.args.self.now in
    c.in_ok-form-in-Some-Some.ensures.form ∙ (ap (λ n. Some (integer_form (constant n))) c.apply.ensures
    ∙ ap (λ p. Some (integer_form p)) (op_known c.args.op c.in-Some-Some.c c.in-Some-Some.d fs c.args.a c.args.b
    c.word_at-c.result c.word_at-d.result (search rules) (search rules) c.in-Some-Some.is-0 c.in-Some-Some.is-1
    c.word_at-c.ensures c.word_at-d.ensures))
