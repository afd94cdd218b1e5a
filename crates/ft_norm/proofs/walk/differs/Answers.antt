use Rattle.std.proofs.Common.{◌≤◌, ◌∙◌, ap, arith, length}
use Rattle.ft_static.specs.NormalForm.{constant_of, is_not_zero, norm_sub}
use Rattle.ft_norm.specs.Entries.{forms_of, polynomial_form, reach_of_terms}
use Rattle.ft_norm.specs.Terms.{terms_of}
use Rattle.ft_norm.proofs.Forms.{length-forms_of}
use Rattle.ft_norm.proofs.walk.differs.Goals as goal

pub returns : goal.returns
returns c =
    let fs = forms_of c.args.entries.now in
    let l = length-forms_of c.args.entries.now in
    let a : reach_of_terms fs (terms_of c.terms_at.result) ≤ length fs = omega (
      arith,
      l,
      c.terms_at.ensures.reach,
      c.requires.address,
    ) in
    c.are_apart.ensures fs c.requires.terms (record {
      terms = c.terms_at.ensures.terms;
      distinct = c.requires.entries.distinct;
      reach = a;
    })
    ∙ ap (λ y. is_not_zero (constant_of (norm_sub (polynomial_form fs (terms_of c.args.terms)) y)))
    c.terms_at.ensures.form
