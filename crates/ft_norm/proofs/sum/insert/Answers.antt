use Rattle.std.proofs.Common.{◌∙◌, ap}
use Rattle.ft_norm.specs.Entries.{monomial_form, polynomial_form}
use Rattle.ft_norm.proofs.Ordered.{positive, terms_insert}
use Rattle.ft_norm.proofs.Sums.{form_insert, form_skip, reach-insert}
use Rattle.ft_norm.proofs.sum.insert.Goals as goal

pub returns-then-coefficient-eq0-clause-value : goal.returns-then-coefficient-eq0-clause-value
returns-then-coefficient-eq0-clause-value c = λ fs.
    form_skip fs c.args.sum.now.items (monomial_form fs c.args.atoms) c.args.coefficient c.requires.terms
    c.if-coefficient-eq0.true

pub returns-clause-value : goal.returns-clause-value
returns-clause-value c = λ fs. ap (polynomial_form fs) c.in_ok-insert.ensures.ok
    ∙ form_insert fs c.args.sum.now.items c.args.i (record { atoms = c.args.atoms; coefficient = c.args.coefficient })
    c.requires.terms c.ranges.coefficient.fits

pub returns-clause-terms : goal.returns-clause-terms
returns-clause-terms c =
    rw c.in_ok-insert.ensures.ok (terms_insert c.args.sum.now.items c.args.i (record {
      atoms = c.args.atoms;
      coefficient = c.args.coefficient;
    }) c.requires.terms c.requires.place c.requires.atoms
    (positive c.args.coefficient c.if-coefficient-eq0.false) c.ranges.coefficient.fits)

pub returns-clause-reach : goal.returns-clause-reach
returns-clause-reach c = λ fs n h k. rw c.in_ok-insert.ensures.ok
    (reach-insert fs c.args.sum.now.items c.args.i n (record { atoms = c.args.atoms; coefficient = c.args.coefficient })
    h k)
