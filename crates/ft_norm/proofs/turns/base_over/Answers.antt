use Rattle.std.proofs.Common.{◌∙◌, ap, arith, sym}
use Rattle.ft_static.specs.NormalForm.{constant_of, is_not_zero, norm_sub}
use Rattle.ft_norm.specs.Held.{polynomial_at}
use Rattle.ft_norm.specs.Entries.{forms_of}
use Rattle.ft_norm.proofs.Forms.{length-forms_of}
use Rattle.ft_norm.proofs.Walking.{integer_bound}
use Rattle.ft_norm.proofs.Ways.{alike_apart, alike_itself, alike_joined}
use Rattle.ft_norm.proofs.turns.base_over.Goals as goal

pub terms_at-requires-clause-named : goal.terms_at-requires-clause-named
terms_at-requires-clause-named c = integer_bound c.args.entries.now c.args.at c.requires.address

pub differs-requires-clause-terms : goal.differs-requires-clause-terms
differs-requires-clause-terms c =
    let b = integer_bound c.args.entries.now c.args.at c.requires.address in
    let l = length-forms_of c.args.entries.now in
    record {
      terms = c.terms_at.ensures.terms;
      distinct = c.requires.entries.distinct;
      reach = omega (arith, b, l, c.terms_at.ensures.reach);
    }

pub differs-requires-clause-address : goal.differs-requires-clause-address
differs-requires-clause-address c = integer_bound c.args.entries.now c.in-Some.path.now.at
    (c.requires.paths c.args.older c.in-Some.path.now (sym c.in-Some.ensures.value)).base.first

pub returns-then-differs : goal.returns-then-differs
returns-then-differs c =
    let es = c.args.entries.now in
    let path = c.requires.paths c.args.older c.in-Some.path.now (sym c.in-Some.ensures.value) in
    let d = c.differs.ensures ∙ ap (λ q. is_not_zero
    (constant_of (norm_sub q (polynomial_at (forms_of es) c.in-Some.path.now.at)))) c.terms_at.ensures.form in
    alike_joined es c.args.at c.in-Some.path.now.at c.in-Some.path.now.base
    (alike_apart es c.args.at c.in-Some.path.now.at c.requires.entries c.requires.address path.base.first
    (sym d ∙ c.if-differs.true)) path.base

pub returns-else-differs : goal.returns-else-differs
returns-else-differs c = alike_itself c.args.entries.now c.args.at c.requires.address

pub returns-in-None : goal.returns-in-None
returns-in-None c = alike_itself c.args.entries.now c.args.at c.requires.address
