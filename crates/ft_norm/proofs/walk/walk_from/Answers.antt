use Rattle.std.proofs.Common.{◌≡◌, ap, arith, refl, suc, sym, ◌∙◌}
use Rattle.ft_static.specs.Form.{updates}
use Rattle.ft_static.specs.NormalForm.{constant_of, is_not_zero, norm_sub}
use Rattle.ft_norm.specs.Held.{polynomial_at, updates_at}
use Rattle.ft_norm.specs.Entries.{forms_of}
use Rattle.ft_norm.proofs.Forms.{length-forms_of, link, link_address, link_value, no_link}
use Rattle.ft_norm.proofs.Walking.{address_differs, integer_bound, memory_bound, memory_reached_at}
use Rattle.ft_norm.proofs.Walking.{one_is_same, walk_end, walk_value, walk_stop}
use Rattle.ft_norm.proofs.Ways.{alike_apart, update_address, update_read}
use Rattle.ft_norm.proofs.walk.walk_from.Goals as goal

pub loop-m-init : goal.loop-m-init
loop-m-init g c = record {
  bound = memory_bound c.args.entries.now c.args.memory c.requires.memory;
  sort = memory_reached_at c.args.entries.now c.args.memory c.requires.memory;
  form = refl;
  steps = omega arith;
}

pub returns-in_default : goal.returns-in_default
returns-in_default g c =
    let es = c.args.entries.now in
    let l = c.loop-m.invariant.bound in
    let a = no_link es c.loop-m.m c.index-entries-m.result c.requires.entries.earlier l c.index-entries-m.is
    c.in_default.not-Update in
    record {
      ends = c.loop-m.invariant.sort;
      form =
          walk_end (updates_at (forms_of es) c.loop-m.m) (polynomial_at (forms_of es) c.args.p) a
          ∙ c.loop-m.invariant.form;
      steps = omega (arith, c.loop-m.invariant.steps);
    }

pub returns-then-at-p : goal.returns-then-at-p
returns-then-at-p g c =
    let es = c.args.entries.now in
    let l = c.loop-m.invariant.bound in
    let a = link es c.loop-m.m c.index-entries-m.result c.in-Update.at c.in-Update.value c.in-Update.older
    c.requires.entries.earlier l c.index-entries-m.is c.in-Update.is in
    record {
      ends = link_value es c.loop-m.m c.index-entries-m.result c.in-Update.at c.in-Update.value c.in-Update.older
          c.requires.entries.earlier l c.index-entries-m.is c.in-Update.is;
      form = walk_value _ _ _ _ _ _ a refl (one_is_same (forms_of es) c.in-Update.at c.args.p c.if-at-p.true)
          ∙ c.loop-m.invariant.form;
      steps = omega (arith, c.loop-m.invariant.steps);
    }

pub terms_at-terms-requires-clause-named : goal.terms_at-terms-requires-clause-named
terms_at-terms-requires-clause-named g c = integer_bound c.args.entries.now c.args.p c.requires.at

pub differs-requires-clause-terms : goal.differs-requires-clause-terms
differs-requires-clause-terms g c =
    let b = integer_bound c.args.entries.now c.args.p c.requires.at in
    let l = length-forms_of c.args.entries.now in
    record {
      terms = c.terms_at-terms.ensures.terms;
      distinct = c.requires.entries.distinct;
      reach = omega (arith, b, l, c.terms_at-terms.ensures.reach);
    }

pub differs-requires-clause-address : goal.differs-requires-clause-address
differs-requires-clause-address g c =
    let es = c.args.entries.now in
    integer_bound es c.in-Update.at (link_address es c.loop-m.m c.index-entries-m.result c.in-Update.at
    c.in-Update.value c.in-Update.older c.requires.entries.earlier c.loop-m.invariant.bound c.index-entries-m.is
    c.in-Update.is)

pub returns-then-not-differs : goal.returns-then-not-differs
returns-then-not-differs g c =
    let es = c.args.entries.now in
    let l = c.loop-m.invariant.bound in
    let a = link es c.loop-m.m c.index-entries-m.result c.in-Update.at c.in-Update.value c.in-Update.older
    c.requires.entries.earlier l c.index-entries-m.is c.in-Update.is in
    let d = c.differs.ensures ∙ ap (λ q. is_not_zero
    (constant_of (norm_sub q (polynomial_at (forms_of es) c.in-Update.at)))) c.terms_at-terms.ensures.form in
    let f = address_differs es c.loop-m.m c.index-entries-m.result c.in-Update.at c.in-Update.value c.in-Update.older
    c.args.p c.requires.entries l c.index-entries-m.is c.in-Update.is c.requires.at c.if-at-p.false in
    record {
      ends = c.loop-m.invariant.sort;
      form = walk_stop _ _ _ _ _ _ c.differs.result a refl f d c.if-not-differs.true ∙ c.loop-m.invariant.form;
      steps = omega (arith, c.loop-m.invariant.steps, c.pay.ensures);
    }

pub returns-in_err-take-clause-steps : goal.returns-in_err-take-clause-steps
returns-in_err-take-clause-steps g c =
    let es = c.args.entries.now in
    let a = link es c.loop-m.m c.index-entries-m.result c.in-Update.at c.in-Update.value c.in-Update.older
    c.requires.entries.earlier c.loop-m.invariant.bound c.index-entries-m.is c.in-Update.is in
    let e : updates (updates_at (forms_of es) c.loop-m.m)
    ≡ suc (updates (updates_at (forms_of es) c.in-Update.older)) = ap updates a in
    omega (arith, c.loop-m.invariant.steps, e, c.take.ensures, c.pay.ensures)

pub returns-in_err-pay-clause-steps : goal.returns-in_err-pay-clause-steps
returns-in_err-pay-clause-steps g c = omega (arith, c.loop-m.invariant.steps, c.pay.ensures)

pub loop-m-preserved : goal.loop-m-preserved
loop-m-preserved g c =
    let es = c.args.entries.now in
    let l = c.loop-m.invariant.bound in
    let u = update_read es c.loop-m.m c.index-entries-m.result c.in-Update.at c.in-Update.value c.in-Update.older l
    c.index-entries-m.is c.in-Update.is in
    let d = c.differs.ensures ∙ ap (λ q. is_not_zero
    (constant_of (norm_sub q (polynomial_at (forms_of es) c.in-Update.at)))) c.terms_at-terms.ensures.form in
    let i = alike_apart es c.args.p c.in-Update.at c.requires.entries c.requires.at (update_address es c.loop-m.m
    c.in-Update.at c.in-Update.value c.in-Update.older c.requires.entries u) (sym d ∙ c.if-not-differs.false) in
    let p = c.past-m.ensures c.in-Update.at c.in-Update.value u i (λ e. c.if-at-p.false (sym e)) in
    record {
      bound = memory_bound es c.past-m.result p.sort;
      sort = memory_reached_at es c.past-m.result p.sort;
      form = sym p.same ∙ c.loop-m.invariant.form;
      steps = (let f = p.fewer in omega (arith, c.loop-m.invariant.steps, f, c.take.ensures, c.pay.ensures));
    }

pub loop-m-smaller : goal.loop-m-smaller
loop-m-smaller g c =
    let es = c.args.entries.now in
    let l = c.loop-m.invariant.bound in
    let u = update_read es c.loop-m.m c.index-entries-m.result c.in-Update.at c.in-Update.value c.in-Update.older l
    c.index-entries-m.is c.in-Update.is in
    let d = c.differs.ensures ∙ ap (λ q. is_not_zero
    (constant_of (norm_sub q (polynomial_at (forms_of es) c.in-Update.at)))) c.terms_at-terms.ensures.form in
    let i = alike_apart es c.args.p c.in-Update.at c.requires.entries c.requires.at (update_address es c.loop-m.m
    c.in-Update.at c.in-Update.value c.in-Update.older c.requires.entries u) (sym d ∙ c.if-not-differs.false) in
    (c.past-m.ensures c.in-Update.at c.in-Update.value u i (λ e. c.if-at-p.false (sym e))).below
