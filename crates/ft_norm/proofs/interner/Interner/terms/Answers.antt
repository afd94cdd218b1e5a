use Rattle.std.proofs.Common.{◌≡◌, ◌∙◌, ap}
use Rattle.ft_norm.specs.Entries.{forms_of}
use Rattle.ft_norm.specs.Terms.{terms_of}
use Rattle.ft_norm.proofs.HeldForms.{over_seen, within}
use Rattle.ft_norm.proofs.interner.Interner.terms.Goals as goal

pub terms_at-requires-clause-named : goal.terms_at-requires-clause-named
terms_at-requires-clause-named c = within c.self.inside.entries.keys c.as_slice.result.now c.args.self.now c.args.form.0
    _ c.self.view_is c.as_slice.ensures.keys c.requires.found

pub returns-clause-form : goal.returns-clause-form
returns-clause-form c =
    let g : forms_of c.as_slice.result.now ≡ c.args.self.now = ap forms_of c.as_slice.ensures.keys ∙ c.self.view_is in
    rw g at c.terms_at.ensures.form

pub returns-clause-over : goal.returns-clause-over
returns-clause-over c =
    let l = within c.self.inside.entries.keys c.as_slice.result.now c.args.self.now c.args.form.0 _ c.self.view_is
    c.as_slice.ensures.keys c.requires.found in
    over_seen c.self.inside.entries.keys c.as_slice.result.now c.args.self.now (terms_of c.terms_at.result)
    c.args.form.0 c.self.invariant.entries c.self.view_is c.as_slice.ensures.keys c.terms_at.ensures.terms
    c.terms_at.ensures.reach l
