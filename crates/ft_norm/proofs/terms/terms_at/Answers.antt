use Rattle.std.proofs.Common.{List, map, ap, ◌∙◌, arith}
use Rattle.ft_norm.specs.declared.entry.LinearTerm.{LinearTerm}
use Rattle.ft_norm.specs.declared.packed.PackedTerm.{PackedTerm}
use Rattle.ft_norm.specs.Entries.{forms_of, full, polynomial_form}
use Rattle.ft_norm.specs.Packing.{unpacked}
use Rattle.ft_norm.proofs.Forms.{atom_reaches, form_read, lone_read, polynomial_read}
use Rattle.ft_norm.proofs.terms.terms_at.Goals as goal

pub returns-in-Atom-clause-form : goal.returns-in-Atom-clause-form
returns-in-Atom-clause-form c = lone_read c.args.entries.now c.args.i c.index-entries-i.result _
    c.requires.entries.earlier c.requires.named c.index-entries-i.is c.in-Atom.is

pub returns-in-Atom-clause-reach : goal.returns-in-Atom-clause-reach
returns-in-Atom-clause-reach c =
    let r = atom_reaches (forms_of c.args.entries.now) c.args.i _
    (form_read c.args.entries.now c.args.i c.index-entries-i.result _ c.requires.entries.earlier c.requires.named
    c.index-entries-i.is c.in-Atom.is) in
    omega (arith, r)

pub returns-in-Linear-clause-form : goal.returns-in-Linear-clause-form
returns-in-Linear-clause-form c =
    ap (λ (ts : List LinearTerm). polynomial_form (forms_of c.args.entries.now) (map full ts)) c.deref.ensures
    ∙ polynomial_read c.args.entries.now c.args.i c.index-entries-i.result _ c.requires.entries.earlier c.requires.named
    c.index-entries-i.is c.in-Linear.is

pub returns-in-Packed-clause-form : goal.returns-in-Packed-clause-form
returns-in-Packed-clause-form c =
    ap (λ (ts : List PackedTerm). polynomial_form (forms_of c.args.entries.now) (map unpacked ts))
    c.deref-in-Packed.ensures.value
    ∙ polynomial_read c.args.entries.now c.args.i c.index-entries-i.result _ c.requires.entries.earlier c.requires.named
    c.index-entries-i.is c.in-Packed.is

pub returns-in-Full-clause-form : goal.returns-in-Full-clause-form
returns-in-Full-clause-form c =
    ap (polynomial_form (forms_of c.args.entries.now)) c.deref-in-Full.ensures.value
    ∙ polynomial_read c.args.entries.now c.args.i c.index-entries-i.result _ c.requires.entries.earlier c.requires.named
    c.index-entries-i.is c.in-Full.is

pub returns-in-Unchanged-clause-form : goal.returns-in-Unchanged-clause-form
returns-in-Unchanged-clause-form c = polynomial_read c.args.entries.now c.args.i c.index-entries-i.result _
    c.requires.entries.earlier c.requires.named c.index-entries-i.is c.in-Unchanged.is

pub returns-in-Update-clause-form : goal.returns-in-Update-clause-form
returns-in-Update-clause-form c = polynomial_read c.args.entries.now c.args.i c.index-entries-i.result _
    c.requires.entries.earlier c.requires.named c.index-entries-i.is c.in-Update.is
