use Rattle.std.proofs.Common.{[], ◌∙◌, ap, get_or, map, refl}
use Rattle.ft_norm.specs.Entries.{full}
use Rattle.ft_norm.specs.declared.entry.Term.{Term}
use Rattle.ft_norm.proofs.Linear.{linear_more}
use Rattle.ft_norm.proofs.built.linear.Goals as goal

pub loop-term-preserved : goal.loop-term-preserved
loop-term-preserved c =
    let none : Term = record { atoms = []; coefficient = 0 } in
    let t = get_or c.args.terms.now c.loop-term.term-index none in
    ap (map full) c.in_ok-push.ensures.ok
    ∙ linear_more c.args.terms.now none (record { atom = get_or t.atoms 3 0; coefficient = t.coefficient })
    c.loop-term.list.items c.loop-term.term-index c.requires.terms c.requires.degree c.loop-term.invariant
    c.loop-term-test.true refl refl
