use Rattle.ft_norm.proofs.Same.{one_form_denotes, one_number}
use Rattle.ft_norm.proofs.interner.Interner.same.Goals as goal

pub returns-clause-exact : goal.returns-clause-exact
returns-clause-exact c = one_number c.self.inside.entries.keys c.args.self.now c.args.a c.args.b
    c.self.invariant.entries
    c.self.view_is c.requires.first

pub returns-clause-denotes : goal.returns-clause-denotes
returns-clause-denotes c = λ x y s t h k a b lawful.
    one_form_denotes x y s _ _ ((one_number c.self.inside.entries.keys c.args.self.now c.args.a c.args.b
    c.self.invariant.entries c.self.view_is c.requires.first).0 t) h k a b lawful
