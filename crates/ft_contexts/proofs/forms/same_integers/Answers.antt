use Rattle.ft_contexts.proofs.Same.{same_tests, held_integers}
use Rattle.ft_contexts.proofs.forms.same_integers.Goals as goal

pub returns : goal.returns
returns c = same_tests _ _ _ c.same.ensures.exact (held_integers c.args.forms.now c.args.a c.args.b c.requires.first
    c.requires.second)
