use Rattle.ft_contexts.proofs.Same.{same_tests, held_memories}
use Rattle.ft_contexts.proofs.forms.same_memories.Goals as goal

pub returns : goal.returns
returns c = same_tests _ _ _ c.same.ensures.exact (held_memories c.args.forms.now c.args.a c.args.b c.requires.first
    c.requires.second)
