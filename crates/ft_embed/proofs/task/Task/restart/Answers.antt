use Rattle.ft_embed.proofs.Tasked.{begins}
use Rattle.ft_embed.proofs.task.Task.restart.Goals as goal

pub invariant_of-self : goal.invariant_of-self
invariant_of-self c = begins c.self.inside.object c.in_ok-machine.machine c.self.invariant.spellable
    c.self.invariant.accepted c.in_ok-machine.ensures.start
