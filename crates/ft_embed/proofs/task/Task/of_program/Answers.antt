use Rattle.std.proofs.Common.{subst, sym}
use Rattle.ft_types.specs.Spellable.{IsSpellable}
use Rattle.ft_typing.specs.Accepted.{IsAccepted}
use Rattle.ft_embed.proofs.Ends.{unrefused_accepted}
use Rattle.ft_embed.proofs.Tasked.{begins}
use Rattle.ft_embed.proofs.task.Task.of_program.Goals as goal

pub invariant_of-result : goal.invariant_of-result
invariant_of-result g c =
    let o = g.P.Program.object c.args.program.now in
    begins c.in-Ok-copy_object.object c.in-Ok-new.machine
    (subst IsSpellable (sym c.in-Ok-copy_object.ensures) c.requires)
    (subst IsAccepted (sym c.in-Ok-copy_object.ensures) (unrefused_accepted o c.in-Ok.ensures.judged))
    c.in-Ok-new.ensures.start
