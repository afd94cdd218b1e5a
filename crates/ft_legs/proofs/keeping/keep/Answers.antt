use Rattle.ft_legs.proofs.Kept.{copy_is_point}
use Rattle.ft_legs.proofs.keeping.keep.Goals as goal

pub returns-clause-renewed : goal.returns-clause-renewed
returns-clause-renewed g c = λ n s strike w k acc h le is passed.
    copy_is_point (g.P.Program.object c.args.program.now) n s strike w k c.args.machine.now _ _ c.requires.spellable
    c.copy_from.ensures c.is_certified.ensures acc h le is passed
