use Rattle.std.proofs.Common.{List, map, sym, subst}
use Rattle.std.specs.List.{AllByRecursion}
use Rattle.ft_text.specs.Lines.{lines_of}
use Rattle.ft_script.specs.declared.command.Command.{Command}
use Rattle.ft_script.specs.Reads.{command_of}
use Rattle.ft_debug.specs.Inside.{IsSmall}
use Rattle.ft_debug.proofs.Replied.{small_commands}
use Rattle.ft_debug.proofs.sessions.session.Goals as goal

pub answer_all-requires-clause-small : goal.answer_all-requires-clause-small
answer_all-requires-clause-small g c =
    subst (λ (xs : List Command). AllByRecursion IsSmall (map command_of xs)) (sym c.deref.ensures.value)
    (small_commands (lines_of c.args.script.now) (map command_of c.in-Ok.commands.items) c.in-Ok.ensures.commands)
