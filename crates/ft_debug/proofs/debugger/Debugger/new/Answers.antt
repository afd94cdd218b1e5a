use Rattle.ft_debug.proofs.Held.{holds_first}
use Rattle.ft_debug.proofs.debugger.Debugger.new.Goals as goal

pub returns-clause-holds : goal.returns-clause-holds
returns-clause-holds g c =
    holds_first (g.P.Program.object c.args.program.now) c.args.wild.now _ c.in_ok-new.ensures.machine
    c.in_ok-new.ensures.wild c.in_ok-new.ensures.position c.in_ok-new-2.ensures.none c.in_ok-new-3.ensures
