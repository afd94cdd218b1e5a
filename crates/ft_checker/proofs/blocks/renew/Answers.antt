use Rattle.ft_contexts.proofs.Kept.{shared_own}
use Rattle.ft_checker.proofs.blocks.renew.Goals as goal

pub returns-in_err-context-clause-shared : goal.returns-in_err-context-clause-shared
returns-in_err-context-clause-shared g c = shared_own (g.P.Program.object c.args.program.now) c.args.forms.now
    c.start_over.new.forms c.args.shared.now c.start_over.new.own c.start_over.ensures.kept c.requires.shared
    c.start_over.ensures.own

pub returns-clause-shared : goal.returns-clause-shared
returns-clause-shared g c = shared_own (g.P.Program.object c.args.program.now) c.args.forms.now
    c.start_over.new.forms c.args.shared.now c.start_over.new.own c.start_over.ensures.kept c.requires.shared
    c.start_over.ensures.own
