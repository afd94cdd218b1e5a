use Rattle.ft_view.proofs.EndsRise.{ends_of_types}
use Rattle.ft_view.proofs.tables.judge_types.Goals as goal

pub check_regs-requires-clause-ends : goal.check_regs-requires-clause-ends
check_regs-requires-clause-ends c = (ends_of_types c.args.header c.args.nodes.now c.args.header.types
    c.part-heads.result.now 0 0 c.of-at.result.types c.in_ok-check_types.ensures).0

pub check_queue-requires-clause-ends : goal.check_queue-requires-clause-ends
check_queue-requires-clause-ends c = (ends_of_types c.args.header c.args.nodes.now c.args.header.types
    c.part-heads.result.now 0 0 c.of-at.result.types c.in_ok-check_types.ensures).1
