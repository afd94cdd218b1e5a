use Rattle.ft_campaign.proofs.Faults.{exact_list, exact_error}
use Rattle.ft_campaign.proofs.fault_list.read_faults.Goals as goal

pub returns-clause-exact : goal.returns-clause-exact
returns-clause-exact c = exact_list c.args.bytes.now c.read_lines.result c.read_lines.ensures.ok
    c.read_lines.ensures.err

pub returns-clause-exact_err : goal.returns-clause-exact_err
returns-clause-exact_err c = exact_error c.args.bytes.now c.read_lines.result c.read_lines.ensures.ok
    c.read_lines.ensures.err
