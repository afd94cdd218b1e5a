use Rattle.std.proofs.Common.{Ok, Err}
use Rattle.ft_asm.proofs.Judged.{exact}
use Rattle.ft_asm.proofs.assembly.assemble.Goals as goal

pub returns-in-Ok-clause-exact : goal.returns-in-Ok-clause-exact
returns-in-Ok-clause-exact c = exact c.args.text.now (Ok c.in-Ok.whole.object) c.in-Ok.ensures.reads tt

pub returns-in-Err-clause-exact : goal.returns-in-Err-clause-exact
returns-in-Err-clause-exact c = exact c.args.text.now (Err c.in-Err.error) tt c.in-Err.ensures.refused
