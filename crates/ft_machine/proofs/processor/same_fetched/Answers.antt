use Rattle.std.proofs.Common.{◌≡◌, subst, sym, Decides}
use Rattle.ft_machine.proofs.SameInstr.{fetched_decides}
use Rattle.ft_machine.proofs.processor.same_fetched.Goals as goal

pub returns : goal.returns
returns c = subst (λ r. Decides r (c.args.a ≡ c.args.b)) (sym c.eq.ensures) (fetched_decides c.args.a c.args.b)
