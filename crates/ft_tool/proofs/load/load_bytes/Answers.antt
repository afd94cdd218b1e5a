use Rattle.std.proofs.Common.{arith}
use Rattle.ft_tool.proofs.Mapped.{within_bytes}
use Rattle.ft_tool.proofs.Held.{gives_held}
use Rattle.ft_tool.proofs.load.load_bytes.Goals as goal

pub returns-clause-gives : goal.returns-clause-gives
returns-clause-gives g c = λ told may.
    gives_held c.args.name.now c.args.limit c.load.new.into.items c.load.result
    (within_bytes c.load.new.into.items (λ i below. omega (arith, c.type_inv.bytes i 0 below))) c.load.ensures.loads
    c.load.ensures.heard may

pub returns-clause-earlier : goal.returns-clause-earlier
returns-clause-earlier g c = λ files agrees. (c.load.ensures.heard files agrees).0
