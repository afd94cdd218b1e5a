use Rattle.ft_linker.proofs.Walks.{stands_with}
use Rattle.ft_linker.proofs.traced.Traced.enter.Goals as goal

pub returns : goal.returns
returns c = λ e h. stands_with c.args.self.now e c.args.r.number c.number.result c.args.target c.number.ensures.same
    c.args.r.in_range h
