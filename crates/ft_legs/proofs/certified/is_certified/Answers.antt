use Rattle.std.proofs.Common.{sym, ◌∙◌}
use Rattle.ft_legs.proofs.Walks.{type_there}
use Rattle.ft_legs.proofs.certified.is_certified.Goals as goal

pub is_certified_for-requires-clause-there : goal.is_certified_for-requires-clause-there
is_certified_for-requires-clause-there g c = type_there (g.P.Program.object c.args.program.now) _ c.in-Some.block
    c.requires (sym c.in-Some.is ∙ c.block_at.ensures)
