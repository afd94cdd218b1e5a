use Rattle.std.proofs.Common.{◌≤◌, arith, length}
use Rattle.ft_norm.specs.Entries.{memory_reach}
use Rattle.ft_norm.proofs.HeldForms.{integer_within}
use Rattle.ft_norm.proofs.interner.Interner.sel.Goals as goal

pub alone-requires-clause-reach : goal.alone-requires-clause-reach
alone-requires-clause-reach g c =
    let y = integer_within c.args.self.now c.args.at _ c.requires.address.found in
    let w : memory_reach c.args.self.now c.in-Stop.older ≤ length c.args.self.now = rw c.in-Stop.is at
    c.in_ok-walk.ensures.ends in
    rw c.walked.ensures.same (omega (arith, w, y))
