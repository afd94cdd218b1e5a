use Rattle.ft_norm.proofs.HeldForms.{integer_seen, memory_seen}
use Rattle.ft_norm.proofs.interner.Interner.walked.Goals as goal

pub walk_from-requires-clause-memory : goal.walk_from-requires-clause-memory
walk_from-requires-clause-memory g c = memory_seen c.self.inside.entries.keys c.as_slice-entries.result.now
    c.args.self.now c.args.memory c.self.view_is c.as_slice-entries.ensures.keys c.requires.memory

pub walk_from-requires-clause-at : goal.walk_from-requires-clause-at
walk_from-requires-clause-at g c = integer_seen c.self.inside.entries.keys c.as_slice-entries.result.now
    c.args.self.now c.args.at c.self.view_is c.as_slice-entries.ensures.keys c.requires.address
