use Rattle.ft_norm.proofs.HeldForms.{memory_seen}
use Rattle.ft_norm.proofs.Walking.{memory_bound}
use Rattle.ft_norm.proofs.interner.Interner.note.Goals as goal

pub note_paths-requires-clause-within : goal.note_paths-requires-clause-within
note_paths-requires-clause-within c = memory_bound c.as_slice-entries.result.now c.args.memory.0
    (memory_seen c.self.inside.entries.keys c.as_slice-entries.result.now c.args.self.now c.args.memory c.self.view_is
    c.as_slice-entries.ensures.keys c.requires.memory)
