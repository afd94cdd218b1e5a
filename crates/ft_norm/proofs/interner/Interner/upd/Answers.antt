use Rattle.std.proofs.Common.{◌≡◌, ◌≤◌, ◌∙◌, ap, arith, length}
use Rattle.ft_norm.specs.Entries.{forms_of, memory_reach}
use Rattle.ft_norm.proofs.HeldForms.{integer_seen, integer_within, memory_seen, within}
use Rattle.ft_norm.proofs.interner.Interner.upd.Goals as goal

pub below_newest-older-requires-clause-memory : goal.below_newest-older-requires-clause-memory
below_newest-older-requires-clause-memory c = memory_seen c.self.inside.entries.keys c.as_slice.result.now
    c.args.self.now c.args.memory c.self.view_is c.as_slice.ensures.keys c.requires.memory

pub below_newest-older-requires-clause-at : goal.below_newest-older-requires-clause-at
below_newest-older-requires-clause-at c = integer_seen c.self.inside.entries.keys c.as_slice.result.now c.args.self.now
    c.args.at c.self.view_is c.as_slice.ensures.keys c.requires.address

pub intern-requires : goal.intern-requires
intern-requires c =
    let y = integer_within c.args.self.now c.args.at _ c.requires.address.found in
    let z = integer_within c.args.self.now c.args.value _ c.requires.value.found in
    let g : forms_of c.as_slice.result.now ≡ c.args.self.now = ap forms_of c.as_slice.ensures.keys ∙ c.self.view_is in
    let w : memory_reach c.args.self.now c.below_newest-older.result ≤ length c.args.self.now =
    rw g at c.below_newest-older.ensures.within in
    omega (arith, w, y, z)

pub below_newest-older-requires-clause-within : goal.below_newest-older-requires-clause-within
below_newest-older-requires-clause-within c = within c.self.inside.entries.keys c.as_slice.result.now c.args.self.now
    c.args.memory.0 _ c.self.view_is c.as_slice.ensures.keys c.requires.memory.found
