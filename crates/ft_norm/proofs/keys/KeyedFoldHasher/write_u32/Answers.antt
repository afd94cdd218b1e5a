use Rattle.std.proofs.Common.{ap, sym, ◌∙◌}
use Rattle.std.specs.Hash.{le_bytes}
use Rattle.std.proofs.lemmas.Nat.{from_le_bytes-to_le_bytes_4}
use Rattle.ft_norm.specs.Hashing.{noted}
use Rattle.ft_norm.proofs.keys.KeyedFoldHasher.write_u32.Goals as goal

pub returns : goal.returns
unfolding le_bytes
returns c = c.note.ensures ∙ ap (noted c.args.self.now) (c.from.ensures
    ∙ sym (from_le_bytes-to_le_bytes_4 c.args.i c.ranges.i.fits))
