use Rattle.std.proofs.Common.{◌≡◌, take, fold}
use Rattle.ft_norm.specs.Hashing.{noted}
use Rattle.ft_norm.proofs.keys.KeyedFoldHasher.write.Given as goal

abbrev pub invariant-loop-byte : goal.invariant-loop-byte
invariant-loop-byte l = l.self ≡ fold noted l.fn.self (take l.byte-index l.bytes)
