use Rattle.std.proofs.Common.{◌≡◌, drop}
use Rattle.ft_embed.specs.Links.{bytes_of}
use Rattle.ft_embed.proofs.linking.bytes_of.Given as goal

abbrev pub invariant-loop-module : goal.invariant-loop-module
invariant-loop-module l = bytes_of (drop l.module-index l.given) l.name ≡ bytes_of l.given l.name
