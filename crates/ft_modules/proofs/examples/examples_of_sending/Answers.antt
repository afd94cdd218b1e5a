use Rattle.std.proofs.Common.{refl}
use Rattle.ft_modules.specs.Links.{links}
use Rattle.ft_modules.proofs.examples.examples_of_sending.Goals as goal

pub returns : goal.returns
unfolding links
returns c = record { stub = refl; elsewhere = refl; fetched = refl; apart = refl; storer = refl }
