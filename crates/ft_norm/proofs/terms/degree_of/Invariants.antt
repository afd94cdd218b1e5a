use Rattle.std.proofs.Common.{◌≡◌, take}
use Rattle.ft_norm.specs.Entries.{greatest}
use Rattle.ft_norm.specs.Terms.{terms_of}
use Rattle.ft_norm.proofs.terms.degree_of.Given as goal

abbrev pub invariant-loop-i : goal.invariant-loop-i
invariant-loop-i l = l.most ≡ greatest (take l.i (terms_of l.terms))
