use Rattle.std.proofs.Common.{◌≡◌, take}
use Rattle.ft_norm.specs.Terms.{terms_of}
use Rattle.ft_norm.proofs.sum.copy_terms.Given as goal

abbrev pub invariant-loop-i : goal.invariant-loop-i
invariant-loop-i l = l.copies.items ≡ take l.i (terms_of l.terms)
