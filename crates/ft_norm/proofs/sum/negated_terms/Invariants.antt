use Rattle.std.proofs.Common.{◌≡◌, map, take}
use Rattle.ft_norm.specs.Terms.{negated_term, terms_of}
use Rattle.ft_norm.proofs.sum.negated_terms.Given as goal

abbrev pub invariant-loop-i : goal.invariant-loop-i
invariant-loop-i l = l.negation.items ≡ map negated_term (take l.i (terms_of l.terms))
