use Rattle.std.proofs.Common.{◌≡◌, drop}
use Rattle.ft_syntax.specs.Syntax.{declared_list}
use Rattle.ft_scope.specs.Scope.{wrong_length}
use Rattle.ft_scope.proofs.making.first_wrong_length.Given as goal

abbrev pub invariant-loop-d : goal.invariant-loop-d
invariant-loop-d l = wrong_length (declared_list l.decls) ≡ wrong_length (declared_list (drop l.d-index l.decls))
