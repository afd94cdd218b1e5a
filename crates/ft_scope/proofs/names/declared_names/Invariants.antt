use Rattle.std.proofs.Common.{◌≡◌, [], take, drop}
use Rattle.ft_syntax.specs.Syntax.{declared_list}
use Rattle.ft_scope.specs.Scope.{repeated}
use Rattle.ft_scope.specs.Held.{Holds}
use Rattle.ft_scope.proofs.names.declared_names.Given as goal

abbrev pub invariant-loop-d : goal.invariant-loop-d
invariant-loop-d l = record {
  held : Holds l.names (declared_list (take l.d-index l.decls));
  fresh : repeated [] (declared_list l.decls) ≡ repeated (declared_list (take l.d-index l.decls))
      (declared_list (drop l.d-index l.decls));
}
