use Rattle.std.proofs.Common.{◌≡◌, None, take, drop}
use Rattle.ft_syntax.specs.Syntax.{declared_list}
use Rattle.ft_scope.specs.Scope.{wrong_length}
use Rattle.ft_scope.specs.Made.{Made}
use Rattle.ft_scope.proofs.making.made_cells.Given as goal

abbrev pub invariant-loop-d : goal.invariant-loop-d
invariant-loop-d l = record {
  made : Made l.cells (declared_list (take l.d-index l.decls));
  fine : wrong_length (declared_list (drop l.d-index l.decls)) ≡ None;
}
