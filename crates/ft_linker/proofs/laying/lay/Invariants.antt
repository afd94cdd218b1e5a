use Rattle.std.proofs.Common.{◌≡◌, take}
use Rattle.ft_modules.specs.Linked.{before_module, nothing_before}
use Rattle.ft_linker.specs.Tables.{AreLaid}
use Rattle.ft_linker.proofs.laying.lay.Given as goal

abbrev pub invariant-loop-m : goal.invariant-loop-m
invariant-loop-m l = record {
  start : l.start ≡ before_module nothing_before l.objects l.m;
  tables : AreLaid (take l.m l.objects) l.laid;
}
