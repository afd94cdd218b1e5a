use Rattle.std.proofs.Common.{◌≡◌, take}
use Rattle.ft_format.specs.Broken.{object_of}
use Rattle.ft_object.proofs.copying.copy_instrs.Given as goal

abbrev pub invariant-loop-i : goal.invariant-loop-i
invariant-loop-i l = record { items : l.instrs.items ≡ take l.i (object_of l.view).instrs }
