use Rattle.std.proofs.Common.{take}
use Rattle.std.specs.List.{AllZip}
use Rattle.ft_modules.specs.LikeTypes.{SameRow}
use Rattle.ft_linker.proofs.types.same_rows.Given as goal

abbrev pub invariant-loop-j : goal.invariant-loop-j
invariant-loop-j l = AllZip (SameRow l.a.object.now l.b.object.now) (take l.j l.rs) (take l.j l.qs)
