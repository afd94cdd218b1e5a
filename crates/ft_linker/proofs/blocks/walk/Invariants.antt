use Rattle.std.proofs.Common.{◌≡◌, ◌-◌}
use Rattle.std.specs.Prelude.{slice_range}
use Rattle.std.specs.FinMap as finite
use Rattle.ft_modules.specs.CodeWalk.{Entered, code_walk}
use Rattle.ft_linker.specs.Stands.{Stands}
use Rattle.ft_linker.proofs.blocks.walk.Given as goal

abbrev pub invariant-loop-i : goal.invariant-loop-i
invariant-loop-i l = record {
  entered : Entered;
  stands : Stands l.traced entered;
  same : code_walk l.object finite.empty 0 (slice_range l.object.instrs l.first l.past)
      ≡ code_walk l.object entered (l.i - l.first) (slice_range l.object.instrs l.i l.past);
}
