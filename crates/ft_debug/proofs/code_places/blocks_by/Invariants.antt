use Rattle.std.proofs.Common.{◌≡◌, take}
use Rattle.std.specs.Prelude.{count_by}
use Rattle.ft_debug.specs.Sessions.{begins_by}
use Rattle.ft_debug.proofs.code_places.blocks_by.Given as goal

abbrev pub invariant-loop-b : goal.invariant-loop-b
invariant-loop-b g l = l.count ≡ count_by (begins_by l.i) (take l.b (g.P.Program.object l.program).blocks)
