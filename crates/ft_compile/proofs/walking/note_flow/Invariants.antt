use Rattle.std.proofs.Common.{[], length}
use Rattle.ft_lower.specs.Cutting.{blocks_of, blocks_onto}
use Rattle.ft_compile.specs.Emitted.{noted}
use Rattle.ft_compile.specs.Viewed.{noted_of}
use Rattle.ft_compile.proofs.Turns.{AreLeft}
use Rattle.ft_compile.proofs.walking.note_flow.Given as goal

abbrev pub invariant-loop-left : goal.invariant-loop-left
invariant-loop-left l =
    AreLeft l.flow.vars l.scope (noted_of l.notes) (noted l.flow.vars (blocks_of l.flow)) (blocks_onto [] l.left)

abbrev pub decreases-loop-left : goal.decreases-loop-left
decreases-loop-left l = length l.left
