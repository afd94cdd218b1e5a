use Rattle.std.proofs.Common.{◌≡◌, ◌∷◌, map}
use Rattle.std.specs.List.{range_with_len}
use Rattle.ft_static.specs.declared.node.Shape.TheVariants as shape
use Rattle.ft_compile.specs.Emitted.{variable_node}
use Rattle.ft_compile.specs.Noted.{node}
use Rattle.ft_compile.proofs.notes.Notes.new.Given as goal

abbrev pub invariant-loop-i : goal.invariant-loop-i
invariant-loop-i l = l.nodes.items ≡ node 0 shape.Memory ∷ map (variable_node l.vars) (range_with_len 0 l.i)
