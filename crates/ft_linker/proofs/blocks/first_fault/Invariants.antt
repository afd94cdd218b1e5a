use Rattle.std.proofs.Common.{◌≡◌, drop}
use Rattle.ft_modules.specs.LinkRefusals.{first_walk_fault}
use Rattle.ft_linker.proofs.blocks.first_fault.Given as goal

abbrev pub invariant-loop-b : goal.invariant-loop-b
invariant-loop-b l = first_walk_fault l.object 0 l.object.blocks
    ≡ first_walk_fault l.object l.b (drop l.b l.object.blocks)
