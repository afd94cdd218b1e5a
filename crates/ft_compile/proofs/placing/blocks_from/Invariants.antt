use Rattle.std.proofs.Common.{◌≡◌, ◌++◌, drop}
use Rattle.ft_compile.proofs.Turns.{blocks_with}
use Rattle.ft_compile.proofs.placing.blocks_from.Given as goal

abbrev pub invariant-loop-start : goal.invariant-loop-start
invariant-loop-start l = l.blocks.items ++ blocks_with l.code_type (drop l.start-index l.starts)
    ≡ blocks_with 0 l.starts
