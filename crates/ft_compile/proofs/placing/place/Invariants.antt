use Rattle.std.proofs.Common.{◌≡◌, ◌++◌, drop, take}
use Rattle.ft_compile.specs.Emitted.{placed}
use Rattle.ft_compile.proofs.placing.place.Given as goal

abbrev pub invariant-loop-instr : goal.invariant-loop-instr
invariant-loop-instr l = take l.instr-index l.instrs ++ placed l.left (drop l.instr-index l.instrs)
    ≡ placed l.substs l.fn.instrs
