use Rattle.std.proofs.Common.{◌≡◌, ◌++◌, List, map, take, drop}
use Rattle.ft_modules.specs.Linked.{Change, changed_instr}
use Rattle.ft_linker.specs.Changes.{Holds}
use Rattle.ft_linker.proofs.changes.Changes.change.Given as goal

abbrev pub invariant-loop-instr : goal.invariant-loop-instr
invariant-loop-instr l = (cs : List Change) → Holds l.self cs →
    take l.instr-index l.instrs ++ map (changed_instr cs) (drop l.instr-index l.instrs)
    ≡ map (changed_instr cs) l.fn.instrs
