use Rattle.std.proofs.Common.{◌≡◌, ◌++◌, map, take}
use Rattle.ft_modules.specs.Linked.{raised_instr}
use Rattle.ft_linker.proofs.rows.lay_instrs.Given as goal

abbrev pub invariant-loop-n : goal.invariant-loop-n
invariant-loop-n l = l.laid.items ≡ l.initial.laid.items ++ map (raised_instr l.k) (take l.n l.instrs)
