use Rattle.std.proofs.Common.{◌≡◌, drop}
use Rattle.ft_modules.specs.CodeWalk.{Entered, are_free}
use Rattle.ft_linker.specs.Stands.{Stands}
use Rattle.ft_linker.proofs.traced.Traced.are_free.Given as goal

abbrev pub invariant-loop-j : goal.invariant-loop-j
invariant-loop-j l = (e : Entered) → Stands l.self e → are_free e l.rows ≡ are_free e (drop l.j l.rows)
