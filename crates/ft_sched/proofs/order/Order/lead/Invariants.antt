use Rattle.std.proofs.Common.{ℕ, ◌+◌, ◌<◌, ◌∷◌, List, length}
use Rattle.ft_isa.specs.declared.instr.Instr.{Instr}
use Rattle.ft_sched.specs.Arranged.{IsArranged}
use Rattle.ft_sched.proofs.Laying.{Leading}
use Rattle.ft_sched.proofs.order.Order.lead.Given as goal

abbrev pub invariant-loop-self : goal.invariant-loop-self
invariant-loop-self l = (rows start past : ℕ) (base rest : List Instr) →
    length l.fn.self.laid.items + length l.fn.self.waiting < past →
    IsArranged rows start past base (l.instr ∷ rest) l.fn.self.laid.items l.fn.self.waiting l.fn.self.queued
    l.fn.self.committed → Leading l.instr rows start past base rest l.self.laid.items l.self.waiting l.self.queued
    l.self.committed

abbrev pub decreases-loop-self : goal.decreases-loop-self
decreases-loop-self l = length l.self.waiting
