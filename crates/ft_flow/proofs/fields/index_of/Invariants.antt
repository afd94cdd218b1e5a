use Rattle.std.proofs.Common.{◌≡◌, ◌+◌, ◌-◌, drop, length, map}
use Rattle.ft_flow.specs.Fields.{index_of}
use Rattle.ft_flow.proofs.fields.index_of.Given as goal

abbrev pub invariant-loop-i : goal.invariant-loop-i
invariant-loop-i l = l.i + index_of (map (λ n. n.now) (drop l.i l.names)) l.word
    ≡ index_of (map (λ n. n.now) l.names) l.word

abbrev pub decreases-loop-i : goal.decreases-loop-i
decreases-loop-i l = length l.names - l.i
