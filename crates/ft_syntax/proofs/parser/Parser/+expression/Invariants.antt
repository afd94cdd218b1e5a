use Rattle.std.proofs.Common.{◌≡◌, ◌+◌, ◌-◌, ◌*◌, ◌≤◌, length}
use Rattle.ft_syntax.specs.Machine.{Context, want, empty}
use Rattle.ft_syntax.specs.View.{from, waiting}
use Rattle.ft_syntax.proofs.parser.Parser.+expression.Given as goal

abbrev pub decreases-atom : goal.decreases-atom
decreases-atom l = 4 * (101 - l.self.now.opened) + 1

abbrev pub decreases-expr : goal.decreases-expr
decreases-expr l = 4 * (101 - l.self.now.opened) + 3

abbrev pub decreases-operand : goal.decreases-operand
decreases-operand l = 4 * (101 - l.self.now.opened)

abbrev pub decreases-operations : goal.decreases-operations
decreases-operations l = 4 * (101 - l.self.now.opened) + 2

abbrev pub invariant-operations-loop-pending : goal.invariant-operations-loop-pending
invariant-operations-loop-pending l = record {
  same : l.self.opened ≡ l.fn.self.opened;
  shorter : length l.self.rest.now ≤ length l.fn.self.rest.now;
  so_far : (x : Context) → from l.fn.self (want (waiting l.fn.pending) x) ≡ from l.self (want (waiting l.pending) x);
}

abbrev pub decreases-operations-loop-pending : goal.decreases-operations-loop-pending
decreases-operations-loop-pending l = length l.self.rest.now
