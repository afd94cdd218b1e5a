use Rattle.std.proofs.Common.{◌≡◌, ◌+◌, ◌-◌, ◌*◌, ◌≤◌, length}
use Rattle.ft_syntax.specs.Plain.{none, plain_list}
use Rattle.ft_syntax.specs.Syntax.{named}
use Rattle.ft_syntax.specs.Machine.{Block, stmts}
use Rattle.ft_syntax.specs.View.{from}
use Rattle.ft_syntax.proofs.parser.Parser.+statement.Given as goal

abbrev pub decreases-statement : goal.decreases-statement
decreases-statement l = 5 * (101 - l.self.now.opened) + 3

abbrev pub decreases-otherwise : goal.decreases-otherwise
decreases-otherwise l = 5 * (101 - l.self.now.opened) + 1

abbrev pub decreases-statements : goal.decreases-statements
decreases-statements l = 5 * (101 - l.self.now.opened) + 4

abbrev pub decreases-body : goal.decreases-body
decreases-body l = 5 * (101 - l.self.now.opened) + 5

abbrev pub invariant-statements-loop-all : goal.invariant-statements-loop-all
invariant-statements-loop-all l = record {
  same : l.self.opened ≡ l.fn.self.opened;
  shorter : length l.self.rest.now ≤ length l.fn.self.rest.now;
  so_far : (b : Block) → from l.fn.self (stmts none b) ≡ from l.self (stmts (plain_list named l.all.items) b);
}

abbrev pub decreases-statements-loop-all : goal.decreases-statements-loop-all
decreases-statements-loop-all l = length l.self.rest.now

abbrev pub decreases-repetition : goal.decreases-repetition
decreases-repetition l = 5 * (101 - l.self.now.opened) + 2

abbrev pub decreases-decision : goal.decreases-decision
decreases-decision l = 5 * (101 - l.self.now.opened) + 2
