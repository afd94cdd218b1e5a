use Rattle.std.proofs.Common.{◌≡◌, length}
use Rattle.ft_lexer.specs.Left.{left}
use Rattle.ft_lexer.proofs.lexer.Lexer.pass_gap.Given as goal

abbrev pub invariant-loop-self : goal.invariant-loop-self
invariant-loop-self l = left l.fn.self ≡ left l.self

abbrev pub decreases-loop-self : goal.decreases-loop-self
decreases-loop-self l = length l.self.rest.now
