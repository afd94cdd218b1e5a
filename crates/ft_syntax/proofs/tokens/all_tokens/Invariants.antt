use Rattle.std.proofs.Common.{◌≡◌}
use Rattle.ft_lexer.specs.Scan.{all_of, scan, size}
use Rattle.ft_lexer.specs.Left.{left}
use Rattle.ft_syntax.specs.View.{lexemes}
use Rattle.ft_syntax.proofs.TokenLists.{after}
use Rattle.ft_syntax.proofs.tokens.all_tokens.Given as goal

abbrev pub invariant-loop-told : goal.invariant-loop-told
invariant-loop-told l = all_of (scan l.text) ≡ after (lexemes l.all.items) (all_of (left l.lexer))

abbrev pub decreases-loop-told : goal.decreases-loop-told
decreases-loop-told l = size (left l.lexer)
