use Rattle.std.proofs.Common.{◌≡◌, ◌++◌, length}
use Rattle.std.specs.Prelude.{option_map}
use Rattle.ft_flow.specs.LineWords.{line_words}
use Rattle.ft_flow.specs.Heads.{numbers_in}
use Rattle.ft_flow.proofs.heads.numbers_of.Given as goal

abbrev pub invariant-loop-word : goal.invariant-loop-word
invariant-loop-word l = option_map (λ ns. l.out.items ++ ns) (numbers_in (line_words l.left))
    ≡ numbers_in (line_words l.fn.text)

abbrev pub decreases-loop-word : goal.decreases-loop-word
decreases-loop-word l = length l.left
