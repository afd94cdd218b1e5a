use Rattle.std.proofs.Common.{◌≡◌, option_map, ◌++◌, length}
use Rattle.ft_text.specs.LineWords.{words_of}
use Rattle.ft_asm.specs.Forms.{rows_in}
use Rattle.ft_asm.proofs.code_lines.rows_of.Given as goal

abbrev pub invariant-loop-word : goal.invariant-loop-word
invariant-loop-word l = rows_in (words_of l.fn.text) ≡ option_map (λ ns. l.rows.items ++ ns) (rows_in (words_of l.rest))

abbrev pub decreases-loop-word : goal.decreases-loop-word
decreases-loop-word l = length l.rest
