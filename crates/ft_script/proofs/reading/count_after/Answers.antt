use Rattle.std.proofs.Common.{◌≡◌, ◌≢◌, ◌++◌, ℕ, List, Option, Some, None, decimal, sym, ◌∙◌}
use Rattle.std.specs.Prelude.{IfNone}
use Rattle.std.proofs.lemmas.List.{append_cancel_left}
use Rattle.ft_script.specs.Commands.{IsCount}
use Rattle.ft_script.proofs.reading.count_after.Goals as goal

after_piece : (line piece number : List ℕ) (r : Option ℕ) → line ≡ piece ++ number →
    IfNone r ((n : ℕ) → IsCount n → number ≢ decimal n) → IfNone r ((n : ℕ) → IsCount n → line ≢ piece ++ decimal n)
after_piece line piece number None e h = λ n count i.
    h n count (append_cancel_left piece number (decimal n) (sym e ∙ i))
after_piece line piece number (Some x) e h = tt

pub returns-in-Some-clause-none : goal.returns-in-Some-clause-none
returns-in-Some-clause-none c = after_piece c.args.line.now c.args.piece.now c.in-Some.number.now c.read_count.result
    c.in-Some.ensures c.read_count.ensures.none
