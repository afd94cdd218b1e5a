use Rattle.std.proofs.Common.{ap, ◌∙◌, get_or}
use Rattle.ft_machine.proofs.Arrayed.{same_tabulated}
use Rattle.ft_machine.proofs.registers.Registers.put_words.Goals as goal

pub returns : goal.returns
returns c = same_tabulated 64 (λ r. r) _ _ (λ i below.
    ap (λ x. record { colour = x; word = get_or c.self.inside.words i 0 }) (c.put_numbers.ensures i below))
    ∙ c.self.view_is
