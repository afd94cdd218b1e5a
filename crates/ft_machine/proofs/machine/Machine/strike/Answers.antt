use Rattle.std.proofs.Common.{ap, ◌∙◌}
use Rattle.ft_semantics.specs.Strike.{is_there}
use Rattle.ft_machine.specs.Arrays.{cells_of}
use Rattle.ft_machine.proofs.machine.Machine.strike.Goals as goal

pub returns-clause-there : goal.returns-clause-there
returns-clause-there c = c.strike.ensures.there (cells_of c.self.inside.words.items)
    ∙ ap (λ s. is_there s c.args.site) c.self.view_is
