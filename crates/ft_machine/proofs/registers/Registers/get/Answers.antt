use Rattle.std.proofs.Common.{sym, ap, ◌∙◌}
use Rattle.ft_semantics.specs.State.{held}
use Rattle.ft_machine.proofs.Arrayed.{register_read}
use Rattle.ft_machine.proofs.registers.Registers.get.Goals as goal

pub returns : goal.returns
returns c =
    sym (register_read c.self.inside.words c.self.inside.colours c.number-n.result c.number-n.ensures.in_range)
    ∙ ap (λ m. held m c.number-n.result) c.self.view_is
    ∙ ap (held c.args.self.now) c.number-n.ensures.same
