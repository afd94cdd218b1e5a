use Rattle.std.proofs.Common.{rules, ap, ◌∙◌}
use Rattle.ft_semantics.specs.State.{with_held}
use Rattle.ft_machine.proofs.Arrayed.{register_put}
use Rattle.ft_machine.proofs.registers.Registers.put.Goals as goal

pub returns : goal.returns
returns c =
    register_put c.self.inside.words c.self.inside.colours c.number-n.result c.args.value (search rules) (search rules)
    c.number-n.ensures.in_range
    ∙ ap (λ m. with_held m c.number-n.result c.args.value) c.self.view_is
    ∙ ap (λ k. with_held c.args.self.now k c.args.value) c.number-n.ensures.same
