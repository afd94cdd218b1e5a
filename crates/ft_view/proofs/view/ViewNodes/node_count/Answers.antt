use Rattle.std.proofs.Common.{sym, ap, ◌∙◌}
use Rattle.ft_view.proofs.CountedParts.{node_count}
use Rattle.ft_format.specs.Broken.{header_at}
use Rattle.ft_view.proofs.view.ViewNodes.node_count.Goals as goal

pub returns : goal.returns
returns c = ap (λ h. h.nodes) c.self.invariant.header ∙ ap (λ b. (header_at b).nodes) c.self.view_is
    ∙ sym (node_count c.args.self.now)
