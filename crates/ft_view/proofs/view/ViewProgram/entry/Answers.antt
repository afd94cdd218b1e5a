use Rattle.std.proofs.Common.{sym, ap, ◌∙◌}
use Rattle.ft_view.proofs.CountedParts.{entry_is}
use Rattle.ft_format.specs.Broken.{header_at}
use Rattle.ft_view.proofs.view.ViewProgram.entry.Goals as goal

pub returns : goal.returns
returns c = ap (λ h. h.entry) c.self.invariant.header ∙ ap (λ b. (header_at b).entry) c.self.view_is
    ∙ sym (entry_is c.args.self.now)
