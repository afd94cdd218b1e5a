use Rattle.std.proofs.Common.{sym, ap, ◌∙◌}
use Rattle.ft_format.specs.Codes.{register_of}
use Rattle.ft_format.proofs.Codes.{register_back}
use Rattle.ft_view.proofs.parts.register.Goals as goal

pub returns : goal.returns
returns c = sym (register_back c.below.result) ∙ ap register_of c.below.ensures
