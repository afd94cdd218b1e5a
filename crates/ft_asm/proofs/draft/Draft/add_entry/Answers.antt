use Rattle.std.proofs.Common.{subst}
use Rattle.ft_asm.specs.Held.{Closes}
use Rattle.ft_asm.proofs.ClosedLaws.{entry_held}
use Rattle.ft_asm.proofs.draft.Draft.add_entry.Goals as goal

pub returns : goal.returns
returns c = λ d h. entry_held c.close.new.self c.args.block d
    (subst (λ b. Closes b c.close.new.self d) c.if-not-branch.false (c.in_ok-close.ensures d h))
