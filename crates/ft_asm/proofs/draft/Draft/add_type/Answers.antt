use Rattle.std.proofs.Common.{sym, ◌∙◌, subst}
use Rattle.ft_asm.specs.Held.{Closes}
use Rattle.ft_asm.proofs.ClosedLaws.{type_held}
use Rattle.ft_asm.proofs.draft.Draft.add_type.Goals as goal

pub returns : goal.returns
returns c = λ d h. type_held c.args.self.now c.close.new.self c.args.ints c.args.memory d (sym c.is_in_block.ensures
    ∙ c.if-is_in_block.false) h (subst (λ b. Closes b c.close.new.self d) c.if-not-branch.false
    (c.in_ok-close.ensures d h))
