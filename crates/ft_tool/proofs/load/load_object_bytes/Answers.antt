use Rattle.std.proofs.Common.{Ok, subst}
use Rattle.ft_tool.specs.Files.{Gives}
use Rattle.ft_tool.proofs.Answered.{too_long}
use Rattle.ft_tool.proofs.load.load_object_bytes.Goals as goal

pub returns-in-Ok-TooLong-clause-loads : goal.returns-in-Ok-TooLong-clause-loads
returns-in-Ok-TooLong-clause-loads g c = λ told may.
    let h = subst (λ x. Gives told c.args.name.now 67108864
    c.load_bytes.new.bytes.items (Ok x)) c.in-Ok-TooLong.field-0-is (c.in-Ok-TooLong.ensures.gives told may) in
    (h.0, (h.1.0, too_long h.0 h.1.1))

pub returns-in-Ok-Whole-clause-loads : goal.returns-in-Ok-Whole-clause-loads
returns-in-Ok-Whole-clause-loads g c = λ told may.
    (subst (λ x. Gives told c.args.name.now 67108864 c.load_bytes.new.bytes.items (Ok x)) c.in-Ok-Whole.field-0-is
    (c.in-Ok-Whole.ensures.gives told may)).1
