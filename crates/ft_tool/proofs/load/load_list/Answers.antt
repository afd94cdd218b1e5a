use Rattle.std.proofs.Common.{Vec, Global, Ok, inl, sym, subst}
use Rattle.ft_isa.specs.declared.plan.Strike.{Strike}
use Rattle.ft_tool.specs.Replies.{IsToldFile}
use Rattle.ft_tool.specs.Files.{Gives}
use Rattle.ft_tool.proofs.Held.{reads_gets}
use Rattle.ft_tool.proofs.load.load_list.Goals as goal

pub returns-in-Ok-Whole-clause-gets : goal.returns-in-Ok-Whole-clause-gets
returns-in-Ok-Whole-clause-gets g c = λ told may.
    let h = subst (λ x. Gives told c.args.name.now 4194304 c.load_bytes.new.bytes.items (Ok x))
    c.in-Ok-Whole.field-0-is (c.in-Ok-Whole.ensures.gives told may) in
    reads_gets {V = Vec Strike Global} (λ v. v.items) (IsToldFile told c.args.name.now) c.as_slice.result.now
    c.read_list.result (subst (IsToldFile told c.args.name.now) (sym c.as_slice.ensures.value) h.1)
    c.read_list.ensures.reads

pub returns-in-Ok-TooLong-clause-gets : goal.returns-in-Ok-TooLong-clause-gets
returns-in-Ok-TooLong-clause-gets g c = λ told may.
    let h = subst (λ x. Gives told c.args.name.now 4194304 c.load_bytes.new.bytes.items (Ok x))
    c.in-Ok-TooLong.field-0-is (c.in-Ok-TooLong.ensures.gives told may) in
    (h.0, (h.1.0, inl h.1.1))
