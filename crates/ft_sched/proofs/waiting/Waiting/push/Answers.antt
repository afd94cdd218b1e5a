use Rattle.std.proofs.Common.{sym, ap, ◌∙◌, cond, arith}
use Rattle.ft_sched.proofs.Kept.{kept_pushed}
use Rattle.ft_sched.proofs.waiting.Waiting.push.Goals as goal

pub invariant_of-self-then-stores : goal.invariant_of-self-then-stores
invariant_of-self-then-stores c =
    kept_pushed c.self.inside.instrs.items c.push.new.self.items c.self.inside.front c.self.inside.written
    c.mark.new.self c.self.inside.touched c.mark-2.new.self c.mark-3.new.self c.mark-4.new.self
    c.self.inside.blue_store c.len-place.result
    c.args.instr c.written-register.result c.first_read-first.result c.second_read-second.result c.len-place.result
    c.self.invariant
    c.in_ok-push.ensures.items c.written-register.ensures c.first_read-first.ensures c.second_read-second.ensures
    (omega (arith, c.len-place.ensures, c.push.new.self.ok.0))
    c.mark.ensures c.mark-2.ensures c.mark-3.ensures c.mark-4.ensures
    (sym (ap (λ b. cond b c.len-place.result c.self.inside.blue_store) (sym c.is_blue_store-stores.ensures
    ∙ c.if-stores.true)))

pub invariant_of-self-else-stores : goal.invariant_of-self-else-stores
invariant_of-self-else-stores c =
    kept_pushed c.self.inside.instrs.items c.push.new.self.items c.self.inside.front c.self.inside.written
    c.mark.new.self c.self.inside.touched c.mark-2.new.self c.mark-3.new.self c.mark-4.new.self
    c.self.inside.blue_store c.self.inside.blue_store
    c.args.instr c.written-register.result c.first_read-first.result c.second_read-second.result c.len-place.result
    c.self.invariant
    c.in_ok-push.ensures.items c.written-register.ensures c.first_read-first.ensures c.second_read-second.ensures
    (omega (arith, c.len-place.ensures, c.push.new.self.ok.0))
    c.mark.ensures c.mark-2.ensures c.mark-3.ensures c.mark-4.ensures
    (sym (ap (λ b. cond b c.len-place.result c.self.inside.blue_store) (sym c.is_blue_store-stores.ensures
    ∙ c.if-stores.false)))
