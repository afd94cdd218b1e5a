use Rattle.ft_sched.proofs.Kept.{kept_new}
use Rattle.ft_sched.proofs.waiting.Waiting.new.Goals as goal

pub invariant_of-result : goal.invariant_of-result
invariant_of-result c = kept_new c.new.result.items c.new-2.result c.new-3.result c.new.ensures.items c.new-2.ensures
    c.new-3.ensures
