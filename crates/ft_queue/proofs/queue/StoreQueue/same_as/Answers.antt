use Rattle.std.proofs.Common.{refl, sym, ◌∙◌, arith}
use Rattle.ft_queue.proofs.SameLists.{same_lists}
use Rattle.ft_queue.proofs.queue.StoreQueue.same_as.Goals as goal

pub returns : goal.returns
returns c = (
  λ t. same_lists c.args.self.now c.args.other.now (sym c.len-n.ensures.pairs ∙ c.if-n-len.false ∙ c.len.ensures.pairs)
      (λ j lt. c.loop-i.invariant j (let a = c.len-n.ensures.pairs in let b = c.loop-i-test.false in
      omega (arith, lt, a, b))),
  λ e. refl,
)
