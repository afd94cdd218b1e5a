use Rattle.ft_contexts.proofs.Pairs.{others_held}
use Rattle.ft_contexts.proofs.context.Context.commit.Goals as goal

pub returns-clause-held : goal.returns-clause-held
returns-clause-held c = λ fs h m. record {
  registers = h.registers;
  d = h.d;
  queue = rw c.remove_first.ensures (others_held fs c.args.self.now.queue h.queue);
  memory = m;
}
