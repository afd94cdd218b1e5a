use Rattle.ft_norm.proofs.Memos.{remembers_none}
use Rattle.ft_contexts.proofs.Kept.{none_held, own_held}
use Rattle.ft_contexts.proofs.transfers.Shared.new.Goals as goal

pub returns-clause-shared : goal.returns-clause-shared
returns-clause-shared c = λ o.
    let w = c.in_ok-own.ensures.own o in
    record {
      own = w;
      put = record {
        integers = none_held _ _ c.empty.ensures;
        memory = rw c.memory_variable.ensures (own_held _ 128 _ w.own).memory;
      };
      made = remembers_none _ _ _ _ _ c.new-2.ensures;
    }
