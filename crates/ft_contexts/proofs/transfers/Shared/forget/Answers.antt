use Rattle.ft_contexts.proofs.Kept.{owned_kept, under_kept, variables_kept}
use Rattle.ft_contexts.proofs.transfers.Shared.forget.Goals as goal

pub returns-then-count-clause-shared : goal.returns-then-count-clause-shared
returns-then-count-clause-shared c = λ o fs l k w v r.
    let new = c.keep_first-then-count.new.self in
    let s = c.args.self.now in
    let kept = c.keep_first-then-count.ensures.kept fs l k in
    record {
      own = owned_kept o fs new s.own kept w;
      put = variables_kept fs new s.put kept v;
      made = under_kept o fs new s.put c.keep_first.new.self kept v
          (c.keep_first.ensures o.nodes fs c.args.forms.now s.put.integers s.put.memory r l k v.integers v.memory);
    }

pub returns-else-count-clause-shared : goal.returns-else-count-clause-shared
returns-else-count-clause-shared c = λ o fs l k w v r. record {
  own = owned_kept o fs c.args.forms.now c.args.self.now.own k w;
  put = variables_kept fs c.args.forms.now c.args.self.now.put k v;
  made = r;
}
