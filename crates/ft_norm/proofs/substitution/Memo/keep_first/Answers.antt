use Rattle.std.proofs.Common.{rules}
use Rattle.ft_norm.proofs.Memos.{remembers_first}
use Rattle.indexmap.proofs.CallerLemmas.{filter-RetainsPairs}
use Rattle.ft_norm.proofs.substitution.Memo.keep_first.Goals as goal

pub returns : goal.returns
returns c = λ ns fs gs ints memory r l k i w.
    remembers_first ns fs gs ints memory c.args.count _ _ c.len-nodes.ensures.unique
    (filter-RetainsPairs _ _ _ (λ n v b x g call. search rules) _ _ c.retain.ensures.filtered) r l k i w
