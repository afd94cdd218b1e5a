use Rattle.std.proofs.Common.{◌≡◌, List, [], ◌∷◌, drop, slice_get, Some, ap}
use Rattle.ft_typing.specs.Context.{FormPair}
use Rattle.ft_typing.specs.RowWords.{Outcome, for_oldest}
use Rattle.ft_contexts.specs.Contexts.{context_in, pair_in}
use Rattle.ft_rules.proofs.premises.oldest.Goals as goal

-- the oldest pair is the first, and the others follow it
oldest_is : (q : List FormPair) (p : FormPair) (next : FormPair → List FormPair → Outcome) → slice_get q 0 ≡ Some p →
    for_oldest q next ≡ next p (drop 1 q)
unfolding for_oldest
oldest_is [] p next e = cc
oldest_is (x ∷ q) p next e = let same : x ≡ p = cc in ap (λ y. next y q) same

pub returns-clause-passes : goal.returns-clause-passes
returns-clause-passes c = λ fs next. oldest_is (context_in fs c.args.context.now).queue (pair_in fs c.queue_at.result)
    next (c.queue_at.ensures.pair fs)
