use Rattle.std.proofs.Common.{rules, subst, sym}
use Rattle.ft_access.specs.Fates.{Unread}
use Rattle.ft_access.specs.Kept.{Holds}
use Rattle.ft_access.proofs.KeptFates.{running_hold, stopped_hold}
use Rattle.ft_access.proofs.fates.Fates.back.Goals as goal
use Rattle.ft_access.proofs.fates.Fates.back.Goals.{then-not-runs_on, else-not-runs_on}

pub returns : goal.returns
returns c = λ f h. elim c.if-not-runs_on.branch [
  | then-not-runs_on w ↦ stopped_hold c.args.fetched.now c.args.step c.args.runs_on c.before-2.new.self f (search rules)
      (c.before-2.ensures (λ _. Unread) (subst (λ s. Holds s (λ _. Unread)) (sym w.self-is) w.none.ensures))
  | else-not-runs_on w ↦ running_hold c.args.fetched.now c.args.step c.args.runs_on c.before-2.new.self f (search rules)
      (c.before-2.ensures f (subst (λ s. Holds s f) (sym w.self-is) h))
]
