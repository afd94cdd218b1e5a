use Rattle.ft_access.proofs.fates.Fates.before.Goals as goal

pub returns-in-Some : goal.returns-in-Some
returns-in-Some c = rw c.in-Some.is (λ f h. c.before_execution.ensures f h)

pub returns-in-None : goal.returns-in-None
returns-in-None c = rw c.in-None.is (λ f h. c.before_fetch.ensures f h)
