-- What exchanges preserve in a run.
use Rattle.std.specs.Prelude.{◌≡◌, ◌≢◌, ℕ, ◌+◌, List, None}
use Rattle.ft_isa.specs.declared.plan.Wild.{Wild}
use Rattle.ft_types.specs.declared.object.Object.{Object}
use Rattle.ft_semantics.specs.declared.status.Status.TheVariants.{Running}
use Rattle.ft_semantics.specs.Agrees.{IsPrefix}
use Rattle.ft_semantics.specs.Run.{outputs_after, status_after}

-- after n steps without a fault, whatever the answers to wild loads: the statuses are equal; the outputs of s are a
-- prefix of those of o, and equal to them once the run has stopped; and the outputs of o are a prefix of those of s
-- after 131,072 more steps
pub record RunsAlike (o s : Object) (w : List Wild) (n : ℕ) : Type 0 where
  pub status : status_after s None w n ≡ status_after o None w n
  pub prefix : IsPrefix (outputs_after s None w n) (outputs_after o None w n)
  pub end : status_after o None w n ≢ Running → outputs_after s None w n ≡ outputs_after o None w n
  pub later : IsPrefix (outputs_after o None w n) (outputs_after s None w (n + 131072))
