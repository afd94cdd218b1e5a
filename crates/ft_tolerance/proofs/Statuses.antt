-- The test for a running machine.
use Rattle.std.proofs.Common.{◌≡◌, true, refl}
use Rattle.ft_semantics.specs.declared.status.Status.{Status}
use Rattle.ft_semantics.specs.declared.status.Status.TheVariants.{Running, Done, Detected}
use Rattle.ft_semantics.specs.Strike.{is_running}

-- a status that passes the test is `Running`
pub running_is : (v : Status) → is_running v ≡ true → v ≡ Running
running_is Running e = refl
running_is Done e = cc
running_is Detected e = cc
