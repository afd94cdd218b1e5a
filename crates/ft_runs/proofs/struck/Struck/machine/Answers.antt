use Rattle.std.proofs.Common.{◌≡◌, true, None, subst}
use Rattle.ft_semantics.specs.Run.{state_after}
use Rattle.ft_semantics.specs.Strike.{is_there}
use Rattle.ft_tolerance.specs.Alike.{IsAlikeAfter}
use Rattle.ft_runs.specs.Runs.{StruckRun}
use Rattle.ft_runs.proofs.struck.Struck.machine.Goals as goal

pub returns-clause-there : goal.returns-clause-there
returns-clause-there g c =
    subst (λ (x : StruckRun). is_there (state_after x.object None x.wild x.strike.step) x.strike.site
    ≡ true) c.self.view_is c.self.invariant.there

pub returns-clause-alike : goal.returns-clause-alike
returns-clause-alike g c =
    subst (λ (x : StruckRun). IsAlikeAfter x.object x.strike x.wild x.taken c.self.inside.machine) c.self.view_is
    c.self.invariant.alike
