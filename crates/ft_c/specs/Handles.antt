-- What calls do with the run that a handle holds.
use Rattle.std.specs.Prelude.{◌≡◌, ℕ, List, [], Option, Some, None, true, false}
use Rattle.ft_isa.specs.declared.plan.Site.{Site}
use Rattle.ft_isa.specs.PlanText.{IsSiteText}
use Rattle.ft_semantics.specs.Strike.{is_there}
use Rattle.ft_semantics.specs.Run.{state_after}
use Rattle.ft_embed.specs.declared.filling.CellOutput.{CellOutput}
use Rattle.ft_embed.specs.Tasks.{TaskRun, WentOn, begun}

-- the run in a handle continued, and the handle still holds it
pub record GoesOnIn (old new : Option TaskRun) (status steps taken count : ℕ) (out : List CellOutput) : Type 0 where
  pub before : TaskRun
  pub after : TaskRun
  pub held : old ≡ Some before
  pub holds : new ≡ Some after
  pub went : WentOn before after status steps taken count out

-- the run in a handle had neither been struck nor stopped, and the site that the text names existed: the run is struck
-- before its next step
pub record IsStruckIn (old new : Option TaskRun) (text : List ℕ) (value : ℕ) : Type 0 where
  pub before : TaskRun
  pub site : Site
  pub held : old ≡ Some before
  pub says : IsSiteText text site
  pub first : before.strike ≡ None
  pub there : is_there (state_after before.object None [] before.taken) site ≡ true
  pub holds : new ≡ Some (record { object = before.object; strike = Some (record { step = before.taken; site = site; value = value }); taken = before.taken })

-- the run in a handle had been struck or had stopped, or the site that the text names did not exist
pub record IsNotStruckIn (old : Option TaskRun) (text : List ℕ) : Type 0 where
  pub before : TaskRun
  pub site : Site
  pub held : old ≡ Some before
  pub says : IsSiteText text site
  pub missed : before.strike ≡ None → is_there (state_after before.object None [] before.taken) site ≡ false

-- the run in a handle was restarted
pub record BeginsAgain (old new : Option TaskRun) : Type 0 where
  pub before : TaskRun
  pub held : old ≡ Some before
  pub holds : new ≡ Some (begun before.object)
