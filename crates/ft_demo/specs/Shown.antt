-- What is found before anything is written: private to the crate.
use Rattle.std.specs.Prelude.{◌≡◌, ◌+◌, ◌^◌, ◌<◌, List, [], length, count_by, None}
use Rattle.std.proofs.Common.{refl, sym, add-zero}
use Rattle.ft_isa.specs.declared.output.Output.{Output}
use Rattle.ft_isa.specs.declared.plan.Strike.{Strike}
use Rattle.ft_types.specs.declared.object.Object.{Object}
use Rattle.ft_semantics.specs.Run.{outputs_after}
use Rattle.ft_campaign.specs.declared.totals.Totals.{Totals}
use Rattle.ft_campaign.specs.declared.verdict.Verdict.{Verdict}
use Rattle.ft_campaign.specs.Verdicts.{AreVerdicts}
use Rattle.ft_campaign.specs.Texts.{is_corrupt, totals_of}
use Rattle.ft_demo.specs.declared.tally.Tally.{Tally}
use Rattle.ft_demo.specs.declared.demonstration.Shown as shown
use Rattle.ft_demo.specs.Demonstrations.{first_faults, last_value_or}

-- these are the number of outputs and the value of the last one
pub record Tallies (tally : Tally) (outputs : List Output) : Type 0 where
  pub count : tally.count ≡ length outputs
  pub last : tally.last ≡ last_value_or 0 outputs

-- the tally after these outputs, if their number fits
pub record TalliesMore (old : Tally) (outputs : List Output) (new : Tally) : Type 0 where
  pub count : old.count + length outputs < 2 ^ 64 → new.count ≡ old.count + length outputs
  pub last : new.last ≡ last_value_or old.last outputs

pub tallies_none : (tally : Tally) → TalliesMore tally [] tally
tallies_none tally = record { count = λ few. sym (add-zero tally.count); last = refl }

-- these are the totals of the faults' verdicts, none of which is corrupt
pub record AreTotals (o : Object) (faults : List Strike) (totals : Totals) : Type 0 where
  pub found : List Verdict
  pub verdicts : AreVerdicts o faults [] 131072 found
  pub uncorrupted : count_by is_corrupt found ≡ 0
  pub totals_are : totals ≡ totals_of found

-- what is shown of an object
pub record IsShown (o : Object) (s : shown.Shown) : Type 0 where
  pub tally : Tallies s.tally (outputs_after o None [] 131072)
  pub totals : AreTotals o (first_faults 64) s.totals
