-- What a campaign returns and writes.
use Rattle.std.specs.Prelude.{◌≡◌, ℕ, ◌*◌, ◌<◌, List, length}
use Rattle.ft_edge.specs.Logs.{SinkLog}
use Rattle.ft_edge.specs.Lines.{with_lines, BreaksOff}
use Rattle.ft_isa.specs.declared.plan.Strike.{Strike}
use Rattle.ft_isa.specs.declared.plan.Wild.{Wild}
use Rattle.ft_types.specs.declared.object.Object.{Object}
use Rattle.ft_campaign.specs.declared.campaign_end.CampaignEnd.{CampaignEnd}
use Rattle.ft_campaign.specs.declared.campaign_end.CampaignEnd.TheVariants.{Finished, TooMuch, WriteFault, NoMemory}
use Rattle.ft_campaign.specs.declared.totals.Totals.{Totals}
use Rattle.ft_campaign.specs.declared.verdict.Verdict.{Verdict}
use Rattle.ft_campaign.specs.Verdicts.{AreVerdicts}
use Rattle.ft_campaign.specs.Texts.{totals_of, campaign_lines}

-- a campaign finished: each fault has its verdict, the totals count the verdicts, and all lines were put
pub record Finishes (totals : Totals) (o : Object) (faults : List Strike) (w : List Wild) (n : ℕ) (old new : SinkLog) : Type 0 where
  pub found : List Verdict
  pub verdicts : AreVerdicts o faults w n found
  pub totals_are : totals ≡ totals_of found
  pub lines : new ≡ with_lines (campaign_lines faults found) old

-- a put of a campaign's lines failed
pub record Stops (o : Object) (faults : List Strike) (w : List Wild) (n : ℕ) (old new : SinkLog) : Type 0 where
  pub found : List Verdict
  pub verdicts : AreVerdicts o faults w n found
  pub lines : BreaksOff (campaign_lines faults found) old new

-- a campaign is refused: the number of faults times n is above 1,000,000,000
pub record IsTooMuch (product : ℕ) (faults : List Strike) (n : ℕ) (old new : SinkLog) : Type 0 where
  pub product_is : product ≡ length faults * n
  pub above : 1000000000 < product
  pub nothing : new ≡ old

-- how a campaign ended
abbrev pub EndsAs : CampaignEnd → Object → List Strike → List Wild → ℕ → SinkLog → SinkLog → Type 0
EndsAs (Finished totals) o faults w n old new = Finishes totals o faults w n old new
EndsAs (TooMuch product) o faults w n old new = IsTooMuch product faults n old new
EndsAs WriteFault o faults w n old new = Stops o faults w n old new
EndsAs NoMemory o faults w n old new = new ≡ old

-- no verdict was corrupt
abbrev pub IsUncorrupted : CampaignEnd → Type 0
IsUncorrupted (Finished totals) = totals.corrupt ≡ 0
IsUncorrupted (TooMuch product) = Unit {0}
IsUncorrupted WriteFault = Unit {0}
IsUncorrupted NoMemory = Unit {0}
