-- Campaigns whose verdicts go into the caller's array.
use Rattle.std.specs.Prelude.{◌≡◌, ℕ, ◌*◌, ◌<◌, ◌≤◌, List, length, take, map, count_by}
use Rattle.ft_isa.specs.declared.plan.Strike.{Strike}
use Rattle.ft_isa.specs.declared.plan.Wild.{Wild}
use Rattle.ft_types.specs.declared.object.Object.{Object}
use Rattle.ft_tolerance.specs.Soundness.{IsNeverDetected}
use Rattle.ft_format.specs.Broken.{object_of}
use Rattle.ft_campaign.specs.declared.fault_list.ListError.TheVariants as lists
use Rattle.ft_campaign.specs.declared.totals.Totals.{Totals}
use Rattle.ft_campaign.specs.declared.verdict.Verdict.{Verdict}
use Rattle.ft_campaign.specs.declared.verdict.Verdict.TheVariants as verdicts
use Rattle.ft_campaign.specs.FaultList.{IsFaultList, IsListError}
use Rattle.ft_campaign.specs.Verdicts.{AreVerdicts}
use Rattle.ft_campaign.specs.Texts.{is_corrupt, totals_of}
use Rattle.ft_embed.specs.declared.refused.Refused.{Refused}
use Rattle.ft_embed.specs.declared.trial.FaultVerdict.{FaultVerdict}
use Rattle.ft_embed.specs.declared.trial.FaultTotals.{FaultTotals}
use Rattle.ft_embed.specs.Plans.{AreAnswers}
use Rattle.ft_embed.specs.Verdicts.{IsAcceptedFile}

-- the number of a verdict
abbrev pub verdict_number : Verdict → ℕ
verdict_number verdicts.Masked = 0
verdict_number (verdicts.Detected at) = 1
verdict_number verdicts.Idle = 2
verdict_number verdicts.Corrupt = 3

-- the step that detected the fault, or 0
abbrev pub detected_at : Verdict → ℕ
detected_at verdicts.Masked = 0
detected_at (verdicts.Detected at) = at
detected_at verdicts.Idle = 0
detected_at verdicts.Corrupt = 0

-- a verdict as C sees it
abbrev pub fault_verdict : Verdict → FaultVerdict
fault_verdict v = record { verdict = verdict_number v; at = detected_at v }

-- how many faults there are, and how many have each verdict, as C sees it. Corrupt verdicts are not counted, since an
-- accepted object has none
abbrev pub fault_totals : ℕ → Totals → FaultTotals
fault_totals n t = record { count = n; masked = t.masked; detected = t.detected; idle = t.idle }

-- n faults, none of which was tried
abbrev pub untried : ℕ → FaultTotals
untried n = record { count = n; masked = 0; detected = 0; idle = 0 }

-- faults were tried on an object: the array has their verdicts in order, and the totals count them; none is corrupt
pub record Tries (o : Object) (faults : List Strike) (w : List Wild) (steps : ℕ) (totals : FaultTotals) (new : List FaultVerdict) : Type 0 where
  pub found : List Verdict
  pub verdicts : AreVerdicts o faults w steps found
  pub uncorrupted : count_by is_corrupt found ≡ 0
  pub within : length faults ≤ length new
  pub stand : take (length faults) new ≡ map fault_verdict found
  pub totals_are : totals ≡ fault_totals (length faults) (totals_of found)

-- the faults in a text were tried, with the answers to wild loads in another, on the accepted object that bytes spell
pub record TriesFile (bytes list wild : List ℕ) (steps : ℕ) (totals : FaultTotals) (new : List FaultVerdict) : Type 0 where
  pub file : IsAcceptedFile bytes
  pub answers : List Wild
  pub are_answers : AreAnswers wild answers
  pub faults : List Strike
  pub are_faults : IsFaultList list faults
  pub few_steps : steps ≤ 1000000
  pub few_in_all : length faults * steps ≤ 1000000000
  pub tries : Tries (object_of bytes) faults answers steps totals new
  pub sound : IsNeverDetected (object_of bytes) answers

-- the text is a list of more faults than the array has room for; their number is reported, and none was tried
pub record WantsRoom (list : List ℕ) (totals : FaultTotals) (old new : List FaultVerdict) : Type 0 where
  pub faults : List Strike
  pub are_faults : IsFaultList list faults
  pub more : length old < length faults
  pub told : totals ≡ untried (length faults)
  pub kept : new ≡ old

-- why a list is refused: the number of the refusal, and a line, the maximum number of faults, or the product that is
-- above the limit
abbrev pub told_list : ℕ → ℕ → Refused
told_list n x = record { part = 8; number = n; place = x; index = 0 }

-- this is the refusal of the list: a line is not a fault, there are too many faults, or their number times the number
-- of steps is too large
pub data IsListRefused (list : List ℕ) (steps : ℕ) (told : Refused) : Type 0 where
  bad_line : (line : ℕ) → IsListError list (lists.Line line) → told ≡ told_list 1 line → IsListRefused list steps told
  too_many : IsListError list lists.TooMany → told ≡ told_list 2 65536 → IsListRefused list steps told
  too_much : (faults : List Strike) → IsFaultList list faults → 1000000000 < length faults * steps → told ≡ told_list 3 (length faults * steps) → IsListRefused list steps told

-- the faults in a text were tried on an accepted object: private to the code
pub record TriesList (o : Object) (list : List ℕ) (w : List Wild) (steps : ℕ) (totals : FaultTotals) (new : List FaultVerdict) : Type 0 where
  pub faults : List Strike
  pub are_faults : IsFaultList list faults
  pub few_in_all : length faults * steps ≤ 1000000000
  pub tries : Tries o faults w steps totals new
