-- What the parts of the tool know about a call's files and script: private to the tool.
use Rattle.std.specs.Prelude.{◌≡◌, ◌≢◌, ◌⊎◌, ℕ, List, [], ◌∷◌, Option}
use Rattle.ft_edge.specs.Loads.{Files}
use Rattle.ft_types.specs.declared.object.Object.{Object}
use Rattle.ft_campaign.specs.declared.verdict.Verdict.{Verdict}
use Rattle.ft_tolerance.specs.Soundness.{IsNeverDetected}
use Rattle.ft_command.specs.Commands.{Campaign}
use Rattle.ft_tool.specs.Lists.{NoneCorrupt, OverList}
use Rattle.ft_tool.specs.Replies.{Answer, AreFiles, IsScript, IsToldFile}
use Rattle.ft_tool.specs.Calls.{LoadList, HasMade, list_load}

-- this holds for the revealed files, or else for some files
abbrev pub OfFiles : Option Files → (Files → Type 0) → Type 0
OfFiles told Holds = (files : Files) × (AreFiles told files × Holds files)

-- this holds for the revealed script, or else for some script
abbrev pub OfScript : Option (List ℕ) → (List ℕ → Type 0) → Type 0
OfScript left Holds = (script : List ℕ) × (IsScript left script × Holds script)

-- the text is the fault list of a campaign whose object file has these bytes
pub record IsListOf (c : Campaign) (told : Option Files) (bytes list : List ℕ) : Type 0 where
  pub file : IsToldFile told c.faults list
  pub own : c.faults ≡ c.object → list ≡ bytes

-- the answer for the fault list and an object whose file has these bytes
abbrev pub OverListOf : (List Verdict → Type 0) → Campaign → Option Files → List ℕ → Object → Answer → Type 0
OverListOf Promised c told bytes o a = (list : List ℕ) × (IsListOf c told bytes list × OverList Promised c o list a)

-- likewise for a campaign on an accepted object
abbrev pub CampaignsListOf : Campaign → Option Files → List ℕ → Object → Answer → Type 0
CampaignsListOf c told bytes o a = OverListOf NoneCorrupt c told bytes o a × IsNeverDetected o c.wild

-- the fault list of a campaign was loaded, unless its name is the object's, in which case nothing was
abbrev pub LoadsOther : Campaign → Option LoadList → Option LoadList → Type 0
LoadsOther c asked asked' = ((c.faults ≡ c.object) × HasMade [] asked asked') ⊎ ((c.faults ≢ c.object) × HasMade (list_load c.faults ∷ []) asked asked')
