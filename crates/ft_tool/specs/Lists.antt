-- The answers of `campaign` and `survey` for an object and a fault list.
use Rattle.std.specs.Prelude.{◌≡◌, ℕ, ◌*◌, ◌<◌, ◌≤◌, ◌==◌, if◌then◌else◌, List, length, count_by}
use Rattle.ft_isa.specs.declared.plan.Strike.{Strike}
use Rattle.ft_types.specs.declared.object.Object.{Object}
use Rattle.ft_campaign.specs.declared.fault_list.ListError.{ListError}
use Rattle.ft_campaign.specs.declared.fault_list.ListError.TheVariants as lists
use Rattle.ft_campaign.specs.declared.verdict.Verdict.{Verdict}
use Rattle.ft_campaign.specs.FaultList.{IsFaultList, IsListError}
use Rattle.ft_campaign.specs.Verdicts.{AreVerdicts}
use Rattle.ft_campaign.specs.Texts.{is_corrupt, campaign_lines}
use Rattle.ft_command.specs.Commands.{Campaign}
use Rattle.ft_tool.specs.Texts.{list_line}
use Rattle.ft_tool.specs.Replies.{Answer, one_piece}

-- the status for these verdicts: 10 if one is corrupt, otherwise 0
abbrev pub status_of : List Verdict → ℕ
status_of vs = if count_by is_corrupt vs == 0 then 0 else 10

-- what is promised about the verdicts: nothing for a survey; for a campaign on an accepted object, that none is corrupt
abbrev pub AnyVerdicts : List Verdict → Type 0
AnyVerdicts vs = Unit {0}

abbrev pub NoneCorrupt : List Verdict → Type 0
NoneCorrupt vs = count_by is_corrupt vs ≡ 0

-- the answer to a text that is not a fault list
abbrev pub IsListAnswer : ListError → Answer → Type 0
IsListAnswer (lists.Line number) a = a ≡ one_piece (list_line 1 number) 11
IsListAnswer lists.TooMany a = a ≡ one_piece (list_line 2 65536) 11
IsListAnswer lists.NoMemory a = ⊥

-- the text is not a fault list, and this is the answer
pub record IsRefusedList (list : List ℕ) (a : Answer) : Type 0 where
  pub error : ListError
  pub refused : IsListError list error
  pub answer : IsListAnswer error a

-- the answer for these faults: a refusal if their number times the number of steps is above 1,000,000,000; otherwise
-- the lines of their verdicts, which are as promised
pub data OverFaults (Promised : List Verdict → Type 0) (c : Campaign) (o : Object) (faults : List Strike) (a : Answer) : Type 0 where
  too_much : 1000000000 < length faults * c.steps → a ≡ one_piece (list_line 3 (length faults * c.steps)) 11 → OverFaults Promised c o faults a
  tried : length faults * c.steps ≤ 1000000000 → (verdicts : List Verdict) → AreVerdicts o faults c.wild c.steps verdicts → Promised verdicts
      → a ≡ record { pieces = campaign_lines faults verdicts; status = status_of verdicts } → OverFaults Promised c o faults a

-- the answer for the text of a list
pub data OverList (Promised : List Verdict → Type 0) (c : Campaign) (o : Object) (list : List ℕ) (a : Answer) : Type 0 where
  refused_list : IsRefusedList list a → OverList Promised c o list a
  listed : (faults : List Strike) → IsFaultList list faults → OverFaults Promised c o faults a → OverList Promised c o list a
