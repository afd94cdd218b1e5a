-- What each command writes, and the status that it ends with, by one rule per command.
use Rattle.std.specs.Prelude.{◌≡◌, ◌⊎◌, ℕ, List, [], ◌∷◌, ◌++◌, Option, Some, None, Bool, ◌==◌, codes}
use Rattle.std.specs.List.{list_any}
use Rattle.ft_edge.specs.Causes.{Rose}
use Rattle.ft_edge.specs.Loads.{Files}
use Rattle.ft_edge.specs.Logs.{SinkLog, ShelfLog, LoadFails, SourceLog}
use Rattle.ft_edge.specs.Lines.{with_lines, BreaksOff as LinesBreakOff}
use Rattle.ft_isa.specs.declared.plan.Strike.{Strike}
use Rattle.ft_isa.specs.declared.plan.Wild.{Wild}
use Rattle.ft_types.specs.declared.object.Object.{Object}
use Rattle.ft_types.specs.Spellable.{IsSpellable}
use Rattle.ft_semantics.specs.Agrees.{Agrees}
use Rattle.ft_semantics.specs.Run.{run, outputs_after, status_after}
use Rattle.ft_typing.specs.Accepted.{Refusal, refusal}
use Rattle.ft_command.specs.Options.{Word}
use Rattle.ft_command.specs.Commands.{Run, Campaign, Debugging, Request, Usage, Checks, Runs, Trials, Campaigns, Surveys, Compiles, Executes, Means, Debugs, Demonstrates, Upgrades, Assembles, Disassembles, Asks, Schedules, Recovers, Links}
use Rattle.ft_tolerance.specs.Soundness.{IsNeverDetected}
use Rattle.ft_exchange.specs.Scheduled.{IsScheduled}
use Rattle.ft_campaign.specs.declared.verdict.Verdict.{Verdict}
use Rattle.ft_asm.specs.Reads.{text_of, Answer as Said, Is, TooLong, Text, Order, Broken, Applies}
use Rattle.ft_tool.specs.Texts.{asm_line, again_line}
use Rattle.ft_tool.specs.Replies.{Answer, one_piece, ran, AreFiles, IsFile, IsScript, IsSpelling, status_of_run}
use Rattle.ft_recover.specs.Recovery.{restart_output, whole_output}
use Rattle.ft_scope.specs.Resolved.{Program}
use Rattle.ft_tool.specs.Sources.{OverText, CompilesProgram, ExecutesProgram, MeansProgram}
use Rattle.ft_tool.specs.Lists.{AnyVerdicts, NoneCorrupt, OverList}
use Rattle.ft_tool.specs.Scripts.{DebugsObject}
use Rattle.ft_tool.specs.Objects.{refused, judged, OverBytes, UpgradesObject}
use Rattle.ft_tool.specs.Links.{LinksFile, ComesToModule}
use Rattle.ft_tool.specs.Demonstrations.{ShowsSample}

-- the answer to words that are not a command
abbrev pub usage : Answer
usage = one_piece (codes "usage\n") 2

-- the answer for the run of an object under the requested plan, for the requested number of steps
abbrev pub tried : Run → Object → Answer
tried r o = ran o (run o r.strike r.wild r.steps)

abbrev pub checked : Object → Answer
checked o = judged (refusal o)

-- the run withstands its plan: after any number of steps it has the outputs and the status of the run without the
-- strike, or it is detected and its outputs are a prefix of those; the run without the strike is never detected
pub record Withstands (o : Object) (strike : Option Strike) (w : List Wild) : Type 0 where
  pub agrees : (n : ℕ) → Agrees (outputs_after o strike w n) (status_after o strike w n) (outputs_after o None w n) (status_after o None w n)
  pub undetected : IsNeverDetected o w

-- the answer of `run`, given the refusal of the object, if any: the run, which withstands its plan, or the refusal
abbrev pub RunsUnless : Option Refusal → Run → Object → Answer → Type 0
RunsUnless None r o a = (a ≡ tried r o) × Withstands o r.strike r.wild
RunsUnless (Some x) r o a = a ≡ judged (Some x)

-- the line that reports a restart, if there was one
abbrev pub again_lines : Option ℕ → List (List ℕ)
again_lines None = []
again_lines (Some n) = again_line n ∷ []

-- the answer for the recovery of an object: the lines and the status of its run without a fault, and the line of the
-- restart, if there was one
abbrev pub recovered : Run → Object → Answer
recovered r o = record {
  pieces = whole_output o r.wild r.steps ++ again_lines (restart_output o r.strike r.wild r.steps);
  status = status_of_run (status_after o None r.wild r.steps);
}

-- the answer of `recover`, given the refusal of the object, if any: the recovery or the refusal. The run of an accepted
-- object without a fault is never detected
abbrev pub RecoversUnless : Option Refusal → Run → Object → Answer → Type 0
RecoversUnless None r o a = (a ≡ recovered r o) × IsNeverDetected o r.wild
RecoversUnless (Some x) r o a = a ≡ judged (Some x)

-- the answer for the object file with this name
abbrev pub OverFile : (Object → Answer → Type 0) → Word → Files → Answer → Type 0
OverFile Over name files a = (bytes : List ℕ) × (IsFile files name bytes × OverBytes Over bytes a)

-- the answers of `check`, `run`, `trial` and `recover` for an object
abbrev pub ChecksObject : Object → Answer → Type 0
ChecksObject o a = a ≡ checked o

abbrev pub RunsObject : Run → Object → Answer → Type 0
RunsObject r o a = RunsUnless (refusal o) r o a

abbrev pub TrialsObject : Run → Object → Answer → Type 0
TrialsObject r o a = a ≡ tried r o

abbrev pub RecoversObject : Run → Object → Answer → Type 0
RecoversObject r o a = RecoversUnless (refusal o) r o a

-- the answer of `dis` for an object: its text, in one piece
abbrev pub DisassemblesObject : Object → Answer → Type 0
DisassemblesObject o a = a ≡ one_piece (text_of o) 0

-- the answer of `asm`, given the outcome of reading the text: the bytes of the object in version 2 of the format, or
-- the line of the refusal
abbrev pub AssemblesAs : Said → Answer → Type 0
AssemblesAs (Is o) a = UpgradesObject o a
AssemblesAs TooLong a = a ≡ one_piece (asm_line 3 134217728) 12
AssemblesAs (Text line) a = a ≡ one_piece (asm_line 1 line) 12
AssemblesAs (Order line) a = a ≡ one_piece (asm_line 2 line) 12
AssemblesAs (Broken e) a = a ≡ refused e

-- the answer of `asm` for a text
abbrev pub OverAssembly : List ℕ → Answer → Type 0
OverAssembly text a = (said : Said) × (Applies text said × AssemblesAs said a)

-- the answer of `asm` for the text in the file with this name
abbrev pub OverAssemblyFile : Word → Files → Answer → Type 0
OverAssemblyFile name files a = (text : List ℕ) × (IsFile files name text × OverAssembly text a)

-- the answer of `schedule` for an accepted object: the bytes of its schedule in version 2 of the format, in one piece.
-- The object obeys the rules of its tables, so it has exactly one schedule
pub record SchedulesAccepted (o : Object) (a : Answer) : Type 0 where
  pub spellable : IsSpellable o
  pub schedule : Object
  pub scheduled : IsScheduled o schedule
  pub written : UpgradesObject schedule a

-- the answer of `schedule`, given the refusal of the object, if any
abbrev pub SchedulesUnless : Option Refusal → Object → Answer → Type 0
SchedulesUnless None o a = SchedulesAccepted o a
SchedulesUnless (Some x) o a = a ≡ judged (Some x)

abbrev pub SchedulesObject : Object → Answer → Type 0
SchedulesObject o a = SchedulesUnless (refusal o) o a

-- the answer for an object and the fault list in a file
abbrev pub OverListFile : (List Verdict → Type 0) → Campaign → Files → Object → Answer → Type 0
OverListFile Promised c files o a = (list : List ℕ) × (IsFile files c.faults list × OverList Promised c o list a)

-- the answer of `survey` for an object
abbrev pub SurveysObject : Campaign → Files → Object → Answer → Type 0
SurveysObject c files o a = OverListFile AnyVerdicts c files o a

-- the answer of `campaign` for an accepted object: no verdict is corrupt, and the run without a fault is never detected
abbrev pub CampaignsAccepted : Campaign → Files → Object → Answer → Type 0
CampaignsAccepted c files o a = OverListFile NoneCorrupt c files o a × IsNeverDetected o c.wild

-- the answer of `campaign`, given the refusal of the object, if any
abbrev pub CampaignsUnless : Option Refusal → (Answer → Type 0) → Answer → Type 0
CampaignsUnless None Accepted a = Accepted a
CampaignsUnless (Some r) Accepted a = a ≡ judged (Some r)

-- the answer of `campaign` for an object
abbrev pub CampaignsObject : Campaign → Files → Object → Answer → Type 0
CampaignsObject c files o a = CampaignsUnless (refusal o) (CampaignsAccepted c files o) a

-- the answer for the source in the file with this name
abbrev pub OverSource : (Program → Answer → Type 0) → Word → Files → Answer → Type 0
OverSource Over name files a = (text : List ℕ) × (IsFile files name text × OverText Over text a)

-- the answer of a command for files and a script. The answer of a link depends only on the revealed files: if a shelf
-- reveals none, a link may get different bytes each time it loads the same name
abbrev pub Answers : Request → Option Files → Files → List ℕ → Answer → Type 0
Answers Usage told files script a = a ≡ usage
Answers (Checks name) told files script a = OverFile ChecksObject name files a
Answers (Runs r) told files script a = OverFile (RunsObject r) r.object files a
Answers (Trials r) told files script a = OverFile (TrialsObject r) r.object files a
Answers (Recovers r) told files script a = OverFile (RecoversObject r) r.object files a
Answers (Campaigns c) told files script a = OverFile (CampaignsObject c files) c.object files a
Answers (Surveys c) told files script a = OverFile (SurveysObject c files) c.object files a
Answers (Compiles name) told files script a = OverSource CompilesProgram name files a
Answers (Executes e) told files script a = OverSource (ExecutesProgram e.steps) e.source files a
Answers (Means m) told files script a = OverSource (MeansProgram m.turns) m.source files a
Answers (Debugs d) told files script a = OverFile (DebugsObject d script) d.object files a
Answers (Demonstrates turns) told files script a = ShowsSample turns a
Answers (Upgrades name) told files script a = OverFile UpgradesObject name files a
Answers (Assembles name) told files script a = OverAssemblyFile name files a
Answers (Disassembles name) told files script a = OverFile DisassemblesObject name files a
Answers (Schedules name) told files script a = OverFile SchedulesObject name files a
Answers (Links name) told files script a = LinksFile told name a

-- the answer of the command that the words ask for, with the revealed files and script, or else with some files and
-- some script. Except for a link on a shelf that reveals no files, one map of files serves all loads, so a name always
-- has the same content
pub record IsAnswer (words : List Word) (told : Option Files) (left : Option (List ℕ)) (a : Answer) : Type 0 where
  pub request : Request
  pub asks : Asks words request
  pub files : Files
  pub are_files : AreFiles told files
  pub script : List ℕ
  pub is_script : IsScript left script
  pub answers : Answers request told files script a

-- all pieces of an answer were written, with one put each, and this is its status
pub record Concludes (Is : Answer → Type 0) (status : ℕ) (old new : SinkLog) : Type 0 where
  pub answer : Answer
  pub is : Is answer
  pub put : new ≡ with_lines answer.pieces old
  pub status_is : status ≡ answer.status

-- an answer was written up to a piece whose put failed, and that put was the last
pub record BreaksOff (Is : Answer → Type 0) (old new : SinkLog) : Type 0 where
  pub answer : Answer
  pub is : Is answer
  pub broken : LinesBreakOff answer.pieces old new

-- the file with this name spells an object
abbrev pub SpellsFile : Files → Word → Type 0
SpellsFile files name = (bytes : List ℕ) × (IsFile files name bytes × ((o : Object) × IsSpelling bytes o))

-- the file with this name spells an accepted object
abbrev pub SpellsAccepted : Files → Word → Type 0
SpellsAccepted files name = (bytes : List ℕ) × (IsFile files name bytes × ((o : Object) × (IsSpelling bytes o × (refusal o ≡ None))))

-- a request gets as far as loading this file: no earlier step refuses it
abbrev pub ComesTo : Request → Option Files → Files → Word → Type 0
ComesTo Usage told files file = ⊥
ComesTo (Checks object) told files file = file ≡ object
ComesTo (Runs r) told files file = file ≡ r.object
ComesTo (Trials r) told files file = file ≡ r.object
ComesTo (Recovers r) told files file = file ≡ r.object
ComesTo (Campaigns c) told files file = (file ≡ c.object) ⊎ ((file ≡ c.faults) × SpellsAccepted files c.object)
ComesTo (Surveys c) told files file = (file ≡ c.object) ⊎ ((file ≡ c.faults) × SpellsFile files c.object)
ComesTo (Compiles name) told files file = file ≡ name
ComesTo (Executes e) told files file = file ≡ e.source
ComesTo (Means m) told files file = file ≡ m.source
ComesTo (Debugs d) told files file = file ≡ d.object
ComesTo (Demonstrates turns) told files file = ⊥
ComesTo (Upgrades object) told files file = file ≡ object
ComesTo (Assembles text) told files file = file ≡ text
ComesTo (Disassembles object) told files file = file ≡ object
ComesTo (Schedules object) told files file = file ≡ object
ComesTo (Links name) told files file = (file ≡ name) ⊎ ComesToModule told name file

-- a request got as far as loading a file, and that load failed
pub record FailsIn (request : Request) (files : Files) (old new : ShelfLog) : Type 0 where
  pub file : Word
  pub comes : ComesTo request old.files files file
  pub fails : LoadFails file old new

-- the words ask for a command that got as far as loading a file, with the revealed files or else with some files, and
-- that load failed
pub record FailedToLoad (words : List Word) (old new : ShelfLog) : Type 0 where
  pub request : Request
  pub asks : Asks words request
  pub files : Files
  pub are_files : AreFiles old.files files
  pub fails : FailsIn request files old new

-- a session got as far as its script, since its file spells an object. A take of the script failed: the count of failed
-- takes rose or is 2^64 - 1
pub record FailsAtScript (d : Debugging) (files : Files) (old new : SourceLog) : Type 0 where
  pub rose : Rose old.failures new.failures
  pub comes : SpellsFile files d.object

-- the words ask for a session that got as far as its script, with the revealed files or else with some files, and a
-- take of the script failed
pub record FailedToTake (words : List Word) (told : Option Files) (old new : SourceLog) : Type 0 where
  pub debugging : Debugging
  pub asks : Asks words (Debugs debugging)
  pub files : Files
  pub are_files : AreFiles told files
  pub fails : FailsAtScript debugging files old new

-- whether a number is one of the statuses
abbrev pub is_status : ℕ → Bool
is_status n = list_any (λ s. s == n) (0 ∷ 1 ∷ 2 ∷ 3 ∷ 4 ∷ 5 ∷ 6 ∷ 7 ∷ 8 ∷ 9 ∷ 10 ∷ 11 ∷ 12 ∷ 13 ∷ [])
