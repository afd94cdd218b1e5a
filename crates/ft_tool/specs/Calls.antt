-- Which loads a command makes, and how much of its script it reads.
use Rattle.std.specs.Prelude.{◌≡◌, ◌≢◌, ◌⊎◌, ℕ, ◌==◌, Bool, ◌||◌, List, [], ◌∷◌, ◌++◌, Option}
use Rattle.ft_edge.specs.Loads.{Files}
use Rattle.ft_edge.specs.Told.{append_told}
use Rattle.ft_edge.specs.Logs.{ShelfLog, SourceLog}
use Rattle.ft_edge.specs.Streams.{TakesAtMost}
use Rattle.ft_command.specs.Options.{Word}
use Rattle.ft_command.specs.Commands.{Campaign, Debugging, Request, Usage, Checks, Runs, Trials, Campaigns, Surveys, Compiles, Executes, Means, Debugs, Demonstrates, Upgrades, Assembles, Disassembles, Asks, Schedules, Recovers, Links}
use Rattle.ft_types.specs.declared.object.Object.{Object}
use Rattle.ft_link_map.specs.declared.link_map.LinkMap.{LinkMap}
use Rattle.ft_tool.specs.Replies.{Answer, AreFiles, IsToldFile}
use Rattle.ft_tool.specs.Links.{IsMap, EndsAtMap, EndsAtBytes, IsAdded}
use Rattle.ft_tool.specs.Answers.{SpellsFile, SpellsAccepted}

-- loads, each with its name and its limit
abbrev pub LoadList : Type 0
LoadList = List (Word × ℕ)

-- the shelf's record after these loads
abbrev pub asked_after : LoadList → Option LoadList → Option LoadList
asked_after [] asked = asked
asked_after (load ∷ loads) asked = asked_after loads (append_told asked (load ∷ []))

-- exactly these loads were made, in this order
abbrev pub HasMade : LoadList → Option LoadList → Option LoadList → Type 0
HasMade loads asked asked' = asked' ≡ asked_after loads asked

-- the loads of an object, a fault list and a source, each with its limit
abbrev pub object_load : Word → Word × ℕ
object_load name = (name, 67108864)

abbrev pub list_load : Word → Word × ℕ
list_load name = (name, 4194304)

abbrev pub source_load : Word → Word × ℕ
source_load name = (name, 1048576)

-- the load of an assembly text
abbrev pub text_load : Word → Word × ℕ
text_load name = (name, 134217728)

-- the load of a link map
abbrev pub map_load : Word → Word × ℕ
map_load name = (name, 65536)

-- whether a call with this status may have ended before its last load: a load or a take failed, or memory ran out
abbrev pub is_early : ℕ → Bool
is_early status = status == 3 || status == 5

-- the fault list of a campaign was loaded: the campaign got to it, and its name is not the object's
pub record LoadsList (c : Campaign) (Comes : Type 0) (asked asked' : Option LoadList) : Type 0 where
  pub comes : Comes
  pub other : c.faults ≢ c.object
  pub made : HasMade (object_load c.object ∷ list_load c.faults ∷ []) asked asked'

-- no fault list was loaded: the call ended early or, if the campaign got to its list, the list has the object's name
pub record LoadsNoList (c : Campaign) (Comes Early : Type 0) (asked asked' : Option LoadList) : Type 0 where
  pub none : (Comes → c.faults ≡ c.object) ⊎ Early
  pub made : HasMade (object_load c.object ∷ []) asked asked'

-- the object of a campaign was loaded, and then its fault list or nothing else
abbrev pub LoadsCampaign : Campaign → Type 0 → Type 0 → Option LoadList → Option LoadList → Type 0
LoadsCampaign c Comes Early asked asked' = LoadsNoList c Comes Early asked asked' ⊎ LoadsList c Comes asked asked'

-- the file of a module ends the link
abbrev pub EndsAtFile : Option Files → List Object → Word → Type 0
EndsAtFile told modules name = (bytes : List ℕ) × (IsToldFile told name bytes × ((a : Answer) × EndsAtBytes modules bytes a))

-- the loads of further modules, in turn: the file of the first, and if it is added, the files of the modules after it.
-- A call that ends early may make fewer
abbrev pub LoadsInTurn : Option Files → Type 0 → List Object → List Word → LoadList → Type 0
LoadsInTurn told Early modules [] loads = loads ≡ []
LoadsInTurn told Early modules (name ∷ names) loads =
    ((loads ≡ []) × Early)
    ⊎ ((more : LoadList) × ((loads ≡ object_load name ∷ more)
    × (((more ≡ []) × (EndsAtFile told modules name ⊎ Early))
    ⊎ ((bytes : List ℕ) × (IsToldFile told name bytes × ((o : Object) × (IsAdded modules bytes o × LoadsInTurn told Early (modules ++ o ∷ []) names more)))))))

-- only the file of the map was loaded: its text is not a map, or the call ended early
pub record LoadsNoModule (told : Option Files) (name : Word) (Early : Type 0) (asked asked' : Option LoadList) : Type 0 where
  pub none : ((text : List ℕ) × (IsToldFile told name text × ((a : Answer) × EndsAtMap text a))) ⊎ Early
  pub made : HasMade (map_load name ∷ []) asked asked'

-- the file of the map was loaded, and then the files of its modules
pub record LoadsModules (told : Option Files) (name : Word) (Early : Type 0) (asked asked' : Option LoadList) : Type 0 where
  pub text : List ℕ
  pub is_file : IsToldFile told name text
  pub linkage : LinkMap
  pub is_map : IsMap text linkage
  pub loads : LoadList
  pub in_turn : LoadsInTurn told Early [] linkage.files loads
  pub made : HasMade (map_load name ∷ loads) asked asked'

-- the loads of a link: the map, and then its modules or nothing else
abbrev pub LoadsLink : Option Files → Word → Type 0 → Option LoadList → Option LoadList → Type 0
LoadsLink told name Early asked asked' = LoadsNoModule told name Early asked asked' ⊎ LoadsModules told name Early asked asked'

-- the loads of a request: the files that it names, in order. Unless the call ends early, the fault list of a campaign
-- is loaded exactly when its object is accepted, that of a survey exactly when its object's bytes spell an object, and
-- a module exactly when the modules before it were added. A fault list that has the object's name is not loaded again
abbrev pub LoadsFor : Request → Option Files → Files → Type 0 → Option LoadList → Option LoadList → Type 0
LoadsFor Usage told files Early asked asked' = HasMade [] asked asked'
LoadsFor (Checks object) told files Early asked asked' = HasMade (object_load object ∷ []) asked asked'
LoadsFor (Runs r) told files Early asked asked' = HasMade (object_load r.object ∷ []) asked asked'
LoadsFor (Trials r) told files Early asked asked' = HasMade (object_load r.object ∷ []) asked asked'
LoadsFor (Recovers r) told files Early asked asked' = HasMade (object_load r.object ∷ []) asked asked'
LoadsFor (Campaigns c) told files Early asked asked' = LoadsCampaign c (SpellsAccepted files c.object) Early asked asked'
LoadsFor (Surveys c) told files Early asked asked' = LoadsCampaign c (SpellsFile files c.object) Early asked asked'
LoadsFor (Compiles source) told files Early asked asked' = HasMade (source_load source ∷ []) asked asked'
LoadsFor (Executes e) told files Early asked asked' = HasMade (source_load e.source ∷ []) asked asked'
LoadsFor (Means m) told files Early asked asked' = HasMade (source_load m.source ∷ []) asked asked'
LoadsFor (Debugs d) told files Early asked asked' = HasMade (object_load d.object ∷ []) asked asked'
LoadsFor (Demonstrates turns) told files Early asked asked' = HasMade [] asked asked'
LoadsFor (Upgrades object) told files Early asked asked' = HasMade (object_load object ∷ []) asked asked'
LoadsFor (Assembles text) told files Early asked asked' = HasMade (text_load text ∷ []) asked asked'
LoadsFor (Disassembles object) told files Early asked asked' = HasMade (object_load object ∷ []) asked asked'
LoadsFor (Schedules object) told files Early asked asked' = HasMade (object_load object ∷ []) asked asked'
LoadsFor (Links name) told files Early asked asked' = LoadsLink told name Early asked asked'

-- the loads of the request that the words ask for, with the revealed files or else with some files
pub record Loads (words : List Word) (Early : Type 0) (old new : ShelfLog) : Type 0 where
  pub request : Request
  pub asks : Asks words request
  pub files : Files
  pub are_files : AreFiles old.files files
  pub made : LoadsFor request old.files files Early old.asked new.asked

-- the words ask for a session on a file that spells an object, with the revealed files or else with some files. At most
-- 1,048,577 bytes of the script were read, and each take but the last returned at least one, so no take followed the
-- end or a failure
pub record TakesFrom (words : List Word) (told : Option Files) (old new : SourceLog) : Type 0 where
  pub debugging : Debugging
  pub asks : Asks words (Debugs debugging)
  pub files : Files
  pub are_files : AreFiles told files
  pub comes : SpellsFile files debugging.object
  pub taken : TakesAtMost 1048577 old new
