-- What words ask for: the table of commands.
use Rattle.std.specs.Prelude.{◌≡◌, ℕ, zero, suc, ◌≤◌, Bool, true, false, if◌then◌else◌, List, [], ◌∷◌, Option, Some, None, codes, decimal}
use Rattle.std.specs.Option.{unwrap_or, option_map}
use Rattle.std.specs.Str.{bytes_eq}
use Rattle.ft_isa.specs.declared.plan.Strike.{Strike}
use Rattle.ft_isa.specs.declared.plan.Wild.{Wild}
use Rattle.ft_command.specs.declared.allowed.Allowed.{Allowed}
use Rattle.ft_command.specs.declared.verb.Verb.{Verb}
use Rattle.ft_command.specs.declared.verb.Verb.TheVariants as verb
use Rattle.ft_command.specs.Options.{Word, Given, none_given, GivesAll}

-- the first word of a command
abbrev pub name_of : Verb → Word
name_of verb.Check = codes "check"
name_of verb.Run = codes "run"
name_of verb.Trial = codes "trial"
name_of verb.Recover = codes "recover"
name_of verb.Campaign = codes "campaign"
name_of verb.Survey = codes "survey"
name_of verb.Compile = codes "compile"
name_of verb.Exec = codes "exec"
name_of verb.Mean = codes "mean"
name_of verb.Debug = codes "debug"
name_of verb.Demo = codes "demo"
name_of verb.Upgrade = codes "upgrade"
name_of verb.Assemble = codes "asm"
name_of verb.Disassemble = codes "dis"
name_of verb.Schedule = codes "schedule"
name_of verb.Link = codes "link"

-- whether a command takes an object
abbrev pub takes_object : Verb → Bool
takes_object verb.Check = true
takes_object verb.Run = true
takes_object verb.Recover = true
takes_object verb.Trial = true
takes_object verb.Campaign = true
takes_object verb.Survey = true
takes_object verb.Compile = false
takes_object verb.Exec = false
takes_object verb.Mean = false
takes_object verb.Debug = true
takes_object verb.Demo = false
takes_object verb.Upgrade = true
takes_object verb.Assemble = false
takes_object verb.Disassemble = true
takes_object verb.Schedule = true
takes_object verb.Link = false

-- no options
abbrev pub no_options : Allowed
no_options = record { steps = None; turns = None; fault = false; wild = false; faults = false }

-- the options of a run: `--steps` up to 1,000,000,000, `--fault` and `--wild`
abbrev pub run_options : Allowed
run_options = record no_options { steps = Some 1000000000; fault = true; wild = true }

-- the options of a campaign: `--faults`, `--steps` up to 1,000,000, and `--wild`
abbrev pub campaign_options : Allowed
campaign_options = record no_options { steps = Some 1000000; wild = true; faults = true }

-- the option of a meaning: `--turns` up to 1,000,000,000
abbrev pub meaning_options : Allowed
meaning_options = record no_options { turns = Some 1000000000 }

-- the option of an execution: `--steps` up to 1,000,000,000
abbrev pub execution_options : Allowed
execution_options = record no_options { steps = Some 1000000000 }

-- the option of a debugger session: `--wild`
abbrev pub debugging_options : Allowed
debugging_options = record no_options { wild = true }

-- the options that a command takes
abbrev pub allowed_of : Verb → Allowed
allowed_of verb.Check = no_options
allowed_of verb.Run = run_options
allowed_of verb.Trial = run_options
allowed_of verb.Recover = run_options
allowed_of verb.Campaign = campaign_options
allowed_of verb.Survey = campaign_options
allowed_of verb.Compile = no_options
allowed_of verb.Exec = execution_options
allowed_of verb.Mean = meaning_options
allowed_of verb.Debug = debugging_options
allowed_of verb.Demo = no_options
allowed_of verb.Upgrade = no_options
allowed_of verb.Assemble = no_options
allowed_of verb.Disassemble = no_options
allowed_of verb.Schedule = no_options
allowed_of verb.Link = no_options

-- the run of an object, for at most `steps` steps, under a plan
pub record Run : Type 0 where
  pub object : Word
  pub steps : ℕ
  pub strike : Option Strike
  pub wild : List Wild

-- an option that is not given has its default: 1,000,000 steps, no strike, no answers
abbrev pub run_of : Word → Given → Run
run_of object given = record {
  object = object;
  steps = unwrap_or given.steps 1000000;
  strike = given.strike;
  wild = unwrap_or given.wild [];
}

-- the runs of an object, each for at most `steps` steps, under the faults of a list, with the same answers to wild
-- loads
pub record Campaign : Type 0 where
  pub object : Word
  pub faults : Word
  pub steps : ℕ
  pub wild : List Wild

-- a campaign with the faults of a file; an option that is not given has its default: 1,000,000 steps, no answers
abbrev pub campaign_of : Word → Given → Word → Campaign
campaign_of object given faults = record {
  object = object;
  faults = faults;
  steps = unwrap_or given.steps 1000000;
  wild = unwrap_or given.wild [];
}

-- the meaning of a source, for at most `turns` turns
pub record Meaning : Type 0 where
  pub source : Word
  pub turns : ℕ

-- an option that is not given has its default: 1,000,000 turns
abbrev pub meaning_of : Word → Given → Meaning
meaning_of source given = record { source = source; turns = unwrap_or given.turns 1000000 }

-- the run of the object of a source, for at most `steps` steps
pub record Execution : Type 0 where
  pub source : Word
  pub steps : ℕ

-- an option that is not given has its default: 1,000,000 steps
abbrev pub execution_of : Word → Given → Execution
execution_of source given = record { source = source; steps = unwrap_or given.steps 1000000 }

-- a debugger session on an object, with answers to wild loads
pub record Debugging : Type 0 where
  pub object : Word
  pub wild : List Wild

-- an option that is not given has its default: no answers
abbrev pub debugging_of : Word → Given → Debugging
debugging_of object given = record { object = object; wild = unwrap_or given.wild [] }

-- the number from 1 to the maximum that these decimal digits spell
unfoldable pub turns_up_to : ℕ → Word → Option ℕ
turns_up_to zero text = None
turns_up_to (suc n) text = if bytes_eq text (decimal (suc n)) then Some (suc n) else turns_up_to n text

-- what words ask for
pub data Request : Type 0 where
  -- the usage line
  Usage : Request
  -- the check of an object
  Checks : Word → Request
  -- the run of an accepted object
  Runs : Run → Request
  -- the run of an unchecked object
  Trials : Run → Request
  -- the run of an accepted object, and another run if a fault is detected
  Recovers : Run → Request
  -- a campaign on an accepted object
  Campaigns : Campaign → Request
  -- a campaign on an unchecked object
  Surveys : Campaign → Request
  -- the object of a source
  Compiles : Word → Request
  -- the run of the object of a source
  Executes : Execution → Request
  -- the meaning of a source
  Means : Meaning → Request
  -- a debugger session on an unchecked object
  Debugs : Debugging → Request
  -- the run of an object of this many turns, and a campaign on it
  Demonstrates : ℕ → Request
  -- an object in version 2 of the format
  Upgrades : Word → Request
  -- the object of an assembly text
  Assembles : Word → Request
  -- the assembly text of an object
  Disassembles : Word → Request
  -- the schedule of an object
  Schedules : Word → Request
  -- the object linked from a link map's modules
  Links : Word → Request

-- what a command asks for, given its operand and options; a campaign needs a fault list, and a demonstration a number
-- of turns
abbrev pub request_of : Verb → Word → Given → Option Request
request_of verb.Check operand given = Some (Checks operand)
request_of verb.Run operand given = Some (Runs (run_of operand given))
request_of verb.Trial operand given = Some (Trials (run_of operand given))
request_of verb.Recover operand given = Some (Recovers (run_of operand given))
request_of verb.Campaign operand given = option_map (λ faults. Campaigns (campaign_of operand given faults)) given.faults
request_of verb.Survey operand given = option_map (λ faults. Surveys (campaign_of operand given faults)) given.faults
request_of verb.Compile operand given = Some (Compiles operand)
request_of verb.Exec operand given = Some (Executes (execution_of operand given))
request_of verb.Mean operand given = Some (Means (meaning_of operand given))
request_of verb.Debug operand given = Some (Debugs (debugging_of operand given))
request_of verb.Demo operand given = option_map Demonstrates (turns_up_to 10921 operand)
request_of verb.Upgrade operand given = Some (Upgrades operand)
request_of verb.Assemble operand given = Some (Assembles operand)
request_of verb.Disassemble operand given = Some (Disassembles operand)
request_of verb.Schedule operand given = Some (Schedules operand)
request_of verb.Link operand given = Some (Links operand)

-- the words are a command, its operand, and options that it takes, and ask for this
pub record AreCommand (words : List Word) (request : Request) : Type 0 where
  pub verb : Verb
  pub operand : Word
  pub options : List Word
  pub given : Given
  pub words_are : words ≡ name_of verb ∷ operand ∷ options
  pub gives : GivesAll (allowed_of verb) options none_given given
  pub request_is : request_of verb operand given ≡ Some request

-- the words ask for this; they ask for the usage line exactly when they are not a command
abbrev pub Asks : List Word → Request → Type 0
Asks words Usage = (request : Request) → ¬ (AreCommand words request)
Asks words (Checks object) = AreCommand words (Checks object)
Asks words (Runs run) = AreCommand words (Runs run)
Asks words (Trials run) = AreCommand words (Trials run)
Asks words (Recovers run) = AreCommand words (Recovers run)
Asks words (Campaigns campaign) = AreCommand words (Campaigns campaign)
Asks words (Surveys campaign) = AreCommand words (Surveys campaign)
Asks words (Compiles source) = AreCommand words (Compiles source)
Asks words (Executes execution) = AreCommand words (Executes execution)
Asks words (Means meaning) = AreCommand words (Means meaning)
Asks words (Debugs debugging) = AreCommand words (Debugs debugging)
Asks words (Demonstrates turns) = AreCommand words (Demonstrates turns)
Asks words (Upgrades object) = AreCommand words (Upgrades object)
Asks words (Assembles text) = AreCommand words (Assembles text)
Asks words (Disassembles object) = AreCommand words (Disassembles object)
Asks words (Schedules object) = AreCommand words (Schedules object)
Asks words (Links map) = AreCommand words (Links map)

-- each run of a campaign takes at most 1,000,000 steps
abbrev pub HasFewSteps : Request → Type 0
HasFewSteps Usage = Unit {0}
HasFewSteps (Checks object) = Unit {0}
HasFewSteps (Runs run) = Unit {0}
HasFewSteps (Trials run) = Unit {0}
HasFewSteps (Recovers run) = Unit {0}
HasFewSteps (Campaigns campaign) = campaign.steps ≤ 1000000
HasFewSteps (Surveys campaign) = campaign.steps ≤ 1000000
HasFewSteps (Compiles source) = Unit {0}
HasFewSteps (Executes execution) = Unit {0}
HasFewSteps (Means meaning) = Unit {0}
HasFewSteps (Debugs debugging) = Unit {0}
HasFewSteps (Demonstrates turns) = Unit {0}
HasFewSteps (Upgrades object) = Unit {0}
HasFewSteps (Assembles text) = Unit {0}
HasFewSteps (Disassembles object) = Unit {0}
HasFewSteps (Schedules object) = Unit {0}
HasFewSteps (Links map) = Unit {0}

-- a demonstration has from 1 to 10,921 turns
abbrev pub HasTurns : Request → Type 0
HasTurns Usage = Unit {0}
HasTurns (Checks object) = Unit {0}
HasTurns (Runs run) = Unit {0}
HasTurns (Trials run) = Unit {0}
HasTurns (Recovers run) = Unit {0}
HasTurns (Campaigns campaign) = Unit {0}
HasTurns (Surveys campaign) = Unit {0}
HasTurns (Compiles source) = Unit {0}
HasTurns (Executes execution) = Unit {0}
HasTurns (Means meaning) = Unit {0}
HasTurns (Debugs debugging) = Unit {0}
HasTurns (Demonstrates turns) = (1 ≤ turns) × (turns ≤ 10921)
HasTurns (Upgrades object) = Unit {0}
HasTurns (Assembles text) = Unit {0}
HasTurns (Disassembles object) = Unit {0}
HasTurns (Schedules object) = Unit {0}
HasTurns (Links map) = Unit {0}
