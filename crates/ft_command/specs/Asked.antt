-- What the words ask for, regardless of where its parts are in memory.
use Rattle.std.specs.Prelude.{Option}
use Rattle.std.specs.Option.{option_map}
use Rattle.ft_command.specs.declared.options.Options.{Options}
use Rattle.ft_command.specs.declared.command.Run as declared_run
use Rattle.ft_command.specs.declared.command.Campaign as declared_campaign
use Rattle.ft_command.specs.declared.command.Meaning as declared_meaning
use Rattle.ft_command.specs.declared.command.Execution as declared_execution
use Rattle.ft_command.specs.declared.command.Debugging as declared_debugging
use Rattle.ft_command.specs.declared.command.Command as declared_command
use Rattle.ft_command.specs.declared.command.Command.TheVariants as commands
use Rattle.ft_command.specs.Options.{Given}
use Rattle.ft_command.specs.Commands.{Run, Campaign, Meaning, Execution, Debugging, Request, Usage, Checks, Runs, Trials, Campaigns, Surveys, Compiles, Executes, Means, Debugs, Demonstrates, Upgrades, Assembles, Disassembles, Schedules, Recovers, Links}

-- the options that the code has read so far
abbrev pub given_of : Options → Given
given_of o = record { steps = o.steps; turns = o.turns; strike = o.strike; wild = option_map (λ v. v.items) o.wild; faults = option_map (λ w. w.now) o.faults }

-- the run, the campaign, the execution, the meaning and the debugger session that the code has read
abbrev pub run_view : declared_run.Run → Run
run_view t = record { object = t.object.now; steps = t.steps; strike = t.strike; wild = t.wild.items }

abbrev pub campaign_view : declared_campaign.Campaign → Campaign
campaign_view t = record { object = t.object.now; faults = t.faults.now; steps = t.steps; wild = t.wild.items }

abbrev pub meaning_view : declared_meaning.Meaning → Meaning
meaning_view t = record { source = t.source.now; turns = t.turns }

abbrev pub execution_view : declared_execution.Execution → Execution
execution_view t = record { source = t.source.now; steps = t.steps }

abbrev pub debugging_view : declared_debugging.Debugging → Debugging
debugging_view t = record { object = t.object.now; wild = t.wild.items }

-- the request that the code has read
abbrev pub asked : declared_command.Command → Request
asked commands.Usage = Usage
asked (commands.Check object) = Checks object.now
asked (commands.Run run) = Runs (run_view run)
asked (commands.Trial run) = Trials (run_view run)
asked (commands.Recover run) = Recovers (run_view run)
asked (commands.Campaign campaign) = Campaigns (campaign_view campaign)
asked (commands.Survey campaign) = Surveys (campaign_view campaign)
asked (commands.Compile source) = Compiles source.now
asked (commands.Exec execution) = Executes (execution_view execution)
asked (commands.Mean meaning) = Means (meaning_view meaning)
asked (commands.Debug debugging) = Debugs (debugging_view debugging)
asked (commands.Demo turns) = Demonstrates turns
asked (commands.Upgrade object) = Upgrades object.now
asked (commands.Assemble text) = Assembles text.now
asked (commands.Disassemble object) = Disassembles object.now
asked (commands.Schedule object) = Schedules object.now
asked (commands.Link map) = Links map.now

-- the request that the code has read, if there is one
abbrev pub asked_or_usage : Option declared_command.Command → Option Request
asked_or_usage c = option_map asked c
