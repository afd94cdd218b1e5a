use Rattle.std.proofs.Common.{rules}
use Rattle.ft_command.proofs.Given.{steps_only, turns_only, strike_only, wild_only, on_ok}
use Rattle.ft_command.specs.Asked.{given_of}
use Rattle.ft_command.proofs.options.Options.take.Goals as goal

pub returns-then-eq-clause-only : goal.returns-then-eq-clause-only
returns-then-eq-clause-only c =
    on_ok c.take_steps.result (steps_only c.args.allowed c.args.name.now c.args.value.now (given_of c.args.self.now)
    (given_of c.take_steps.new.self) (search rules)) c.take_steps.ensures.only

pub returns-then-eq-2-clause-only : goal.returns-then-eq-2-clause-only
returns-then-eq-2-clause-only c =
    on_ok c.take_turns.result (turns_only c.args.allowed c.args.name.now c.args.value.now (given_of c.args.self.now)
    (given_of c.take_turns.new.self) (search rules)) c.take_turns.ensures.only

pub returns-then-eq-3-clause-only : goal.returns-then-eq-3-clause-only
returns-then-eq-3-clause-only c =
    on_ok c.take_strike.result (strike_only c.args.allowed c.args.name.now c.args.value.now (given_of c.args.self.now)
    (given_of c.take_strike.new.self) (search rules)) c.take_strike.ensures.only

pub returns-then-eq-4-clause-only : goal.returns-then-eq-4-clause-only
returns-then-eq-4-clause-only c =
    on_ok c.take_wild.result (wild_only c.args.allowed c.args.name.now c.args.value.now (given_of c.args.self.now)
    (given_of c.take_wild.new.self) (search rules)) c.take_wild.ensures.only
