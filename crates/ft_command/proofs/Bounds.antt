-- The numbers that options and operands give are within what the command allows.
use Rattle.std.proofs.Common.{ℕ, ◌≤◌, List, [], ◌∷◌, Option, Some, None, sym, subst, arith}
use Rattle.std.specs.Option.{option_map, unwrap_or}
use Rattle.std.specs.Prelude.{IfSome}
use Rattle.ft_command.specs.declared.allowed.Allowed.{Allowed}
use Rattle.ft_command.specs.declared.verb.Verb.{Verb}
use Rattle.ft_command.specs.declared.verb.Verb.TheVariants as verb
use Rattle.ft_command.specs.Options.{Word, Given, none_given, IsNumberUpTo, Gives, by_steps, by_turns, by_strike}
use Rattle.ft_command.specs.Options.{by_wild, by_faults, GivesAll}
use Rattle.ft_command.specs.Commands.{allowed_of, campaign_of, turns_up_to, request_of, Request, Campaigns, Surveys}
use Rattle.ft_command.specs.Commands.{Demonstrates, AreCommand, HasFewSteps, HasTurns}
use Rattle.ft_command.proofs.Numbers.{turns_within}

-- a number that was given is allowed, and is at most the maximum
abbrev IsUpTo : Option ℕ → Option ℕ → Type 0
IsUpTo most None = Unit {0}
IsUpTo None (Some n) = ⊥
IsUpTo (Some most) (Some n) = n ≤ most

number_up_to : (most : Option ℕ) (text : Word) (n : ℕ) → IsNumberUpTo most text n → IsUpTo most (Some n)
number_up_to None text n h = h
number_up_to (Some most) text n h = h.0

after_option : (allowed : Allowed) (name value : Word) (old new : Given) → IsUpTo allowed.steps old.steps →
    Gives allowed name value old new → IsUpTo allowed.steps new.steps
after_option allowed name value old new h (by_steps g) =
    subst (λ (x : Given). IsUpTo allowed.steps x.steps) (sym g.given) (number_up_to allowed.steps value g.steps g.form)
after_option allowed name value old new h (by_turns g) =
    subst (λ (x : Given). IsUpTo allowed.steps x.steps) (sym g.given) h
after_option allowed name value old new h (by_strike g) =
    subst (λ (x : Given). IsUpTo allowed.steps x.steps) (sym g.given) h
after_option allowed name value old new h (by_wild g) =
    subst (λ (x : Given). IsUpTo allowed.steps x.steps) (sym g.given) h
after_option allowed name value old new h (by_faults g) =
    subst (λ (x : Given). IsUpTo allowed.steps x.steps) (sym g.given) h

after_options : (allowed : Allowed) (words : List Word) (old new : Given) → IsUpTo allowed.steps old.steps →
    GivesAll allowed words old new → IsUpTo allowed.steps new.steps
after_options allowed [] old new h g = subst (λ (x : Given). IsUpTo allowed.steps x.steps) (sym g) h
after_options allowed (name ∷ []) old new h g = absurd g
after_options allowed (name ∷ value ∷ words) old new h g =
    after_options allowed words g.0 new (after_option allowed name value old g.0 h g.1.0) g.1.1

abbrev HasFewStepsIfSome : Option Request → Type 0
HasFewStepsIfSome None = Unit {0}
HasFewStepsIfSome (Some request) = HasFewSteps request

few_by_default : (steps : Option ℕ) → IsUpTo (Some 1000000) steps → unwrap_or steps 1000000 ≤ 1000000
few_by_default None h = omega arith
few_by_default (Some n) h = h

few_of_list : (f : Word → Request) (x : Option Word) → ((w : Word) → HasFewSteps (f w)) →
    HasFewStepsIfSome (option_map f x)
few_of_list f None h = tt
few_of_list f (Some w) h = h w

few_of_turns : (x : Option ℕ) → HasFewStepsIfSome (option_map Demonstrates x)
few_of_turns None = tt
few_of_turns (Some n) = tt

few_of : (v : Verb) (operand : Word) (given : Given) → IsUpTo (allowed_of v).steps given.steps →
    HasFewStepsIfSome (request_of v operand given)
few_of verb.Check operand given h = tt
few_of verb.Run operand given h = tt
few_of verb.Trial operand given h = tt
few_of verb.Recover operand given h = tt
few_of verb.Campaign operand given h = few_of_list (λ faults. Campaigns (campaign_of operand given faults)) given.faults
    (λ w. few_by_default given.steps h)
few_of verb.Survey operand given h = few_of_list (λ faults. Surveys (campaign_of operand given faults)) given.faults
    (λ w. few_by_default given.steps h)
few_of verb.Compile operand given h = tt
few_of verb.Exec operand given h = tt
few_of verb.Mean operand given h = tt
few_of verb.Debug operand given h = tt
few_of verb.Demo operand given h = few_of_turns (turns_up_to 10921 operand)
few_of verb.Upgrade operand given h = tt
few_of verb.Assemble operand given h = tt
few_of verb.Disassemble operand given h = tt
few_of verb.Schedule operand given h = tt
few_of verb.Link operand given h = tt

none_up_to : (v : Verb) → IsUpTo (allowed_of v).steps none_given.steps
none_up_to v = tt

-- if the words ask for a campaign, each of its runs takes at most 1,000,000 steps
pub few_steps : (words : List Word) (request : Request) → AreCommand words request → HasFewSteps request
few_steps words request h = subst HasFewStepsIfSome h.request_is
    (few_of h.verb h.operand h.given (after_options (allowed_of h.verb) h.options none_given h.given (none_up_to h.verb)
    h.gives))

-- TURNS

abbrev HasTurnsIfSome : Option Request → Type 0
HasTurnsIfSome None = Unit {0}
HasTurnsIfSome (Some request) = HasTurns request

turns_of_list : (f : Word → Request) (x : Option Word) → ((w : Word) → HasTurns (f w)) → HasTurnsIfSome (option_map f x)
turns_of_list f None h = tt
turns_of_list f (Some w) h = h w

turns_of_number : (x : Option ℕ) → IfSome x (λ n. (1 ≤ n) × (n ≤ 10921)) → HasTurnsIfSome (option_map Demonstrates x)
turns_of_number None h = tt
turns_of_number (Some n) h = h

turns_of : (v : Verb) (operand : Word) (given : Given) → HasTurnsIfSome (request_of v operand given)
turns_of verb.Check operand given = tt
turns_of verb.Run operand given = tt
turns_of verb.Trial operand given = tt
turns_of verb.Recover operand given = tt
turns_of verb.Campaign operand given = turns_of_list (λ faults. Campaigns (campaign_of operand given faults))
    given.faults (λ w. tt)
turns_of verb.Survey operand given = turns_of_list (λ faults. Surveys (campaign_of operand given faults)) given.faults
    (λ w. tt)
turns_of verb.Compile operand given = tt
turns_of verb.Exec operand given = tt
turns_of verb.Mean operand given = tt
turns_of verb.Debug operand given = tt
turns_of verb.Demo operand given = turns_of_number (turns_up_to 10921 operand) (turns_within 10921 operand)
turns_of verb.Upgrade operand given = tt
turns_of verb.Assemble operand given = tt
turns_of verb.Disassemble operand given = tt
turns_of verb.Schedule operand given = tt
turns_of verb.Link operand given = tt

-- a demonstration has from 1 to 10,921 turns
pub few_turns : (words : List Word) (request : Request) → AreCommand words request → HasTurns request
few_turns words request h = subst HasTurnsIfSome h.request_is (turns_of h.verb h.operand h.given)
