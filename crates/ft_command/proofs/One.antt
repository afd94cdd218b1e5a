-- Words ask for at most one thing.
use Rattle.std.proofs.Common.{◌≡◌, ℕ, ◌^◌, ◌<◌, List, [], ◌∷◌, Option, Some, None, codes, sym, ap, ◌∙◌, subst, lit<}
use Rattle.std.proofs.Common.{arith}
use Rattle.std.proofs.lemmas.Fmt.{decimal_injective}
use Rattle.ft_isa.specs.PlanText.{IsStrikeText, IsWildText}
use Rattle.ft_isa.specs.declared.plan.Strike.{Strike}
use Rattle.ft_isa.specs.declared.plan.Wild.{Wild}
use Rattle.ft_isa.proofs.StrikeRead.{strike_reader}
use Rattle.ft_isa.proofs.WildRead.{wild_reader}
use Rattle.ft_command.specs.declared.allowed.Allowed.{Allowed}
use Rattle.ft_command.specs.declared.verb.Verb.{Verb}
use Rattle.ft_command.specs.declared.verb.Verb.TheVariants as verb
use Rattle.ft_command.specs.Options.{Word, Given, none_given, IsNumberUpTo, GivesSteps, GivesTurns, GivesStrike}
use Rattle.ft_command.specs.Options.{GivesWild, GivesFaults, Gives, by_steps, by_turns, by_strike, by_wild, by_faults}
use Rattle.ft_command.specs.Options.{GivesAll}
use Rattle.ft_command.specs.Commands.{allowed_of, Request, Usage, Checks, Runs, Trials, Campaigns, Surveys, Compiles}
use Rattle.ft_command.specs.Commands.{Executes, Means, Debugs, Demonstrates, Upgrades, Assembles, Disassembles}
use Rattle.ft_command.specs.Commands.{AreCommand, Asks, Schedules, Recovers, Links}
use Rattle.ft_command.proofs.Given.{steps_only, turns_only, strike_only, wild_only, faults_only}
use Rattle.ft_command.proofs.Commands.{asks_only, usage_only}

-- VALUES

-- the maximum, if there is one, fits in 64 bits
abbrev IsAWordIfSome : Option ℕ → Type 0
IsAWordIfSome None = Unit {0}
IsAWordIfSome (Some most) = most < 2 ^ 64

one_number : (most : Option ℕ) (text : Word) (n m : ℕ) → IsAWordIfSome most → IsNumberUpTo most text n →
    IsNumberUpTo most text m → n ≡ m
one_number None text n m w h i = absurd h
one_number (Some most) text n m w h i = decimal_injective n m (omega (arith, h.0, w)) (omega (arith, i.0, w)) (sym h.1
    ∙ i.1)

one_strike : (text : Word) (x y : Strike) → IsStrikeText text x → IsStrikeText text y → x ≡ y
one_strike text x y h i = let e : Some x ≡ Some y = sym (strike_reader.complete text x h)
    ∙ strike_reader.complete text y i in cc

one_wild : (text : Word) (xs ys : List Wild) → IsWildText text xs → IsWildText text ys → xs ≡ ys
one_wild text xs ys h i = let e : Some xs ≡ Some ys = sym (wild_reader.complete text xs h)
    ∙ wild_reader.complete text ys i in cc

-- OPTIONS

one_option : (allowed : Allowed) (name value : Word) (old a b : Given) → IsAWordIfSome allowed.steps →
    IsAWordIfSome allowed.turns → Gives allowed name value old a → Gives allowed name value old b → b ≡ a
one_option allowed name value old a b s t (by_steps g) =
    steps_only allowed name value old a g.name_is
    (λ c (h : GivesSteps allowed (codes "--steps") value old c). h.given
    ∙ ap (λ n. record old { steps = Some n }) (one_number allowed.steps value h.steps g.steps s h.form g.form)
    ∙ sym g.given)
    b
one_option allowed name value old a b s t (by_turns g) =
    turns_only allowed name value old a g.name_is
    (λ c (h : GivesTurns allowed (codes "--turns") value old c). h.given
    ∙ ap (λ n. record old { turns = Some n }) (one_number allowed.turns value h.turns g.turns t h.form g.form)
    ∙ sym g.given)
    b
one_option allowed name value old a b s t (by_strike g) =
    strike_only allowed name value old a g.name_is
    (λ c (h : GivesStrike allowed (codes "--fault") value old c). h.given
    ∙ ap (λ x. record old { strike = Some x }) (one_strike value h.strike g.strike h.form g.form) ∙ sym g.given)
    b
one_option allowed name value old a b s t (by_wild g) =
    wild_only allowed name value old a g.name_is
    (λ c (h : GivesWild allowed (codes "--wild") value old c). h.given
    ∙ ap (λ xs. record old { wild = Some xs }) (one_wild value h.wild g.wild h.form g.form) ∙ sym g.given)
    b
one_option allowed name value old a b s t (by_faults g) =
    faults_only allowed name value old a g.name_is (λ c (h : GivesFaults allowed (codes "--faults") value old c).
    h.given ∙ sym g.given) b

one_given : (allowed : Allowed) (words : List Word) (old a b : Given) → IsAWordIfSome allowed.steps →
    IsAWordIfSome allowed.turns → GivesAll allowed words old a → GivesAll allowed words old b → b ≡ a
one_given allowed [] old a b s t g h = h ∙ sym g
one_given allowed (name ∷ []) old a b s t g h = absurd g
one_given allowed (name ∷ value ∷ words) old a b s t g h =
    one_given allowed words g.0 a b s t g.1.1 (subst (λ (mid : Given).
    GivesAll allowed words mid b) (one_option allowed name value old g.0 h.0 s t g.1.0 h.1.0) h.1.1)

-- COMMANDS

steps_are_words : (v : Verb) → IsAWordIfSome (allowed_of v).steps
steps_are_words verb.Check = tt
steps_are_words verb.Run = lit< tt
steps_are_words verb.Trial = lit< tt
steps_are_words verb.Recover = lit< tt
steps_are_words verb.Campaign = lit< tt
steps_are_words verb.Survey = lit< tt
steps_are_words verb.Compile = tt
steps_are_words verb.Exec = lit< tt
steps_are_words verb.Mean = tt
steps_are_words verb.Debug = tt
steps_are_words verb.Demo = tt
steps_are_words verb.Upgrade = tt
steps_are_words verb.Assemble = tt
steps_are_words verb.Disassemble = tt
steps_are_words verb.Schedule = tt
steps_are_words verb.Link = tt

turns_are_words : (v : Verb) → IsAWordIfSome (allowed_of v).turns
turns_are_words verb.Check = tt
turns_are_words verb.Run = tt
turns_are_words verb.Trial = tt
turns_are_words verb.Recover = tt
turns_are_words verb.Campaign = tt
turns_are_words verb.Survey = tt
turns_are_words verb.Compile = tt
turns_are_words verb.Exec = tt
turns_are_words verb.Mean = lit< tt
turns_are_words verb.Debug = tt
turns_are_words verb.Demo = tt
turns_are_words verb.Upgrade = tt
turns_are_words verb.Assemble = tt
turns_are_words verb.Disassemble = tt
turns_are_words verb.Schedule = tt
turns_are_words verb.Link = tt

one_command : (words : List Word) (request other : Request) → AreCommand words request → Asks words other → request
    ≡ other
one_command words request other h i =
    let allowed = allowed_of h.verb in
    let only : (g : Given) → GivesAll allowed h.options none_given g → g ≡ h.given = λ g k.
    one_given allowed h.options none_given h.given g (steps_are_words h.verb) (turns_are_words h.verb) h.gives k in
    sym (asks_only words h.options h.verb h.operand h.given request h.words_are only h.request_is h other i)

-- words ask for at most one thing
pub one_request : (words : List Word) (a b : Request) → Asks words a → Asks words b → a ≡ b
one_request words Usage b h i = sym (usage_only words h b i)
one_request words (Checks object) b h i = one_command words (Checks object) b h i
one_request words (Runs run) b h i = one_command words (Runs run) b h i
one_request words (Trials run) b h i = one_command words (Trials run) b h i
one_request words (Recovers run) b h i = one_command words (Recovers run) b h i
one_request words (Campaigns campaign) b h i = one_command words (Campaigns campaign) b h i
one_request words (Surveys campaign) b h i = one_command words (Surveys campaign) b h i
one_request words (Compiles source) b h i = one_command words (Compiles source) b h i
one_request words (Executes execution) b h i = one_command words (Executes execution) b h i
one_request words (Means meaning) b h i = one_command words (Means meaning) b h i
one_request words (Debugs debugging) b h i = one_command words (Debugs debugging) b h i
one_request words (Demonstrates turns) b h i = one_command words (Demonstrates turns) b h i
one_request words (Upgrades object) b h i = one_command words (Upgrades object) b h i
one_request words (Assembles text) b h i = one_command words (Assembles text) b h i
one_request words (Disassembles object) b h i = one_command words (Disassembles object) b h i
one_request words (Schedules object) b h i = one_command words (Schedules object) b h i
one_request words (Links map) b h i = one_command words (Links map) b h i
