-- Commands by their first words.
use Rattle.std.proofs.Common.{◌≡◌, ℕ, List, [], ◌∷◌, refl, sym, ap, ◌∙◌, subst, slice_index, slice_index_or, drop}
use Rattle.std.proofs.Common.{if◌then◌else◌, ◌==◌, Option, Some, None}
use Rattle.std.specs.Option.{option_map, unwrap_or}
use Rattle.ft_command.specs.declared.verb.Verb.{Verb}
use Rattle.ft_command.specs.declared.verb.Verb.TheVariants as verb
use Rattle.ft_command.specs.Options.{Word, Given, none_given, GivesAll}
use Rattle.ft_command.specs.Commands.{name_of, allowed_of, turns_up_to, request_of, Request, Usage, Checks, Runs}
use Rattle.ft_command.specs.Commands.{Trials, Campaigns, Surveys, Compiles, Executes, Means, Debugs, Demonstrates}
use Rattle.ft_command.specs.Commands.{Upgrades, Assembles, Disassembles, AreCommand, Asks, Schedules, Recovers, Links}

-- the command with this name, found by its letters
verb_by : Word → Verb
verb_by w =
    if slice_index w 0 == 108 then verb.Link
    else if slice_index w 2 == 99 then verb.Recover
    else if slice_index w 1 == 104 then verb.Check
    else if slice_index w 0 == 114 then verb.Run
    else if slice_index w 0 == 116 then verb.Trial
    else if slice_index w 0 == 101 then verb.Exec
    else if slice_index w 1 == 111 then verb.Compile
    else if slice_index w 0 == 99 then verb.Campaign
    else if slice_index w 1 == 99 then verb.Schedule
    else if slice_index w 0 == 115 then verb.Survey
    else if slice_index w 2 == 98 then verb.Debug
    else if slice_index w 1 == 105 then verb.Disassemble
    else if slice_index w 0 == 100 then verb.Demo
    else if slice_index w 0 == 117 then verb.Upgrade
    else if slice_index w 0 == 97 then verb.Assemble
    else verb.Mean

verb_by-name_of : (v : Verb) → verb_by (name_of v) ≡ v
unfolding verb_by
verb_by-name_of verb.Check = refl
verb_by-name_of verb.Run = refl
verb_by-name_of verb.Trial = refl
verb_by-name_of verb.Recover = refl
verb_by-name_of verb.Campaign = refl
verb_by-name_of verb.Survey = refl
verb_by-name_of verb.Compile = refl
verb_by-name_of verb.Exec = refl
verb_by-name_of verb.Mean = refl
verb_by-name_of verb.Debug = refl
verb_by-name_of verb.Demo = refl
verb_by-name_of verb.Upgrade = refl
verb_by-name_of verb.Assemble = refl
verb_by-name_of verb.Disassemble = refl
verb_by-name_of verb.Schedule = refl
verb_by-name_of verb.Link = refl

-- commands with the same name are the same
same_verb : (u v : Verb) → name_of u ≡ name_of v → u ≡ v
same_verb u v e = sym (verb_by-name_of u) ∙ ap verb_by e ∙ verb_by-name_of v

heads : (a b x y : Word) (xs ys : List Word) → a ∷ x ∷ xs ≡ b ∷ y ∷ ys → a ≡ b
heads a b x y xs ys e = ap (λ ws. slice_index_or ws 0 []) e

seconds : (a b x y : Word) (xs ys : List Word) → a ∷ x ∷ xs ≡ b ∷ y ∷ ys → x ≡ y
seconds a b x y xs ys e = ap (λ ws. slice_index_or ws 1 []) e

rests : (a b x y : Word) (xs ys : List Word) → a ∷ x ∷ xs ≡ b ∷ y ∷ ys → xs ≡ ys
rests a b x y xs ys e = ap (λ ws. drop 2 ws) e

-- what words ask for as a command is what their verb asks for, given the operand and what the options give
asked_for : (words options : List Word) (v : Verb) (operand : Word) (given : Given) (other : Request) → words
    ≡ name_of v ∷ operand ∷ options
    → ((g : Given) → GivesAll (allowed_of v) options none_given g → g ≡ given) → AreCommand words other →
    request_of v operand given ≡ Some other
asked_for words options v operand given other split only h =
    let same = sym h.words_are ∙ split in
    let verbs : h.verb ≡ v = same_verb h.verb v (heads _ _ _ _ _ _ same) in
    let gives : GivesAll (allowed_of v) h.options none_given h.given =
    subst (λ u. GivesAll (allowed_of u) h.options none_given h.given) verbs h.gives in
    let given_is : h.given ≡ given = only h.given (subst (λ ws. GivesAll (allowed_of v) ws none_given h.given)
    (rests _ _ _ _ _ _ same) gives) in
    sym (ap (λ u. request_of u h.operand h.given) verbs ∙ ap (λ x. request_of v x h.given) (seconds _ _ _ _ _ _ same)
    ∙ ap (request_of v operand) given_is) ∙ h.request_is

-- whether or not a fault list is given, the request is not for the usage line
no_usage_of : (f : Word → Request) (x : Option Word) → ((w : Word) → Some (f w) ≡ Some Usage → ⊥) → option_map f x
    ≡ Some Usage → ⊥
no_usage_of f None h e = absurd (cc)
no_usage_of f (Some w) h e = h w e

-- likewise for a number of turns
no_usage_of_number : (x : Option ℕ) → option_map Demonstrates x ≡ Some Usage → ⊥
no_usage_of_number None e = absurd (cc)
no_usage_of_number (Some n) e = absurd (cc)

-- no command asks for the usage line
no_usage : (v : Verb) (operand : Word) (given : Given) → request_of v operand given ≡ Some Usage → ⊥
no_usage verb.Check operand given e = absurd (cc)
no_usage verb.Run operand given e = absurd (cc)
no_usage verb.Trial operand given e = absurd (cc)
no_usage verb.Recover operand given e = absurd (cc)
no_usage verb.Campaign operand given e = no_usage_of _ given.faults (λ w h. cc) e
no_usage verb.Survey operand given e = no_usage_of _ given.faults (λ w h. cc) e
no_usage verb.Compile operand given e = absurd (cc)
no_usage verb.Exec operand given e = absurd (cc)
no_usage verb.Mean operand given e = absurd (cc)
no_usage verb.Debug operand given e = absurd (cc)
no_usage verb.Demo operand given e = no_usage_of_number (turns_up_to 10921 operand) e
no_usage verb.Upgrade operand given e = absurd (cc)
no_usage verb.Assemble operand given e = absurd (cc)
no_usage verb.Disassemble operand given e = absurd (cc)
no_usage verb.Schedule operand given e = absurd (cc)
no_usage verb.Link operand given e = absurd (cc)

-- words that are a command ask for what the command asks for
pub asks : (words : List Word) (request : Request) → AreCommand words request → Asks words request
asks words Usage h = absurd (no_usage h.verb h.operand h.given h.request_is)
asks words (Checks object) h = h
asks words (Runs run) h = h
asks words (Trials run) h = h
asks words (Recovers run) h = h
asks words (Campaigns campaign) h = h
asks words (Surveys campaign) h = h
asks words (Compiles source) h = h
asks words (Executes execution) h = h
asks words (Means meaning) h = h
asks words (Debugs debugging) h = h
asks words (Demonstrates turns) h = h
asks words (Upgrades object) h = h
asks words (Assembles text) h = h
asks words (Disassembles object) h = h
asks words (Schedules object) h = h
asks words (Links map) h = h

-- whatever the words of a command ask for, they ask for it as a command
pub by_command : (words : List Word) (request other : Request) → AreCommand words request → Asks words other →
    AreCommand words other
by_command words request Usage asked usage = absurd (usage request asked)
by_command words request (Checks object) asked h = h
by_command words request (Runs run) asked h = h
by_command words request (Trials run) asked h = h
by_command words request (Recovers run) asked h = h
by_command words request (Campaigns campaign) asked h = h
by_command words request (Surveys campaign) asked h = h
by_command words request (Compiles source) asked h = h
by_command words request (Executes execution) asked h = h
by_command words request (Means meaning) asked h = h
by_command words request (Debugs debugging) asked h = h
by_command words request (Demonstrates turns) asked h = h
by_command words request (Upgrades object) asked h = h
by_command words request (Assembles text) asked h = h
by_command words request (Disassembles object) asked h = h
by_command words request (Schedules object) asked h = h
by_command words request (Links map) asked h = h

-- the words of a command ask for nothing else
pub asks_only : (words options : List Word) (v : Verb) (operand : Word) (given : Given) (request : Request) → words
    ≡ name_of v ∷ operand ∷ options
    → ((g : Given) → GivesAll (allowed_of v) options none_given g → g ≡ given) → request_of v operand given
    ≡ Some request → AreCommand words request
    → (other : Request) → Asks words other → other ≡ request
asks_only words options v operand given request split only is asked other h =
    let found = asked_for words options v operand given other split only (by_command words request other asked h) in
    ap (λ x. unwrap_or x request) (sym found ∙ is)

-- words that make no request are not a command
pub asks_nothing : (words options : List Word) (v : Verb) (operand : Word) (given : Given) → words
    ≡ name_of v ∷ operand ∷ options
    → ((g : Given) → GivesAll (allowed_of v) options none_given g → g ≡ given) → request_of v operand given ≡ None →
    (request : Request) → AreCommand words request → ⊥
asks_nothing words options v operand given split only none request h =
    let found = asked_for words options v operand given request split only h in
    let e = sym none ∙ found in cc

-- words whose options are not valid are not a command
pub no_command : (words options : List Word) (v : Verb) (operand : Word) → words ≡ name_of v ∷ operand ∷ options →
    ((g : Given) → GivesAll (allowed_of v) options none_given g → ⊥) → (request : Request) → AreCommand words request →
    ⊥
no_command words options v operand split none request h =
    let same = sym h.words_are ∙ split in
    let verbs : h.verb ≡ v = same_verb h.verb v (heads _ _ _ _ _ _ same) in
    let gives : GivesAll (allowed_of v) h.options none_given h.given =
    subst (λ u. GivesAll (allowed_of u) h.options none_given h.given) verbs h.gives in
    none h.given (subst (λ ws. GivesAll (allowed_of v) ws none_given h.given) (rests _ _ _ _ _ _ same) gives)

-- words that are not a command ask only for the usage line
pub usage_only : (words : List Word) → ((request : Request) → AreCommand words request → ⊥) → (other : Request) →
    Asks words other → other ≡ Usage
usage_only words none Usage h = refl
usage_only words none (Checks object) h = absurd (none (Checks object) h)
usage_only words none (Runs run) h = absurd (none (Runs run) h)
usage_only words none (Trials run) h = absurd (none (Trials run) h)
usage_only words none (Recovers run) h = absurd (none (Recovers run) h)
usage_only words none (Campaigns campaign) h = absurd (none (Campaigns campaign) h)
usage_only words none (Surveys campaign) h = absurd (none (Surveys campaign) h)
usage_only words none (Compiles source) h = absurd (none (Compiles source) h)
usage_only words none (Executes execution) h = absurd (none (Executes execution) h)
usage_only words none (Means meaning) h = absurd (none (Means meaning) h)
usage_only words none (Debugs debugging) h = absurd (none (Debugs debugging) h)
usage_only words none (Demonstrates turns) h = absurd (none (Demonstrates turns) h)
usage_only words none (Upgrades object) h = absurd (none (Upgrades object) h)
usage_only words none (Assembles text) h = absurd (none (Assembles text) h)
usage_only words none (Disassembles object) h = absurd (none (Disassembles object) h)
usage_only words none (Schedules object) h = absurd (none (Schedules object) h)
usage_only words none (Links map) h = absurd (none (Links map) h)
