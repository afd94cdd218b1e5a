-- Options of a command: which ones it takes, and what they give.
use Rattle.std.specs.Prelude.{◌≡◌, ℕ, ◌≤◌, true, List, [], ◌∷◌, Option, Some, None, codes, decimal}
use Rattle.ft_isa.specs.declared.plan.Strike.{Strike}
use Rattle.ft_isa.specs.declared.plan.Wild.{Wild}
use Rattle.ft_isa.specs.PlanText.{IsStrikeText, IsWildText}
use Rattle.ft_command.specs.declared.allowed.Allowed.{Allowed}

-- the bytes of a word of the command line
abbrev pub Word : Type 0
Word = List ℕ

-- the options given: the maximum of steps or turns, a strike, answers to wild loads, and the file of a fault list
pub record Given : Type 0 where
  pub steps : Option ℕ
  pub turns : Option ℕ
  pub strike : Option Strike
  pub wild : Option (List Wild)
  pub faults : Option Word

-- no option
abbrev pub none_given : Given
none_given = record { steps = None; turns = None; strike = None; wild = None; faults = None }

-- a number in decimal digits, at most the maximum
abbrev pub IsNumberUpTo : Option ℕ → Word → ℕ → Type 0
IsNumberUpTo None text n = ⊥
IsNumberUpTo (Some most) text n = (n ≤ most) × (text ≡ decimal n)

-- `--steps` with a number, if it is allowed and was not given before
pub record GivesSteps (allowed : Allowed) (name value : Word) (old new : Given) : Type 0 where
  pub name_is : name ≡ codes "--steps"
  pub once : old.steps ≡ None
  pub steps : ℕ
  pub form : IsNumberUpTo allowed.steps value steps
  pub given : new ≡ record old { steps = Some steps }

-- `--turns` with a number, if it is allowed and was not given before
pub record GivesTurns (allowed : Allowed) (name value : Word) (old new : Given) : Type 0 where
  pub name_is : name ≡ codes "--turns"
  pub once : old.turns ≡ None
  pub turns : ℕ
  pub form : IsNumberUpTo allowed.turns value turns
  pub given : new ≡ record old { turns = Some turns }

-- `--fault` with the text of a strike, if it is allowed and was not given before
pub record GivesStrike (allowed : Allowed) (name value : Word) (old new : Given) : Type 0 where
  pub name_is : name ≡ codes "--fault"
  pub allowed_is : allowed.fault ≡ true
  pub once : old.strike ≡ None
  pub strike : Strike
  pub form : IsStrikeText value strike
  pub given : new ≡ record old { strike = Some strike }

-- `--wild` with the text of answers to wild loads, if it is allowed and was not given before
pub record GivesWild (allowed : Allowed) (name value : Word) (old new : Given) : Type 0 where
  pub name_is : name ≡ codes "--wild"
  pub allowed_is : allowed.wild ≡ true
  pub once : old.wild ≡ None
  pub wild : List Wild
  pub form : IsWildText value wild
  pub given : new ≡ record old { wild = Some wild }

-- `--faults` with the name of a file, if it is allowed and was not given before
pub record GivesFaults (allowed : Allowed) (name value : Word) (old new : Given) : Type 0 where
  pub name_is : name ≡ codes "--faults"
  pub allowed_is : allowed.faults ≡ true
  pub once : old.faults ≡ None
  pub given : new ≡ record old { faults = Some value }

-- an option with its value, after the options that were given before
pub data Gives (allowed : Allowed) (name value : Word) (old new : Given) : Type 0 where
  by_steps : GivesSteps allowed name value old new → Gives allowed name value old new
  by_turns : GivesTurns allowed name value old new → Gives allowed name value old new
  by_strike : GivesStrike allowed name value old new → Gives allowed name value old new
  by_wild : GivesWild allowed name value old new → Gives allowed name value old new
  by_faults : GivesFaults allowed name value old new → Gives allowed name value old new

-- options in any order, each followed by its value as a separate word
abbrev pub GivesAll : Allowed → List Word → Given → Given → Type 0
GivesAll allowed [] old new = new ≡ old
GivesAll allowed (name ∷ []) old new = ⊥
GivesAll allowed (name ∷ value ∷ words) old new = (mid : Given) × (Gives allowed name value old mid × GivesAll allowed words mid new)
