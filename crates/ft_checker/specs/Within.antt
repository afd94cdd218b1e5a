-- What the results of a check within a budget say.
use Rattle.std.specs.Prelude.{◌≡◌, Option, None, Result, Ok, Err}
use Rattle.ft_typing.specs.Accepted.{Refusal}
use Rattle.ft_checker.specs.Judges.{IsRefusalOf}
use Rattle.ft_checker.specs.declared.within.Unfinished.{Unfinished}
use Rattle.ft_checker.specs.declared.within.Unfinished.TheVariants.{Check, Work}

-- what a result says: that nothing is refused, or which refusal it is; giving up says nothing
abbrev pub JudgesWithin : {A : Type 0} → Option Refusal → Result A Unfinished → Type 0
JudgesWithin x (Ok a) = x ≡ None
JudgesWithin x (Err (Check e)) = IsRefusalOf x e
JudgesWithin x (Err Work) = Unit {0}

-- the check was given up
abbrev pub GivesUp : {A : Type 0} → Result A Unfinished → Type 0
GivesUp (Ok a) = ⊥
GivesUp (Err (Check e)) = ⊥
GivesUp (Err Work) = Unit {0}
