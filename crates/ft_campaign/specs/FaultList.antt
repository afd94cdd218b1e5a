-- Fault lists: a text of lines, each the text of a strike.
use Rattle.std.specs.Prelude.{◌≡◌, ◌⊎◌, ℕ, ◌+◌, ◌<◌, ◌≤◌, List, ◌∷◌, ◌++◌, length}
use Rattle.std.specs.List.{AllZip}
use Rattle.ft_isa.specs.PlanText.{IsStrikeText}
use Rattle.ft_isa.specs.declared.plan.Strike.{Strike}
use Rattle.ft_text.specs.Lines.{lines_of}
use Rattle.ft_campaign.specs.declared.fault_list.ListError.{ListError}
use Rattle.ft_campaign.specs.declared.fault_list.ListError.TheVariants.{Line, TooMany, NoMemory}

-- the lines spell these strikes, in order
abbrev pub AreStrikeTexts : List (List ℕ) → List Strike → Type 0
AreStrikeTexts lines faults = AllZip IsStrikeText lines faults

-- a fault list has at most 4,194,304 bytes and at most 65,536 lines, which spell its strikes
pub record IsFaultList (text : List ℕ) (faults : List Strike) : Type 0 where
  pub short : length text ≤ 4194304
  pub lines : AreStrikeTexts (lines_of text) faults
  pub few : length faults ≤ 65536

-- these lines spell strikes, and another line follows
pub record GoesOn (lines before : List (List ℕ)) (line : List ℕ) : Type 0 where
  pub faults : List Strike
  pub texts : AreStrikeTexts before faults
  pub after : List (List ℕ)
  pub whole : lines ≡ before ++ line ∷ after

-- line `number`, counted from 1, is the first that is not a strike
pub record IsFirstBad (lines : List (List ℕ)) (number : ℕ) : Type 0 where
  pub before : List (List ℕ)
  pub line : List ℕ
  pub goes_on : GoesOn lines before line
  pub bad : (strike : Strike) → ¬ (IsStrikeText line strike)
  pub counted : number ≡ length before + 1
  pub early : number ≤ 65536

-- the first 65,536 lines spell strikes, and there are more
pub record IsLong (lines : List (List ℕ)) : Type 0 where
  pub before : List (List ℕ)
  pub line : List ℕ
  pub goes_on : GoesOn lines before line
  pub counted : length before ≡ 65536

-- this is a refusal of the text: besides `NoMemory`, which claims nothing, at most one applies
abbrev pub IsListError : List ℕ → ListError → Type 0
IsListError text (Line number) = (length text ≤ 4194304) × IsFirstBad (lines_of text) number
IsListError text TooMany = (4194304 < length text) ⊎ ((length text ≤ 4194304) × IsLong (lines_of text))
IsListError text NoMemory = Unit {0}
