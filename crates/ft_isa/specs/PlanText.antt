-- The texts of strikes and of wild answers, and where other texts are refused.
use Rattle.std.specs.Prelude.{◌≡◌, ℕ, ◌<◌, ◌≤◌, List, [], ◌∷◌, ◌++◌, length, take, decimal, codes}
use Rattle.std.specs.List.{AllByRecursion}
use Rattle.ft_isa.specs.Words.{IsWord}
use Rattle.ft_isa.specs.declared.plan.Site.{Site}
use Rattle.ft_isa.specs.declared.plan.Site.TheVariants.{R, D, PcG, PcB, QAddr, QVal}
use Rattle.ft_isa.specs.declared.plan.Strike.{Strike}
use Rattle.ft_isa.specs.declared.plan.Wild.{Wild}
use Rattle.ft_isa.specs.declared.plan.Wild.TheVariants.{Word, Stop}
use Rattle.ft_isa.specs.declared.wild_text.WildError.{WildError}
use Rattle.ft_isa.specs.declared.wild_text.WildError.TheVariants.{Form, NoMemory}

-- a number text consists of the decimal digits of a word
abbrev pub IsNumberText : List ℕ → ℕ → Type 0
IsNumberText text n = IsWord n × (text ≡ decimal n)

-- a site has a text if it has no queue place, or one below 8
abbrev pub IsSite : Site → Type 0
IsSite (QAddr place) = place < 8
IsSite (QVal place) = place < 8
IsSite _ = Unit {0}

-- the text of a site
abbrev pub site_text : Site → List ℕ
site_text (R reg) = codes "r" ++ decimal reg.number
site_text D = codes "d"
site_text PcG = codes "pcg"
site_text PcB = codes "pcb"
site_text (QAddr place) = codes "qa" ++ decimal place
site_text (QVal place) = codes "qv" ++ decimal place

-- the text is that of the site
abbrev pub IsSiteText : List ℕ → Site → Type 0
IsSiteText text site = IsSite site × (text ≡ site_text site)

-- a strike has a text if its numbers are words and any queue place in its site is below 8
abbrev pub IsStrike : Strike → Type 0
IsStrike strike = IsWord strike.step × IsSite strike.site × IsWord strike.value

-- the text of a strike: its step, its site and its value, with colons between them
abbrev pub strike_text : Strike → List ℕ
strike_text strike = decimal strike.step ++ codes ":" ++ site_text strike.site ++ codes ":" ++ decimal strike.value

-- the text is that of the strike
abbrev pub IsStrikeText : List ℕ → Strike → Type 0
IsStrikeText text strike = IsStrike strike × (text ≡ strike_text strike)

-- a wild answer has a text if its number is a word
abbrev pub IsAnswer : Wild → Type 0
IsAnswer (Word word) = IsWord word
IsAnswer Stop = Unit {0}

-- the text of one wild answer
abbrev pub answer_text : Wild → List ℕ
answer_text (Word word) = decimal word
answer_text Stop = codes "stop"

-- wild answers, each preceded by a comma
abbrev pub more_answers_text : List Wild → List ℕ
more_answers_text [] = []
more_answers_text (answer ∷ answers) = codes "," ++ answer_text answer ++ more_answers_text answers

-- the text of wild answers: the text of each, with commas between them
abbrev pub wild_text : List Wild → List ℕ
wild_text [] = []
wild_text (answer ∷ answers) = answer_text answer ++ more_answers_text answers

-- one to 4,096 answers have a text if each has one
abbrev pub AreAnswers : List Wild → Type 0
AreAnswers answers = (0 < length answers) × (length answers ≤ 4096) × AllByRecursion IsAnswer answers

-- the text is that of the wild answers
abbrev pub IsWildText : List ℕ → List Wild → Type 0
IsWildText text answers = AreAnswers answers × (text ≡ wild_text answers)

-- the bytes are a prefix of some text of this kind
abbrev pub IsViable : {V : Type 0} → (List ℕ → V → Type 0) → List ℕ → Type 0
IsViable {V} Tells front = (value : V) × ((rest : List ℕ) × Tells (front ++ rest) value)

-- the longest prefix of the text that is a prefix of some text of this kind has this length
pub record IsLongestViable {V : Type 0} (Tells : List ℕ → V → Type 0) (text : List ℕ) (at : ℕ) : Type 0 where
  pub within : at ≤ length text
  pub viable : IsViable Tells (take at text)
  pub longest : (n : ℕ) → n ≤ length text → IsViable Tells (take n text) → n ≤ at

-- the text spells no value, and is refused at the end of its longest prefix that begins some text of this kind
pub record IsRefusedAt {V : Type 0} (Tells : List ℕ → V → Type 0) (text : List ℕ) (at : ℕ) : Type 0 where
  pub none : (value : V) → ¬ (Tells text value)
  pub place : IsLongestViable Tells text at

-- `Form` gives the place where a text that spells no wild answers is refused; `NoMemory` claims nothing
abbrev pub IsWildError : List ℕ → WildError → Type 0
IsWildError text (Form at) = IsRefusedAt IsWildText text at
IsWildError text NoMemory = Unit {0}
