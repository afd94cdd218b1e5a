-- How far the text of a strike or of wild answers has been read, and how the next byte continues it: private to the
-- readers.
use Rattle.std.specs.Prelude.{ℕ, ◌+◌, ◌-◌, ◌*◌, ◌^◌, Bool, ◌&&◌, not, List, [], ◌∷◌, ◌++◌, length, Option, Some, None, option_map, option_and_then, nat_lt, nat_le, ◌==◌, if◌then◌else◌}
use Rattle.ft_isa.specs.Registers.{reg_of}
use Rattle.ft_isa.specs.declared.plan.Site.{Site}
use Rattle.ft_isa.specs.declared.plan.Site.TheVariants.{R, D, PcG, PcB, QAddr, QVal}
use Rattle.ft_isa.specs.declared.plan.Strike.{Strike}
use Rattle.ft_isa.specs.declared.plan.Wild.{Wild}
use Rattle.ft_isa.specs.declared.plan.Wild.TheVariants as wilds
use Rattle.ft_isa.specs.declared.site_text.SiteRead.{SiteRead}
use Rattle.ft_isa.specs.declared.site_text.SiteRead.TheVariants as sites
use Rattle.ft_isa.specs.declared.strike_text.StrikeRead.{StrikeRead}
use Rattle.ft_isa.specs.declared.strike_text.StrikeRead.TheVariants.{AtStep, AtSite, AtValue}
use Rattle.ft_isa.specs.declared.wild_text.AnswerRead.{AnswerRead}
use Rattle.ft_isa.specs.declared.wild_text.AnswerRead.TheVariants as answers

-- the state after reading these bytes, if each of them leads to a next state
abbrev pub state_after : {S : Type 0} → (S → ℕ → Option S) → S → List ℕ → Option S
state_after next state [] = Some state
state_after next state (byte ∷ bytes) = option_and_then (λ after. state_after next after bytes) (next state byte)

-- whether a byte is a decimal digit
abbrev pub is_digit : ℕ → Bool
is_digit byte = nat_le 48 byte && nat_le byte 57

-- a number with one more digit, if that is a number text
abbrev pub with_digit : Option ℕ → ℕ → Option ℕ
with_digit None byte = if is_digit byte then Some (byte - 48) else None
with_digit (Some n) byte = if is_digit byte && not (n == 0) && nat_lt (n * 10 + (byte - 48)) (2 ^ 64) then Some (n * 10 + (byte - 48)) else None

-- a register's number with one more digit, if that is a register's number
abbrev pub with_register_digit : Option ℕ → ℕ → Option SiteRead
with_register_digit number byte = option_map (λ reg. sites.Whole (R reg)) (option_and_then reg_of (with_digit number byte))

-- the site with the queue place that a digit spells, if the place is below 8
abbrev pub queue_place : (ℕ → Site) → ℕ → Option SiteRead
queue_place site byte = if nat_le 48 byte && nat_le byte 55 then Some (sites.Whole (site (byte - 48))) else None

-- what has been read of a site, after one more byte
abbrev pub next_site : SiteRead → ℕ → Option SiteRead
next_site sites.Empty byte = if byte == 100 then Some (sites.Whole D) else (if byte == 112 then Some sites.P else (if byte == 113 then Some sites.Q else (if byte == 114 then Some sites.R else None)))
next_site sites.P byte = if byte == 99 then Some sites.Pc else None
next_site sites.Pc byte = if byte == 103 then Some (sites.Whole PcG) else (if byte == 98 then Some (sites.Whole PcB) else None)
next_site sites.Q byte = if byte == 97 then Some sites.Qa else (if byte == 118 then Some sites.Qv else None)
next_site sites.Qa byte = queue_place QAddr byte
next_site sites.Qv byte = queue_place QVal byte
next_site sites.R byte = with_register_digit None byte
next_site (sites.Whole (R reg)) byte = with_register_digit (Some reg.number) byte
next_site (sites.Whole D) byte = None
next_site (sites.Whole PcG) byte = None
next_site (sites.Whole PcB) byte = None
next_site (sites.Whole (QAddr place)) byte = None
next_site (sites.Whole (QVal place)) byte = None

-- the site, if it was read completely
abbrev pub whole_site : SiteRead → Option Site
whole_site (sites.Whole site) = Some site
whole_site _ = None

-- what has been read of a strike, after one more byte
abbrev pub next_strike : StrikeRead → ℕ → Option StrikeRead
next_strike (AtStep number) byte = if byte == 58 then option_map (λ step. AtSite step sites.Empty) number else option_map (λ step. AtStep (Some step)) (with_digit number byte)
next_strike (AtSite step site) byte = if byte == 58 then option_map (λ whole. AtValue step whole None) (whole_site site) else option_map (AtSite step) (next_site site byte)
next_strike (AtValue step site value) byte = option_map (λ more. AtValue step site (Some more)) (with_digit value byte)

-- the strike, if it was read completely
abbrev pub whole_strike : StrikeRead → Option Strike
whole_strike (AtValue step site (Some value)) = Some (record { step = step; site = site; value = value })
whole_strike _ = None

-- what has been read of a wild answer, after one more byte
abbrev pub next_answer : AnswerRead → ℕ → Option AnswerRead
next_answer answers.Empty byte = if byte == 115 then Some answers.S else option_map answers.Number (with_digit None byte)
next_answer (answers.Number word) byte = option_map answers.Number (with_digit (Some word) byte)
next_answer answers.S byte = if byte == 116 then Some answers.St else None
next_answer answers.St byte = if byte == 111 then Some answers.Sto else None
next_answer answers.Sto byte = if byte == 112 then Some answers.Stop else None
next_answer answers.Stop byte = None

-- the wild answer, if it was read completely
abbrev pub whole_answer : AnswerRead → Option Wild
whole_answer (answers.Number word) = Some (wilds.Word word)
whole_answer answers.Stop = Some wilds.Stop
whole_answer _ = None

-- the wild answers before the last comma, and what was read after it
pub record WildRead : Type 0 where
  pub done : List Wild
  pub part : AnswerRead

-- what has been read of wild answers, after one more byte
abbrev pub next_wild : WildRead → ℕ → Option WildRead
next_wild read byte = if byte == 44 then (if nat_lt (length read.done + 1) 4096 then option_map (λ answer. record { done = read.done ++ answer ∷ []; part = answers.Empty }) (whole_answer read.part) else None) else option_map (λ part. record { done = read.done; part = part }) (next_answer read.part byte)

-- the wild answers, if they were read completely
abbrev pub whole_wild : WildRead → Option (List Wild)
whole_wild read = option_map (λ answer. read.done ++ answer ∷ []) (whole_answer read.part)
