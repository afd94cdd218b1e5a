-- Sites are read byte by byte.
use Rattle.std.proofs.Common.{◌≡◌, ℕ, ◌+◌, ◌-◌, ◌/◌, ◌%◌, ◌<◌, false, ◌&&◌, List, [], ◌∷◌, ◌++◌, Option, Some, None}
use Rattle.std.proofs.Common.{decimal, codes, nat_le, eqb, refl, ap, ◌∙◌, subst, inl, inr, arith, if◌then◌else◌}
use Rattle.std.specs.Option.{option_map, option_and_then}
use Rattle.std.proofs.lemmas.Bool.{and_parts, and_from, leb-true, le-leb, ne_eqb, cases_lt}
use Rattle.std.proofs.lemmas.Fmt.{decimal_digit, decimal_step}
use Rattle.std.proofs.lemmas.List.{append-nil}
use Rattle.ft_isa.specs.Registers.{reg_of}
use Rattle.ft_isa.specs.PlanText.{IsSite, site_text, IsSiteText, IsViable}
use Rattle.ft_isa.specs.Reading.{state_after, with_digit, with_register_digit, queue_place, next_site, whole_site}
use Rattle.ft_isa.specs.declared.reg.Reg.{Reg}
use Rattle.ft_isa.specs.declared.plan.Site.{Site}
use Rattle.ft_isa.specs.declared.plan.Site.TheVariants.{R, D, PcG, PcB, QAddr, QVal}
use Rattle.ft_isa.specs.declared.site_text.SiteRead.{SiteRead}
use Rattle.ft_isa.specs.declared.site_text.SiteRead.TheVariants as sites
use Rattle.ft_isa.proofs.Readers.{state_after-byte, IsReader}
use Rattle.ft_isa.proofs.Registers.{reg_of-number, number-reg_of}
use Rattle.ft_isa.proofs.Branches.{if_some, of_map, of_letter}
use Rattle.ft_isa.proofs.NumberRead.{number_told, IsNumberRead, more_digits, first_digit, last_digit}

-- the text of what has been read of a site
abbrev pub site_told : SiteRead → List ℕ
site_told sites.Empty = []
site_told sites.P = codes "p"
site_told sites.Pc = codes "pc"
site_told sites.Q = codes "q"
site_told sites.Qa = codes "qa"
site_told sites.Qv = codes "qv"
site_told sites.R = codes "r"
site_told (sites.Whole site) = site_text site

-- the queue place of a site that was read is below 8
abbrev pub IsSiteRead : SiteRead → Type 0
IsSiteRead (sites.Whole site) = IsSite site
IsSiteRead _ = Unit {0}

-- a state records these bytes followed by this one
abbrev pub GoesOn : List ℕ → ℕ → SiteRead → Type 0
GoesOn told b after = (site_told after ≡ told ++ b ∷ []) × IsSiteRead after

-- a byte that is read as a queue place is a digit below 8, and the new state records it
place_read : (front : List ℕ) (site : ℕ → Site) → ((place : ℕ) → site_text (site place) ≡ front ++ decimal place) →
    ((place : ℕ) → place < 8 → IsSite (site place)) → (b : ℕ) (after : SiteRead) → queue_place site b ≡ Some after →
    GoesOn front b after
place_read front site written is_site b after e =
    let t = if_some (nat_le 48 b && nat_le b 55) (sites.Whole (site (b - 48))) after e in
    let parts = and_parts (nat_le 48 b) (nat_le b 55) t.0 in
    let low = leb-true 48 b parts.0 in
    let high = leb-true b 55 parts.1 in
    let digit : decimal (b - 48) ≡ (48 + (b - 48)) ∷ [] = decimal_digit (b - 48) (omega arith) in
    let same : 48 + (b - 48) ≡ b = omega arith in
    subst (λ (s : SiteRead). GoesOn front b s) t.1
    (written (b - 48) ∙ ap (λ ds. front ++ ds) (digit ∙ ap (λ x. x ∷ []) same), is_site (b - 48) (omega arith))

-- if a byte continues a register's number, the new state records it
register_read : (number : Option ℕ) (b : ℕ) (after : SiteRead) → IsNumberRead number → with_register_digit number b
    ≡ Some after → GoesOn (codes "r" ++ number_told number) b after
register_read number b after g e =
    let made = of_map (λ (reg : Reg). sites.Whole (R reg)) (option_and_then reg_of (with_digit number b)) after e in
    let go : with_digit number b ≡ with_digit number b → option_and_then reg_of (with_digit number b) ≡ Some made.0 →
    decimal made.0.number ≡ number_told number ++ b ∷ [] =
    elim (with_digit number b) as (λ o. with_digit number b ≡ o → option_and_then reg_of o ≡ Some made.0 →
    decimal made.0.number ≡ number_told number ++ b ∷ []) [
      | None ↦ λ p q. absurd cc
      | Some n ↦ λ p q. ap decimal (number-reg_of n made.0 q) ∙ (more_digits number b n g p).0
    ] in
    subst (λ (s : SiteRead). GoesOn (codes "r" ++ number_told number) b s) made.1.1
    (ap (λ ds. 114 ∷ ds) (go refl made.1.0), tt)

-- if a byte continues a site, the new state records it
pub site_step : (s t : SiteRead) (b : ℕ) → IsSiteRead s → next_site s b ≡ Some t → GoesOn (site_told s) b t
site_step sites.Empty t b g e =
    of_letter (GoesOn []) b 100 (sites.Whole D) t _ (refl, tt)
    (of_letter (GoesOn []) b 112 sites.P t _ (refl, tt)
    (of_letter (GoesOn []) b 113 sites.Q t _ (refl, tt)
    (of_letter (GoesOn []) b 114 sites.R t None (refl, tt) (λ f. absurd cc)))) e
site_step sites.P t b g e = of_letter (GoesOn (codes "p")) b 99 sites.Pc t None (refl, tt) (λ f. absurd cc) e
site_step sites.Pc t b g e =
    of_letter (GoesOn (codes "pc")) b 103 (sites.Whole PcG) t _ (refl, tt)
    (of_letter (GoesOn (codes "pc")) b 98 (sites.Whole PcB) t None (refl, tt) (λ f. absurd cc)) e
site_step sites.Q t b g e =
    of_letter (GoesOn (codes "q")) b 97 sites.Qa t _ (refl, tt)
    (of_letter (GoesOn (codes "q")) b 118 sites.Qv t None (refl, tt) (λ f. absurd cc)) e
site_step sites.Qa t b g e = place_read (codes "qa") QAddr (λ place. refl) (λ place h. h) b t e
site_step sites.Qv t b g e = place_read (codes "qv") QVal (λ place. refl) (λ place h. h) b t e
site_step sites.R t b g e = register_read None b t tt e
site_step (sites.Whole (R reg)) t b g e = register_read (Some reg.number) b t (let below : reg.number < 64 =
    reg.in_range in omega arith) e
site_step (sites.Whole D) t b g e = absurd cc
site_step (sites.Whole PcG) t b g e = absurd cc
site_step (sites.Whole PcB) t b g e = absurd cc
site_step (sites.Whole (QAddr place)) t b g e = absurd cc
site_step (sites.Whole (QVal place)) t b g e = absurd cc

-- a colon does not continue a site
no_colon : (s : SiteRead) → next_site s 58 ≡ None
no_colon sites.Empty = refl
no_colon sites.P = refl
no_colon sites.Pc = refl
no_colon sites.Q = refl
no_colon sites.Qa = refl
no_colon sites.Qv = refl
no_colon sites.R = refl
no_colon (sites.Whole (R reg)) = refl
no_colon (sites.Whole D) = refl
no_colon (sites.Whole PcG) = refl
no_colon (sites.Whole PcB) = refl
no_colon (sites.Whole (QAddr place)) = refl
no_colon (sites.Whole (QVal place)) = refl

-- a byte that continues a site is not a colon
pub site_byte : (s t : SiteRead) (b : ℕ) → next_site s b ≡ Some t → eqb b 58 ≡ false
site_byte s t b e = ne_eqb b 58 (λ f. let none = no_colon s in
    let some = subst (λ (x : ℕ). next_site s x ≡ Some t) f e in cc)

-- the digit of a queue place completes the site
reads_place : (site : ℕ → Site) (place : ℕ) → place < 8 → queue_place site (48 + place)
    ≡ Some (sites.Whole (site place))
reads_place site place h =
    let same : 48 + place - 48 ≡ place = omega arith in
    ap (λ t. if t then Some (sites.Whole (site (48 + place - 48)))
    else None) (and_from (nat_le 48 (48 + place)) (nat_le (48 + place) 55) (le-leb 48 (48 + place) (omega arith))
    (le-leb (48 + place) 55 (omega arith)))
    ∙ ap (λ x. Some (sites.Whole (site x))) same

-- the last digit of a register's number completes the site
reads_register_digit : (number : Option ℕ) (b : ℕ) (reg : Reg) → with_digit number b ≡ Some reg.number →
    with_register_digit number b ≡ Some (sites.Whole (R reg))
reads_register_digit number b reg e =
    ap (λ o. option_map (λ (r : Reg). sites.Whole (R r)) (option_and_then reg_of o)) e
    ∙ ap (option_map (λ (r : Reg). sites.Whole (R r))) (reg_of-number reg)

-- after the letter `r`, a register's number is read as that register
reads_register : (reg : Reg) → state_after next_site sites.R (decimal reg.number) ≡ Some (sites.Whole (R reg))
reads_register reg =
    let below : reg.number < 64 = reg.in_range in
    elim (cases_lt reg.number 10) [
      | inl one ↦
          ap (state_after next_site sites.R) (decimal_digit reg.number one)
          ∙ state_after-byte next_site sites.R (sites.Whole (R reg)) (48 + reg.number) []
          (reads_register_digit None (48 + reg.number) reg (first_digit reg.number one))
      | inr two ↦
          let small : reg.number / 10 < 10 = omega arith in
          let front : Reg = record { number = reg.number / 10; in_range = omega arith } in
          let digits : decimal reg.number ≡ decimal (reg.number / 10) ++ (48 + reg.number % 10) ∷ [] =
          decimal_step reg.number two (omega arith) in
          let first : decimal (reg.number / 10) ≡ (48 + reg.number / 10) ∷ [] = decimal_digit (reg.number / 10) small in
          ap (state_after next_site sites.R) (digits ∙ ap (λ ds. ds ++ (48 + reg.number % 10) ∷ []) first)
          ∙ state_after-byte next_site sites.R (sites.Whole (R front)) (48 + reg.number / 10)
          ((48 + reg.number % 10) ∷ []) (reads_register_digit None (48 + reg.number / 10) front
          (first_digit (reg.number / 10) small))
          ∙ state_after-byte next_site (sites.Whole (R front)) (sites.Whole (R reg)) (48 + reg.number % 10) []
          (reads_register_digit (Some (reg.number / 10)) (48 + reg.number % 10) reg
          (last_digit reg.number two (omega arith)))
    ]

-- the text of a site is read as that site
pub reads_site : (site : Site) → IsSite site → state_after next_site sites.Empty (site_text site)
    ≡ Some (sites.Whole site)
reads_site (R reg) g = reads_register reg
reads_site D g = refl
reads_site PcG g = refl
reads_site PcB g = refl
reads_site (QAddr place) g =
    ap (state_after next_site sites.Qa) (decimal_digit place (omega arith))
    ∙ state_after-byte next_site sites.Qa (sites.Whole (QAddr place)) (48 + place) [] (reads_place QAddr place g)
reads_site (QVal place) g =
    ap (state_after next_site sites.Qv) (decimal_digit place (omega arith))
    ∙ state_after-byte next_site sites.Qv (sites.Whole (QVal place)) (48 + place) [] (reads_place QVal place g)

-- what was read of a site can be continued to the text of some site
pub site_goes_on : (s : SiteRead) → IsSiteRead s → (site : Site)
    × ((rest : List ℕ) × (IsSite site × (site_told s ++ rest ≡ site_text site)))
site_goes_on sites.Empty g = (D, (codes "d", (tt, refl)))
site_goes_on sites.P g = (PcG, (codes "cg", (tt, refl)))
site_goes_on sites.Pc g = (PcG, (codes "g", (tt, refl)))
site_goes_on sites.Q g = (QAddr 0, (codes "a" ++ decimal 0, (omega arith, refl)))
site_goes_on sites.Qa g = (QAddr 0, (decimal 0, (omega arith, refl)))
site_goes_on sites.Qv g = (QVal 0, (decimal 0, (omega arith, refl)))
site_goes_on sites.R g =
    let zeroth : Reg = record { number = 0; in_range = omega arith } in
    (R zeroth, (decimal 0, (tt, refl)))
site_goes_on (sites.Whole site) g = (site, ([], (g, append-nil (site_text site))))

-- if a site was read completely, the state is `Whole` with that site
pub is_whole : (s : SiteRead) (site : Site) → whole_site s ≡ Some site → s ≡ sites.Whole site
is_whole (sites.Whole whole) site e = cc
is_whole sites.Empty site e = absurd cc
is_whole sites.P site e = absurd cc
is_whole sites.Pc site e = absurd cc
is_whole sites.Q site e = absurd cc
is_whole sites.Qa site e = absurd cc
is_whole sites.Qv site e = absurd cc
is_whole sites.R site e = absurd cc

-- the state of a completely read site records the text of that site
site_ends : (s : SiteRead) (site : Site) → IsSiteRead s → whole_site s ≡ Some site → IsSiteText (site_told s) site
site_ends s site g e =
    let whole : s ≡ sites.Whole site = is_whole s site e in
    (subst IsSiteRead whole g, ap site_told whole)

-- what was read of a site is a prefix of some site's text
site_viable : (s : SiteRead) → IsSiteRead s → IsViable IsSiteText (site_told s)
site_viable s g = (let on = site_goes_on s g in (on.0, (on.1.0, on.1.1)))

-- the text of a site is read as that site
site_complete : (text : List ℕ) (site : Site) → IsSiteText text site →
    option_and_then whole_site (state_after next_site sites.Empty text) ≡ Some site
site_complete text site h = ap (λ t. option_and_then whole_site (state_after next_site sites.Empty t)) h.1
    ∙ ap (option_and_then whole_site) (reads_site site h.0)

-- the reader of sites records what it read
pub site_reader : IsReader next_site whole_site sites.Empty site_told IsSiteRead IsSiteText
site_reader = record {
  begins = refl;
  good = tt;
  step = λ s t b g e. site_step s t b g e;
  ends = site_ends;
  goes_on = site_viable;
  complete = site_complete;
}
