-- Strikes are read byte by byte.
use Rattle.std.proofs.Common.{◌≡◌, ℕ, false, List, [], ◌∷◌, ◌++◌, Option, Some, None, decimal, codes, eqb, refl, sym}
use Rattle.std.proofs.Common.{ap, ◌∙◌, subst, inl, inr, arith, append_assoc, if◌then◌else◌}
use Rattle.std.specs.Option.{option_map, option_and_then}
use Rattle.std.proofs.lemmas.Bool.{eqb-true, ne_eqb}
use Rattle.std.proofs.lemmas.List.{append-nil}
use Rattle.ft_isa.specs.Words.{IsWord}
use Rattle.ft_isa.specs.PlanText.{IsSite, site_text, strike_text, IsStrikeText, IsViable}
use Rattle.ft_isa.specs.Reading.{state_after, with_digit, next_site, whole_site, next_strike, whole_strike}
use Rattle.ft_isa.specs.declared.plan.Site.{Site}
use Rattle.ft_isa.specs.declared.plan.Site.TheVariants.{D}
use Rattle.ft_isa.specs.declared.plan.Strike.{Strike}
use Rattle.ft_isa.specs.declared.site_text.SiteRead.{SiteRead}
use Rattle.ft_isa.specs.declared.site_text.SiteRead.TheVariants as sites
use Rattle.ft_isa.specs.declared.strike_text.StrikeRead.{StrikeRead}
use Rattle.ft_isa.specs.declared.strike_text.StrikeRead.TheVariants.{AtStep, AtSite, AtValue}
use Rattle.ft_isa.proofs.Readers.{state_after-both, state_after-inside, IsReader}
use Rattle.ft_isa.proofs.Branches.{of_branch, of_map}
use Rattle.ft_isa.proofs.NumberRead.{number_told, IsNumberRead, next_number, taken_digit, more_digits, reads_decimal}
use Rattle.ft_isa.proofs.SiteRead.{site_told, IsSiteRead, is_whole, site_step, site_byte, reads_site, site_goes_on}

-- the text of what has been read of a strike
abbrev pub strike_told : StrikeRead → List ℕ
strike_told (AtStep number) = number_told number
strike_told (AtSite step site) = decimal step ++ codes ":" ++ site_told site
strike_told (AtValue step site value) = decimal step ++ codes ":" ++ site_text site ++ codes ":" ++ number_told value

-- the numbers of a strike that was read are words, and its queue place is below 8
abbrev pub IsStrikeRead : StrikeRead → Type 0
IsStrikeRead (AtStep number) = IsNumberRead number
IsStrikeRead (AtSite step site) = IsWord step × IsSiteRead site
IsStrikeRead (AtValue step site value) = IsWord step × IsSite site × IsNumberRead value

-- a state records these bytes followed by this one
abbrev GoesOn : List ℕ → ℕ → StrikeRead → Type 0
GoesOn told b after = (strike_told after ≡ told ++ b ∷ []) × IsStrikeRead after

-- a digit is not a colon
digit_byte : (number : Option ℕ) (b n : ℕ) → with_digit number b ≡ Some n → eqb b 58 ≡ false
digit_byte number b n e = let digit = taken_digit number b n e in ne_eqb b 58 (λ f. omega (arith, digit.1))

-- the step is read like a number on its own
step_inside : (m n : Option ℕ) (b : ℕ) → next_number m b ≡ Some n → next_strike (AtStep m) b ≡ Some (AtStep n)
step_inside m n b e =
    let made = of_map {A = ℕ} Some (with_digit m b) n e in
    ap (λ t. if t then option_map (λ step. AtSite step sites.Empty) m
    else option_map (λ step. AtStep (Some step)) (with_digit m b)) (digit_byte m b made.0 made.1.0)
    ∙ ap (option_map (λ step. AtStep (Some step))) made.1.0 ∙ ap (λ x. Some (AtStep x)) made.1.1

-- the site is read like a site on its own
site_inside : (step : ℕ) (s t : SiteRead) (b : ℕ) → next_site s b ≡ Some t → next_strike (AtSite step s) b
    ≡ Some (AtSite step t)
site_inside step s t b e =
    ap (λ c. if c then option_map (λ whole. AtValue step whole None) (whole_site s)
    else option_map (AtSite step) (next_site s b)) (site_byte s t b e)
    ∙ ap (option_map (AtSite step)) e

-- the value is read like a number on its own
value_inside : (step : ℕ) (site : Site) (m n : Option ℕ) (b : ℕ) → next_number m b ≡ Some n →
    next_strike (AtValue step site m) b ≡ Some (AtValue step site n)
value_inside step site m n b e =
    let made = of_map {A = ℕ} Some (with_digit m b) n e in
    ap (option_map (λ more. AtValue step site (Some more))) made.1.0 ∙ ap (λ x. Some (AtValue step site x)) made.1.1

-- splitting the site of a strike in two does not change the strike's text
joined : (step told rest site value : List ℕ) → told ++ rest ≡ site → step ++ codes ":" ++ told
    ++ (rest ++ codes ":" ++ value) ≡ step ++ codes ":" ++ site ++ codes ":" ++ value
joined step told rest site value e = sym (ap (λ ds. step ++ codes ":" ++ ds ++ codes ":" ++ value) (sym e)
    ∙ simp append_assoc)

-- if a byte continues a strike, the new state records it
strike_step : (s t : StrikeRead) (b : ℕ) → IsStrikeRead s → next_strike s b ≡ Some t → GoesOn (strike_told s) b t
strike_step (AtStep number) t b g e =
    elim (of_branch (eqb b 58) (option_map (λ step. AtSite step sites.Empty) number)
    (option_map (λ step. AtStep (Some step)) (with_digit number b)) t e) [
      | inl colon ↦
          let made = of_map (λ step. AtSite step sites.Empty) number t colon.1 in
          let word : IsNumberRead (Some made.0) = subst IsNumberRead made.1.0 g in
          subst (λ (s : StrikeRead). GoesOn (number_told number) b s) made.1.1 (
            append-nil (decimal made.0 ++ codes ":") ∙ ap (λ n. number_told n ++ codes ":") (sym made.1.0)
                ∙ ap (λ x. number_told number ++ x ∷ []) (sym (eqb-true b 58 colon.0)),
            (word, tt),
          )
      | inr digit ↦
          let made = of_map (λ step. AtStep (Some step)) (with_digit number b) t digit in
          subst (λ (s : StrikeRead). GoesOn (number_told number) b s) made.1.1 (more_digits number b made.0 g made.1.0)
    ]
strike_step (AtSite step site) t b g e =
    elim (of_branch (eqb b 58) (option_map (λ whole. AtValue step whole None) (whole_site site))
    (option_map (AtSite step) (next_site site b)) t e) [
      | inl colon ↦
          let made = of_map (λ whole. AtValue step whole None) (whole_site site) t colon.1 in
          let whole : site ≡ sites.Whole made.0 = is_whole site made.0 made.1.0 in
          let lawful : IsSiteRead (sites.Whole made.0) = subst IsSiteRead whole g.1 in
          subst (λ (s : StrikeRead). GoesOn (decimal step ++ codes ":" ++ site_told site) b s) made.1.1 (
            append-nil (decimal step ++ codes ":" ++ site_text made.0 ++ codes ":")
                ∙ ap (λ s. decimal step ++ codes ":" ++ site_told s ++ codes ":") (sym whole)
                ∙ ap (λ x. decimal step ++ codes ":" ++ site_told site ++ x ∷ []) (sym (eqb-true b 58 colon.0)),
            (g.0, lawful, tt),
          )
      | inr byte ↦
          let made = of_map (AtSite step) (next_site site b) t byte in
          let more = site_step site made.0 b g.1 made.1.0 in
          subst (λ (s : StrikeRead). GoesOn (decimal step ++ codes ":" ++ site_told site) b s) made.1.1 (
            ap (λ ds. decimal step ++ codes ":" ++ ds) more.0
                ∙ sym (append_assoc (decimal step ++ codes ":") (site_told site) (b ∷ [])),
            (g.0, more.1),
          )
    ]
strike_step (AtValue step site value) t b g e =
    let made = of_map (λ more. AtValue step site (Some more)) (with_digit value b) t e in
    let more = more_digits value b made.0 g.2 made.1.0 in
    subst (λ (s : StrikeRead). GoesOn (decimal step ++ codes ":" ++ site_text site ++ codes ":"
    ++ number_told value) b s) made.1.1 (
      ap (λ ds. decimal step ++ codes ":" ++ site_text site ++ codes ":" ++ ds) more.0
          ∙ sym (append_assoc (decimal step ++ codes ":" ++ site_text site ++ codes ":") (number_told value) (b ∷ [])),
      (g.0, g.1, more.1),
    )

-- the state of a completely read strike records the text of that strike
strike_ends : (s : StrikeRead) (strike : Strike) → IsStrikeRead s → whole_strike s ≡ Some strike →
    IsStrikeText (strike_told s) strike
strike_ends (AtStep number) strike g e = absurd cc
strike_ends (AtSite step site) strike g e = absurd cc
strike_ends (AtValue step site None) strike g e = absurd cc
strike_ends (AtValue step site (Some value)) strike g e =
    let made : Strike = record { step = step; site = site; value = value } in
    let same : made ≡ strike = cc in
    subst (λ (s : Strike). IsStrikeText (strike_text made) s) same (g, refl)

-- what was read of a strike can be continued to the text of some strike
strike_goes_on : (s : StrikeRead) → IsStrikeRead s → IsViable IsStrikeText (strike_told s)
strike_goes_on (AtStep None) g =
    let zeroth : Strike = record { step = 0; site = D; value = 0 } in
    (zeroth, (strike_text zeroth, ((omega arith, tt, omega arith), refl)))
strike_goes_on (AtStep (Some step)) g =
    let zeroth : Strike = record { step = step; site = D; value = 0 } in
    (zeroth, (codes ":" ++ codes "d" ++ codes ":" ++ decimal 0, ((g, tt, omega arith), simp append_assoc)))
strike_goes_on (AtSite step site) g =
    let whole = site_goes_on site g.1 in
    let zeroth : Strike = record { step = step; site = whole.0; value = 0 } in (
      zeroth,
      (
        whole.1.0 ++ codes ":" ++ decimal 0,
        (
          (g.0, whole.1.1.0, omega arith),
          joined (decimal step) (site_told site) whole.1.0 (site_text whole.0) (decimal 0)
              whole.1.1.1,
        ),
      ),
    )
strike_goes_on (AtValue step site None) g =
    let zeroth : Strike = record { step = step; site = site; value = 0 } in (
      zeroth,
      (
        decimal 0,
        (
          (g.0, g.1, omega arith),
          ap (λ ds. ds ++ decimal 0) (append-nil (decimal step ++ codes ":" ++ site_text site ++ codes ":")),
        ),
      ),
    )
strike_goes_on (AtValue step site (Some value)) g =
    let made : Strike = record { step = step; site = site; value = value } in
    (made, ([], (g, append-nil (strike_text made))))

-- the text of a strike is read as that strike
strike_complete : (text : List ℕ) (strike : Strike) → IsStrikeText text strike →
    option_and_then whole_strike (state_after next_strike (AtStep None) text) ≡ Some strike
strike_complete text strike h =
    let k = strike.step in
    let v = strike.value in
    let site = strike.site in
    let number : state_after next_strike (AtStep None) (decimal k) ≡ Some (AtStep (Some k)) =
    state_after-inside next_number next_strike AtStep step_inside None (Some k) (decimal k) (reads_decimal k h.0.0) in
    let begun : state_after next_strike (AtStep None) (decimal k ++ codes ":") ≡ Some (AtSite k sites.Empty) =
    state_after-both next_strike (AtStep None) (AtStep (Some k)) (AtSite k sites.Empty) (decimal k) (codes ":") number
    refl in
    let placed : state_after next_strike (AtStep None) (decimal k ++ codes ":" ++ site_text site)
    ≡ Some (AtSite k (sites.Whole site)) =
    state_after-both next_strike (AtStep None) (AtSite k sites.Empty) (AtSite k (sites.Whole site)) (decimal k
    ++ codes ":") (site_text site) begun
    (state_after-inside next_site next_strike (AtSite k) (site_inside k) sites.Empty (sites.Whole site) (site_text site)
    (reads_site site h.0.1)) in
    let passed : state_after next_strike (AtStep None) (decimal k ++ codes ":" ++ site_text site ++ codes ":")
    ≡ Some (AtValue k site None) =
    state_after-both next_strike (AtStep None) (AtSite k (sites.Whole site)) (AtValue k site None) (decimal k
    ++ codes ":" ++ site_text site) (codes ":") placed refl in
    let read : state_after next_strike (AtStep None) (strike_text strike) ≡ Some (AtValue k site (Some v)) =
    state_after-both next_strike (AtStep None) (AtValue k site None) (AtValue k site (Some v)) (decimal k ++ codes ":"
    ++ site_text site ++ codes ":") (decimal v) passed
    (state_after-inside next_number next_strike (AtValue k site) (value_inside k site) None (Some v) (decimal v)
    (reads_decimal v h.0.2)) in
    ap (λ ds. option_and_then whole_strike (state_after next_strike (AtStep None) ds)) h.1
    ∙ ap (option_and_then whole_strike) read

-- the reader of strikes records what it read
pub strike_reader : IsReader next_strike whole_strike (AtStep None) strike_told IsStrikeRead IsStrikeText
strike_reader = record {
  begins = refl;
  good = tt;
  step = strike_step;
  ends = strike_ends;
  goes_on = strike_goes_on;
  complete = strike_complete;
}
