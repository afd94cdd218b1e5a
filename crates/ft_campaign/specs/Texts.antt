-- The lines of a campaign.
use Rattle.std.specs.Prelude.{ℕ, Bool, true, false, List, [], ◌∷◌, ◌++◌, length, map, codes, decimal, count_by}
use Rattle.std.specs.List.{zip}
use Rattle.ft_isa.specs.PlanText.{strike_text}
use Rattle.ft_isa.specs.declared.plan.Strike.{Strike}
use Rattle.ft_campaign.specs.declared.totals.Totals.{Totals}
use Rattle.ft_campaign.specs.declared.verdict.Verdict.{Verdict}
use Rattle.ft_campaign.specs.declared.verdict.Verdict.TheVariants.{Idle, Masked, Detected, Corrupt}

-- whether a verdict is masked; likewise for detected, idle and corrupt
abbrev pub is_masked : Verdict → Bool
is_masked Masked = true
is_masked _ = false

abbrev pub is_detected : Verdict → Bool
is_detected (Detected at) = true
is_detected _ = false

abbrev pub is_idle : Verdict → Bool
is_idle Idle = true
is_idle _ = false

abbrev pub is_corrupt : Verdict → Bool
is_corrupt Corrupt = true
is_corrupt _ = false

-- how many verdicts there are of each kind
abbrev pub totals_of : List Verdict → Totals
totals_of vs = record {
  masked = count_by is_masked vs;
  detected = count_by is_detected vs;
  idle = count_by is_idle vs;
  corrupt = count_by is_corrupt vs;
}

-- the text of a verdict
abbrev pub verdict_text : Verdict → List ℕ
verdict_text Idle = codes "idle"
verdict_text Masked = codes "masked"
verdict_text (Detected at) = codes "detected " ++ decimal at
verdict_text Corrupt = codes "corrupt"

-- the line of a fault: its text, a space, and its verdict
abbrev pub verdict_line : Strike → Verdict → List ℕ
verdict_line x v = strike_text x ++ codes " " ++ verdict_text v ++ codes "\n"

-- the last line: the number of faults, and how many have each verdict
abbrev pub end_line : ℕ → Totals → List ℕ
end_line faults t = codes "faults " ++ decimal faults ++ codes " masked " ++ decimal t.masked ++ codes " detected " ++ decimal t.detected ++ codes " idle " ++ decimal t.idle ++ codes " corrupt " ++ decimal t.corrupt ++ codes "\n"

-- a line for each fault and its verdict
abbrev pub verdict_lines : List Strike → List Verdict → List (List ℕ)
verdict_lines xs vs = map (λ p. verdict_line p.0 p.1) (zip xs vs)

-- the lines of a campaign: one for each fault, and the last line
abbrev pub campaign_lines : List Strike → List Verdict → List (List ℕ)
campaign_lines xs vs = verdict_lines xs vs ++ end_line (length xs) (totals_of vs) ∷ []
