-- A fault has at most one verdict, and on an accepted object it is never corrupt.
use Rattle.std.proofs.Common.{◌≡◌, ℕ, ◌+◌, ◌<◌, true, false, List, [], ◌∷◌, ◌++◌, length, take, get_or, Some, refl, ap}
use Rattle.std.proofs.Common.{sym, ◌∙◌, subst, arith}
use Rattle.std.specs.Prelude.{count_by}
use Rattle.std.proofs.lemmas.List.{take_more}
use Rattle.std.proofs.lemmas.Slice.Zip.{all_zipped_more}
use Rattle.ft_edge.specs.Logs.{SinkLog}
use Rattle.ft_isa.specs.declared.output.Output.{Output}
use Rattle.ft_isa.specs.declared.plan.Strike.{Strike}
use Rattle.ft_isa.specs.declared.plan.Wild.{Wild}
use Rattle.ft_types.specs.declared.object.Object.{Object}
use Rattle.ft_semantics.specs.declared.status.Status.{Status}
use Rattle.ft_semantics.specs.declared.status.Status.TheVariants.{Detected}
use Rattle.ft_typing.specs.Accepted.{IsAccepted}
use Rattle.ft_semantics.specs.Agrees.{IsPrefix, Agrees, equal, stopped}
use Rattle.ft_types.specs.Spellable.{IsSpellable}
use Rattle.ft_semantics.proofs.Runs.{HasStopped, run_goes_on}
use Rattle.ft_tolerance.proofs.Masking.{tolerant}
use Rattle.ft_campaign.specs.declared.verdict.Verdict.{Verdict}
use Rattle.ft_campaign.specs.declared.verdict.Verdict.TheVariants as verdicts
use Rattle.ft_campaign.specs.Texts.{is_corrupt}
use Rattle.ft_campaign.specs.Verdicts.{IsDetectedAt, IsVerdict, AreVerdicts}
use Rattle.ft_campaign.specs.declared.campaign_end.CampaignEnd.{CampaignEnd}
use Rattle.ft_campaign.specs.declared.campaign_end.CampaignEnd.TheVariants.{Finished, TooMuch, WriteFault, NoMemory}
use Rattle.ft_campaign.specs.declared.totals.Totals.{Totals}
use Rattle.ft_campaign.specs.Campaigns.{EndsAs, IsUncorrupted}

neither : (os ps : List Output) (s t : Status) → Agrees os s ps t → ¬ ((os ≡ ps) × (s ≡ t)) →
    ¬ ((s ≡ Detected) × IsPrefix os ps) → ⊥
neither os ps s t (equal e f) same noticed = same (e, f)
neither os ps s t (stopped d p) same noticed = noticed (d, p)

-- a fault of an accepted object is not corrupt
pub never_corrupt : (o : Object) (x : Strike) (w : List Wild) (n : ℕ) → IsSpellable o → IsAccepted o →
    ¬ (IsVerdict o x w n verdicts.Corrupt)
never_corrupt o x w n spelled acc h = neither _ _ _ _ (tolerant o (Some x) w n spelled acc) h.1 h.2

-- a run is detected at no more than one step
one_place : (o : Object) (x : Strike) (w : List Wild) (k j : ℕ) → IsDetectedAt o x w k → IsDetectedAt o x w j → k ≡ j
one_place o x w k j h i =
    let a = run_goes_on o (Some x) w k (j + 1) (subst HasStopped h.0) (subst HasStopped (sym i.1) tt) in
    let b = run_goes_on o (Some x) w j (k + 1) (subst HasStopped i.0) (subst HasStopped (sym h.1) tt) in
    omega (arith, a, b)

true_false : {A : Type 0} {b : _} → b ≡ true → b ≡ false → A
true_false t f = (let e : true ≡ false = sym t ∙ f in cc)

-- a fault has at most one verdict
pub one_verdict : (o : Object) (x : Strike) (w : List Wild) (n : ℕ) (u v : Verdict) → IsVerdict o x w n u →
    IsVerdict o x w n v → u ≡ v
one_verdict o x w n verdicts.Idle verdicts.Idle h i = refl
one_verdict o x w n verdicts.Idle verdicts.Masked h i = true_false i.0 h
one_verdict o x w n verdicts.Idle (verdicts.Detected at) h i = true_false i.0 h
one_verdict o x w n verdicts.Idle verdicts.Corrupt h i = true_false i.0 h
one_verdict o x w n verdicts.Masked verdicts.Idle h i = true_false h.0 i
one_verdict o x w n verdicts.Masked verdicts.Masked h i = refl
one_verdict o x w n verdicts.Masked (verdicts.Detected at) h i = absurd (i.1 h.1)
one_verdict o x w n verdicts.Masked verdicts.Corrupt h i = absurd (i.1 h.1)
one_verdict o x w n (verdicts.Detected at) verdicts.Idle h i = true_false h.0 i
one_verdict o x w n (verdicts.Detected at) verdicts.Masked h i = absurd (h.1 i.1)
one_verdict o x w n (verdicts.Detected at) (verdicts.Detected to) h i =
    ap verdicts.Detected (one_place o x w at to h.3 i.3)
one_verdict o x w n (verdicts.Detected at) verdicts.Corrupt h i = absurd (i.2 h.2)
one_verdict o x w n verdicts.Corrupt verdicts.Idle h i = true_false h.0 i
one_verdict o x w n verdicts.Corrupt verdicts.Masked h i = absurd (h.1 i.1)
one_verdict o x w n verdicts.Corrupt (verdicts.Detected at) h i = absurd (h.2 i.2)
one_verdict o x w n verdicts.Corrupt verdicts.Corrupt h i = refl

-- no verdict on a fault of an accepted object is corrupt
pub none_corrupt : (o : Object) (xs : List Strike) (w : List Wild) (n : ℕ) (vs : List Verdict) → IsSpellable o →
    IsAccepted o → AreVerdicts o xs w n vs → count_by is_corrupt vs ≡ 0
none_corrupt o [] w n [] spelled acc h = refl
none_corrupt o [] w n (v ∷ vs) spelled acc h = absurd h
none_corrupt o (x ∷ xs) w n [] spelled acc h = absurd h
none_corrupt o (x ∷ xs) w n (verdicts.Idle ∷ vs) spelled acc h = let e = none_corrupt o xs w n vs spelled acc h.1 in
    omega arith
none_corrupt o (x ∷ xs) w n (verdicts.Masked ∷ vs) spelled acc h = let e = none_corrupt o xs w n vs spelled acc h.1 in
    omega arith
none_corrupt o (x ∷ xs) w n (verdicts.Detected at ∷ vs) spelled acc h = let e =
    none_corrupt o xs w n vs spelled acc h.1 in omega arith
none_corrupt o (x ∷ xs) w n (verdicts.Corrupt ∷ vs) spelled acc h = absurd (never_corrupt o x w n spelled acc h.0)

-- a campaign on an accepted object ends without a corrupt verdict
pub uncorrupted : (e : CampaignEnd) (o : Object) (xs : List Strike) (w : List Wild) (n : ℕ) (old new : SinkLog) →
    IsSpellable o → IsAccepted o → EndsAs e o xs w n old new → IsUncorrupted e
uncorrupted (Finished totals) o xs w n old new spelled acc h = ap (λ (t : Totals). t.corrupt) h.totals_are
    ∙ none_corrupt o xs w n h.found spelled acc h.verdicts
uncorrupted (TooMuch product) o xs w n old new spelled acc h = tt
uncorrupted WriteFault o xs w n old new spelled acc h = tt
uncorrupted NoMemory o xs w n old new spelled acc h = tt

-- the verdict of one more fault was found
pub more_verdicts : (o : Object) (xs : List Strike) (w : List Wild) (n : ℕ) (vs : List Verdict) (i : ℕ) (x : Strike)
    (v : Verdict) → i < length xs → x ≡ get_or xs i x → IsVerdict o x w n v → AreVerdicts o (take i xs) w n vs →
    AreVerdicts o (take (i + 1) xs) w n (vs ++ v ∷ [])
more_verdicts o xs w n vs i x v lt ex h before =
    subst (λ (ys : List Strike). AreVerdicts o ys w n (vs ++ v ∷ []))
    (sym (take_more xs i x lt ∙ ap (λ y. take i xs ++ y ∷ []) (sym ex)))
    (all_zipped_more (λ y u. IsVerdict o y w n u) (take i xs) vs x v before h)
