-- Verdicts derived from what is kept: at the last step, and at a meeting.
use Rattle.std.proofs.Common.{◌≡◌, ℕ, ◌+◌, ◌<◌, ◌≤◌, List, [], ◌++◌, length, take, drop, Some, None, Bool, true, false}
use Rattle.std.proofs.Common.{ap, sym, subst, ◌∙◌, ⊎_elim, append_assoc, arith, Decides}
use Rattle.std.proofs.lemmas.List.{append-nil, take_all, length-append, length-take-le, take-append-drop}
use Rattle.std.proofs.Math.Seq.{drop-append_seam}
use Rattle.std.proofs.lemmas.Bool.{cases_lt}
use Rattle.ft_isa.specs.declared.plan.Wild.{Wild}
use Rattle.ft_isa.specs.declared.plan.Strike.{Strike}
use Rattle.ft_isa.specs.declared.output.Output.{Output}
use Rattle.ft_types.specs.declared.object.Object.{Object}
use Rattle.ft_semantics.specs.declared.status.Status.{Status}
use Rattle.ft_semantics.specs.declared.status.Status.TheVariants.{Running, Detected}
use Rattle.ft_semantics.specs.State.{State}
use Rattle.ft_semantics.specs.Agrees.{IsPrefix}
use Rattle.ft_semantics.specs.Run.{Ran, outputs_after, status_after, is_struck}
use Rattle.ft_semantics.proofs.Runs.{HasStopped, run_stays}
use Rattle.ft_campaign.specs.declared.clean.KeptRun.{KeptRun}
use Rattle.ft_campaign.specs.declared.verdict.Verdict.TheVariants as verdicts
use Rattle.ft_campaign.specs.Verdicts.{IsVerdict, IsSame}
use Rattle.ft_campaign.specs.Snapshots.{HasMet, IsClean, Begins, HasEnded, IsAtMeeting}
use Rattle.ft_campaign.proofs.Meetings.{has_met}

pub refuted : {F : Type 0} (b : Bool) → Decides b F → b ≡ false → ¬ F
refuted b d e f = (let t : b ≡ true = d.1 f in let bad : true ≡ false = sym t ∙ e in cc)

-- there are `at` outputs so far
begun_long : (ys xs : List Output) (at : ℕ) → Begins ys at xs → length xs ≡ at
begun_long ys xs at h = let few = h.few in ap length h.front ∙ length-take-le at ys few

begins_all : (ys xs : List Output) (at : ℕ) → Begins ys at xs → at ≡ length ys → xs ≡ ys
begins_all ys xs at h e = h.front ∙ take_all at ys (omega (arith, e))

begins_prefix : (ys xs : List Output) (at : ℕ) → Begins ys at xs → IsPrefix xs ys
begins_prefix ys xs at h = (drop at ys, ap (λ zs. zs ++ drop at ys) h.front ∙ take-append-drop at ys)

-- the verdict at the last step
module _ (o : Object) (x : Strike) (w : List Wild) (n at : ℕ) (status : Status) (last : ℕ) (c : KeptRun)
    (clean : IsClean o w n c) (h : HasEnded o x w n at status last) where
  many : length c.outputs.items ≡ length (outputs_after o None w n)
  many = ap length clean.outputs

  pub ended_masked : (status ≡ c.status) × (at ≡ length c.outputs.items) → IsVerdict o x w n verdicts.Masked
  ended_masked e = (
    h.struck,
    (
      begins_all (outputs_after o None w n) (outputs_after o (Some x) w n) at h.begins (e.1
          ∙ many),
      sym h.status_is ∙ e.0 ∙ clean.status,
    ),
  )

  ended_other : ¬ ((status ≡ c.status) × (at ≡ length c.outputs.items)) → ¬ (IsSame o x w n)
  ended_other apart same = apart (
    h.status_is ∙ same.1 ∙ sym clean.status,
    sym (begun_long (outputs_after o None w n) (outputs_after o (Some x) w n) at h.begins) ∙ ap length same.0
        ∙ sym many,
  )

  pub ended_detected : ¬ ((status ≡ c.status) × (at ≡ length c.outputs.items)) → status ≡ Detected →
      IsVerdict o x w n (verdicts.Detected last)
  ended_detected apart d = (
    h.struck,
    ended_other apart,
    (
      sym h.status_is ∙ d,
      begins_prefix (outputs_after o None w n) (outputs_after o (Some x) w n) at h.begins,
    ),
    (h.running d, h.detected d),
  )

  pub ended_corrupt : ¬ ((status ≡ c.status) × (at ≡ length c.outputs.items)) → ¬ (status ≡ Detected) →
      IsVerdict o x w n verdicts.Corrupt
  ended_corrupt apart nd = (h.struck, ended_other apart, λ p. nd (h.status_is ∙ p.0))

cut_front : (xs zs ys : List Output) → xs ++ zs ≡ ys → zs ≡ drop (length xs) ys
cut_front xs zs ys e = sym (drop-append_seam xs zs) ∙ ap (drop (length xs)) e

-- a front followed by a list is a prefix of the whole if that list is a prefix of the rest
prefix_both : (ys zs : List Output) (at : ℕ) → IsPrefix zs (drop at ys) → IsPrefix (take at ys ++ zs) ys
prefix_both ys zs at h = (
  h.0,
  append_assoc (take at ys) zs h.0 ∙ ap (λ t. take at ys ++ t) h.1
      ∙ take-append-drop at ys,
)

prefix_rest : (ys zs : List Output) (at : ℕ) → at ≤ length ys → IsPrefix (take at ys ++ zs) ys →
    IsPrefix zs (drop at ys)
prefix_rest ys zs at le h = (
  h.0,
  sym (drop-append_seam (take at ys) (zs ++ h.0)) ∙ ap (λ k. drop k (take at ys ++ (zs ++ h.0)))
      (length-take-le at ys le)
      ∙ ap (drop at) (sym (append_assoc (take at ys) zs h.0) ∙ h.1),
)

-- the verdict at a meeting
module _ (o : Object) (x : Strike) (w : List Wild) (n at m count : ℕ) (c : KeptRun) (clean : IsClean o w n c)
    (h : IsAtMeeting o x w n at m count) where
  abbrev ys : List Output
  ys = outputs_after o None w n

  met : HasMet o x w m n
  met = has_met o x w m n h.meets h.within

  rest_is : met.rest ≡ drop count ys
  rest_is = cut_front (outputs_after o None w m) met.rest ys (sym met.other) ∙ ap (λ k. drop k ys) (sym h.count_is)

  whole : outputs_after o (Some x) w n ≡ take at ys ++ drop count ys
  whole = met.struck ∙ ap (λ xs. xs ++ met.rest) h.begins.front ∙ ap (λ t. take at ys ++ t) rest_is

  same_status : status_after o (Some x) w n ≡ status_after o None w n
  same_status = ap (λ (s : State). s.status) met.state

  pub met_masked : at ≡ count → IsVerdict o x w n verdicts.Masked
  met_masked e = (h.struck, (whole ∙ ap (λ k. take k ys ++ drop count ys) e ∙ take-append-drop count ys, same_status))

  met_other : ¬ (at ≡ count) → ¬ (IsSame o x w n)
  met_other apart same =
      let a : length (outputs_after o (Some x) w n) ≡ length (outputs_after o (Some x) w m) + length met.rest =
      ap length met.struck ∙ length-append (outputs_after o (Some x) w m) met.rest in
      let b : length ys ≡ length (outputs_after o None w m) + length met.rest = ap length met.other
      ∙ length-append (outputs_after o None w m) met.rest in
      let e : length (outputs_after o (Some x) w n) ≡ length ys = ap length same.0 in
      let f = begun_long ys (outputs_after o (Some x) w m) at h.begins in
      let g = h.count_is in
      apart (omega (arith, a, b, e, f, g))

  -- if the run without a fault is detected, this comes after the meeting, so the struck run is detected at the same
  -- step
  later : status_after o None w (c.last + 1) ≡ Detected → m ≤ c.last
  later d =
      ⊎_elim
      (λ (early : c.last < m).
      let stopped : HasStopped (status_after o None w (c.last + 1)) = subst HasStopped (sym d) tt in
      let same = ap (λ (r : Ran). r.state.status) (run_stays o None w (c.last + 1) m (omega arith) stopped) in
      let bad : Running ≡ Detected = sym h.running ∙ same ∙ d in
      absurd (cc))
      (λ (late : m ≤ c.last). late)
      (cases_lt c.last m)

  stands : (i : ℕ) → m ≤ i → status_after o (Some x) w i ≡ status_after o None w i
  stands i le = ap (λ (s : State). s.status) (has_met o x w m i h.meets le).state

  pub met_detected : ¬ (at ≡ count) → (c.status ≡ Detected)
      × IsPrefix (drop count c.outputs.items) (drop at c.outputs.items) → IsVerdict o x w n (verdicts.Detected c.last)
  met_detected apart p =
      let d = clean.detected p.0 in
      let le = later d in
      let front : IsPrefix (drop count ys) (drop at ys) =
      subst (λ all. IsPrefix (drop count all) (drop at all)) clean.outputs p.1 in (
        h.struck,
        met_other apart,
        (
          same_status ∙ sym clean.status ∙ p.0,
          subst (λ xs.
              IsPrefix xs ys) (sym whole) (prefix_both ys (drop count ys) at front),
        ),
        (stands c.last le ∙ clean.running p.0, stands (c.last + 1) (omega (arith, le)) ∙ d),
      )

  pub met_corrupt : ¬ (at ≡ count) → ¬ ((c.status ≡ Detected)
      × IsPrefix (drop count c.outputs.items) (drop at c.outputs.items)) → IsVerdict o x w n verdicts.Corrupt
  met_corrupt apart np = (
    h.struck,
    met_other apart,
    λ q.
        np (
          clean.status ∙ sym same_status ∙ q.0,
          subst (λ all. IsPrefix (drop count all) (drop at all)) (sym clean.outputs)
              (prefix_rest ys (drop count ys) at h.begins.few (subst (λ xs. IsPrefix xs ys) whole q.1)),
        ),
  )

-- if a struck run's outputs are not a prefix of the other's, its verdict is corrupt
pub apart_corrupt : (o : Object) (x : Strike) (w : List Wild) (n : ℕ) → is_struck o (Some x) w n ≡ true →
    ¬ (IsPrefix (outputs_after o (Some x) w n) (outputs_after o None w n)) → IsVerdict o x w n verdicts.Corrupt
apart_corrupt o x w n struck apart = (
  struck,
  (λ same. apart ([], append-nil (outputs_after o (Some x) w n) ∙ same.0)),
  λ p. apart p.1,
)
