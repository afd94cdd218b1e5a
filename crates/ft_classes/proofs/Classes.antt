-- Verdicts of faults with the same fate.
use Rattle.std.proofs.Common.{◌≡◌, ◌↔◌, ℕ, ◌+◌, ◌-◌, ◌<◌, true, List, Option, Some, None}
use Rattle.std.proofs.Common.{sym, ◌∙◌, subst, arith}
use Rattle.ft_isa.specs.declared.plan.Site.{Site}
use Rattle.ft_isa.specs.declared.plan.Strike.{Strike}
use Rattle.ft_isa.specs.declared.plan.Wild.{Wild}
use Rattle.ft_types.specs.declared.object.Object.{Object}
use Rattle.ft_semantics.specs.Agrees.{IsPrefix}
use Rattle.ft_semantics.specs.Strike.{is_there}
use Rattle.ft_semantics.specs.Run.{state_after, outputs_after, is_struck}
use Rattle.ft_campaign.specs.declared.verdict.Verdict.{Verdict}
use Rattle.ft_campaign.specs.declared.verdict.Verdict.TheVariants as verdicts
use Rattle.ft_campaign.specs.Verdicts.{IsVerdict}
use Rattle.ft_access.specs.Access.{reads_site}
use Rattle.ft_access.specs.Lasting.{fetched_at, Lasts, IsDead}
use Rattle.ft_access.specs.Lasting.{strike_at}
use Rattle.ft_access.specs.Lasting.{IsSameAfter}
use Rattle.ft_access.specs.Fates.{Fate, ReadAt, Unread, fate, fault_of, representative}
use Rattle.ft_access.proofs.Waiting.{lasts_there, lasts_on, same_back, same_always, same_dead}
use Rattle.ft_access.proofs.Fated.{Says}
use Rattle.ft_access.proofs.Striking.{strikes, lasts_from, dead_there, strikes_then, says_of}
use Rattle.ft_access.specs.Changed.{word_at, change_at}
use Rattle.ft_access.proofs.Changed.{lasts_same}

-- a verdict depends only on whether the fault strikes, and on outputs and statuses
pub verdict_follows : (o : Object) (x z : Strike) (w : List Wild) (n : ℕ) → is_struck o (Some z) w n
    ≡ is_struck o (Some x) w n → ((m : ℕ) → IsSameAfter o (Some z) (Some x) w m) → (u : Verdict) → IsVerdict o x w n u →
    IsVerdict o z w n u
verdict_follows o x z w n e same verdicts.Idle h = e ∙ h
verdict_follows o x z w n e same verdicts.Masked h =
    (e ∙ h.0, ((same n).outputs ∙ h.1.0, (same n).status ∙ h.1.1))
verdict_follows o x z w n e same (verdicts.Detected at) h = (
  e ∙ h.0,
  (λ i. h.1 (sym (same n).outputs ∙ i.0, sym (same n).status ∙ i.1)),
  (
    (same n).status ∙ h.2.0,
    subst (λ os. IsPrefix os (outputs_after o None w n)) (sym (same n).outputs) h.2.1,
  ),
  ((same at).status ∙ h.3.0, (same (at + 1)).status ∙ h.3.1),
)
verdict_follows o x z w n e same verdicts.Corrupt h = (
  e ∙ h.0,
  (λ i. h.1 (sym (same n).outputs ∙ i.0, sym (same n).status ∙ i.1)),
  λ i.
      h.2 (
        sym (same n).status ∙ i.0,
        subst (λ os. IsPrefix os (outputs_after o None w n)) (same n).outputs i.1,
      ),
)

module _ (o : Object) (w : List Wild) (n k : ℕ) (x : Site) (v l : ℕ) (y : Site) (h : Lasts o w k x l y) (lt : l < n)
  where
    both_strike : is_struck o (Some (strike_at k x v)) w n ≡ is_struck o (Some (strike_at l y v)) w n
    both_strike =
        let le = lasts_on o w k x l y h in
        strikes o w n k x v (omega arith) (lasts_from o w k x l y h)
        ∙ sym (strikes o w n l y v lt (lasts_there o w k x l y h))

    -- two strikes of a word that lasts have the same verdict
    pub verdict_waits : (u : Verdict) → IsVerdict o (strike_at k x v) w n u → IsVerdict o (strike_at l y v) w n u
    verdict_waits = verdict_follows o (strike_at k x v) (strike_at l y v) w n (sym both_strike) (λ m.
        same_back o _ _ w m (same_always o w k x v l y h m))

    pub verdict_was : (u : Verdict) → IsVerdict o (strike_at l y v) w n u → IsVerdict o (strike_at k x v) w n u
    verdict_was = verdict_follows o (strike_at l y v) (strike_at k x v) w n both_strike (λ m.
        same_always o w k x v l y h m)

-- the same change of a word that lasts gives the same verdict
pub change_waits : (o : Object) (w : List Wild) (n : ℕ) (f : ℕ → ℕ) (k : ℕ) (x : Site) (l : ℕ) (y : Site) →
    Lasts o w k x l y → l < n → (u : Verdict) → IsVerdict o (change_at o w f k x) w n u
    ↔ IsVerdict o (change_at o w f l y) w n u
change_waits o w n f k x l y h lt u =
    subst (λ v. IsVerdict o (change_at o w f k x) w n u ↔ IsVerdict o (strike_at l y (f v)) w n u)
    (sym (lasts_same o w k x l y h)) (
      verdict_waits o w n k x (f (word_at x (state_after o None w k))) l y h lt u,
      verdict_was o w n k x (f (word_at x (state_after o None w k))) l y h lt u,
    )

-- a strike of a word that is never read is masked
pub dead_masked : (o : Object) (w : List Wild) (n k : ℕ) (x : Site) (v : ℕ) → IsDead o w n k x → k < n →
    IsVerdict o (strike_at k x v) w n verdicts.Masked
dead_masked o w n k x v h lt =
    let same = same_dead o w n k x v h n (omega arith) in
    (strikes o w n k x v lt (dead_there o w n k x h), (same.outputs, same.status))

-- REPRESENTATIVES

abbrev Stands : Object → List Wild → ℕ → Strike → Option Strike → Type 0
Stands o w n x None = IsVerdict o x w n verdicts.Masked
Stands o w n x (Some z) = (u : Verdict) → (IsVerdict o x w n u → IsVerdict o z w n u)
    × (IsVerdict o z w n u → IsVerdict o x w n u)

-- what a fate says of a verdict
stands_by : (o : Object) (w : List Wild) (n : ℕ) (x : Strike) (f : Fate) → x.step < n → Says o w n x.step x.site f →
    Stands o w n x (fault_of f x.value)
stands_by o w n x (ReadAt l y) lt h = λ u. (
  verdict_waits o w n x.step x.site x.value l y h.lasts h.within u,
  verdict_was o w n x.step x.site x.value l y h.lasts h.within u,
)
stands_by o w n x Unread lt h = dead_masked o w n x.step x.site x.value h lt

-- the representative stands for a fault that strikes
pub stands : (o : Object) (w : List Wild) (n : ℕ) (x : Strike) → is_struck o (Some x) w n ≡ true →
    Stands o w n x (representative o w n x)
stands o w n x h = (let s = strikes_then o w n x h in
    stands_by o w n x (fate o w (n - x.step) x.step x.site) s.within (says_of o w n x s))

-- a fault has the verdict of its representative
pub stands_some : (o : Object) (w : List Wild) (n : ℕ) (x z : Strike) → is_struck o (Some x) w n ≡ true →
    representative o w n x ≡ Some z → (u : Verdict) → IsVerdict o x w n u ↔ IsVerdict o z w n u
stands_some o w n x z h e = subst (Stands o w n x) e (stands o w n x h)

-- a fault without a representative is masked
pub stands_none : (o : Object) (w : List Wild) (n : ℕ) (x : Strike) → is_struck o (Some x) w n ≡ true →
    representative o w n x ≡ None → IsVerdict o x w n verdicts.Masked
stands_none o w n x h e = subst (Stands o w n x) e (stands o w n x h)

-- THE WHOLE SPACE

module _ (o : Object) (w : List Wild) (n : ℕ) (x : Strike) (bad : (l : ℕ) (y : Site) → l < n →
    is_there (state_after o None w l) y ≡ true → reads_site (fetched_at o w l) y ≡ true →
    ¬ (IsVerdict o (strike_at l y x.value) w n verdicts.Corrupt)) where
  none_by : (f : Fate) → x.step < n → Says o w n x.step x.site f → ¬ (IsVerdict o x w n verdicts.Corrupt)
  none_by (ReadAt l y) lt h c = bad l y h.within (lasts_there o w x.step x.site l y h.lasts) h.reads
      (verdict_waits o w n x.step x.site x.value l y h.lasts h.within verdicts.Corrupt c)
  none_by Unread lt h c = c.1 (dead_masked o w n x.step x.site x.value h lt).1

  -- if no fault that writes this word just before a read is corrupt, no fault that writes it is
  pub none_corrupt : ¬ (IsVerdict o x w n verdicts.Corrupt)
  none_corrupt c = (let s = strikes_then o w n x c.0 in
      none_by (fate o w (n - x.step) x.step x.site) s.within (says_of o w n x s) c)
