-- The outcomes of two typing rules, where the second does not fail unless the first does.
use Rattle.std.proofs.Common.{◌≡◌, ℕ, zero, suc, Bool, true, false, List, [], ◌∷◌, Option, Some, None, refl, subst}
use Rattle.ft_isa.specs.declared.basic.Base.{Base}
use Rattle.ft_isa.specs.declared.basic.Base.TheVariants.{Code}
use Rattle.ft_isa.specs.declared.basic.Basic.{Basic}
use Rattle.ft_typing.specs.Premise.{Premise}
use Rattle.ft_typing.specs.Context.{Typed, FormPair, Context}
use Rattle.ft_typing.specs.RowWords.{Outcome, Goes, Ends, Fails, need, for_typed, for_ref_over, for_code_over}
use Rattle.ft_typing.specs.RowWords.{for_oldest}

-- both rules continue, with contexts that R relates; or both end the block; or the first fails
unfoldable pub Both : (Context → Context → Type 0) → Outcome → Outcome → Type 0
Both R (Goes c) (Goes d) = R c d
Both R (Goes c) Ends = ⊥
Both R (Goes c) (Fails p) = ⊥
Both R Ends (Goes d) = ⊥
Both R Ends Ends = Unit {0}
Both R Ends (Fails p) = ⊥
Both R (Fails p) x = Unit {0}

-- both rules continue, with contexts that R relates
pub both_goes : (R : Context → Context → Type 0) (c d : Context) → R c d → Both R (Goes c) (Goes d)
unfolding Both
both_goes R c d h = h

-- both rules end the block
pub both_end : (R : Context → Context → Type 0) → Both R Ends Ends
unfolding Both
both_end R = tt

-- `Both` holds of rules that begin with the same premise if, whenever its test passes in the first rule, it passes in
-- the second too, and `Both` holds of the rest
pub both_need : (R : Context → Context → Type 0) (p : Premise) (b b' : Bool) (x x' : Outcome) →
    (b ≡ true → (b' ≡ true) × Both R x x') → Both R (need p b x) (need p b' x')
unfolding Both need
both_need R p false b' x x' h = tt
both_need R p true true x x' h = (h refl).1
both_need R p true false x x' h = let e = (h refl).0 in cc

-- `Both` holds of rules that read the same register type if it holds for each such type
both_typed_same : (R : Context → Context → Type 0) (y : Option Typed) (f f' : Typed → Outcome) →
    ((t : Typed) → y ≡ Some t → Both R (f t) (f' t)) → Both R (for_typed y f) (for_typed y f')
unfolding Both for_typed
both_typed_same R None f f' h = tt
both_typed_same R (Some t) f f' h = h t refl

-- likewise for two register types that are equal
pub both_typed : (R : Context → Context → Type 0) (y y' : Option Typed) (f f' : Typed → Outcome) → y ≡ y' →
    ((t : Typed) → y ≡ Some t → Both R (f t) (f' t)) → Both R (for_typed y f) (for_typed y' f')
both_typed R y y' f f' e h = subst (λ (z : Option Typed). Both R (for_typed y f) (for_typed z f')) e
    (both_typed_same R y f f' h)

-- `Both` holds of rules that read registers if it holds for the known types of these registers
pub both_known : (R : Context → Context → Type 0) (y y' : Option Typed) (t t' : Typed) (f f' : Typed → Outcome) → y
    ≡ Some t → y' ≡ Some t' → Both R (f t) (f' t') → Both R (for_typed y f) (for_typed y' f')
unfolding for_typed
both_known R y y' t t' f f' e e' h = rw (e, e') h

-- `Both` holds of rules that read a reference type if it holds for each type referred to
pub both_ref : (R : Context → Context → Type 0) (n : ℕ) (base : Base) (f f' : Basic → Outcome) →
    ((b : Basic) → Both R (f b) (f' b)) → Both R (for_ref_over n base f) (for_ref_over n base f')
unfolding Both for_ref_over
both_ref R zero base f f' h = tt
both_ref R (suc k) base f f' h = h (record { refs = k; base = base })

-- `Both` holds of rules that read types of code addresses if it holds for these code types
pub both_code : (R : Context → Context → Type 0) (t t' : ℕ) (f f' : ℕ → Outcome) → Both R (f t) (f' t') →
    Both R (for_code_over 0 (Code t) f) (for_code_over 0 (Code t') f')
unfolding for_code_over
both_code R t t' f f' h = h

-- `Both` holds of rules that read the oldest entry of the same queue if it holds for each such entry
both_oldest_same : (R : Context → Context → Type 0) (q : List FormPair) (f f' : FormPair → List FormPair → Outcome) →
    ((p : FormPair) (r : List FormPair) → q ≡ p ∷ r → Both R (f p r) (f' p r)) →
    Both R (for_oldest q f) (for_oldest q f')
unfolding Both for_oldest
both_oldest_same R [] f f' h = tt
both_oldest_same R (p ∷ r) f f' h = h p r refl

-- likewise for two queues that are equal
pub both_oldest : (R : Context → Context → Type 0) (q q' : List FormPair) (f f' : FormPair → List FormPair → Outcome) →
    q ≡ q' → ((p : FormPair) (r : List FormPair) → q ≡ p ∷ r → Both R (f p r) (f' p r)) →
    Both R (for_oldest q f) (for_oldest q' f')
both_oldest R q q' f f' e h = subst (λ (z : List FormPair). Both R (for_oldest q f) (for_oldest z f')) e
    (both_oldest_same R q f f' h)
