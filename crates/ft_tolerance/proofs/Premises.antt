-- What holds after a row that doesn't fail: one lemma for each premise.
use Rattle.std.proofs.Common.{◌≡◌, ℕ, zero, suc, Bool, true, false, List, [], ◌∷◌, Option, Some, None, refl}
use Rattle.ft_isa.specs.declared.basic.Base.{Base}
use Rattle.ft_isa.specs.declared.basic.Base.TheVariants.{Int, Code}
use Rattle.ft_isa.specs.declared.basic.Basic.{Basic}
use Rattle.ft_isa.specs.declared.colour.Colour.{Colour}
use Rattle.ft_isa.specs.declared.colour.Colour.TheVariants.{Green, Blue}
use Rattle.ft_static.specs.Form.{Polynomial}
use Rattle.ft_typing.specs.Premise.{Premise}
use Rattle.ft_isa.specs.BasicTypes.{code, ref}
use Rattle.ft_typing.specs.Context.{Typed, StateOfD, d_zero, d_code, d_conditional, FormPair, Context}
use Rattle.ft_typing.specs.RowWords.{Outcome, Goes, Ends, Fails, same_colour, need, for_typed, for_ref_over}
use Rattle.ft_typing.specs.RowWords.{for_code_over, for_zero, for_target, for_conditional, for_oldest, for_run}

-- G holds of the context to which the row leads, or E holds if the row ends the block
unfoldable pub After : (Context → Type 0) → Type 0 → Outcome → Type 0
After G E (Goes c) = G c
After G E Ends = E
After G E (Fails p) = Unit {0}

-- the row goes on
pub after_goes : (G : Context → Type 0) (E : Type 0) (c : Context) → G c → After G E (Goes c)
unfolding After
after_goes G E c h = h

-- the row ends the block
pub after_ends : (G : Context → Type 0) (E : Type 0) → E → After G E Ends
unfolding After
after_ends G E h = h

-- a test holds
pub after_need : (G : Context → Type 0) (E : Type 0) (p : Premise) (b : Bool) (x : Outcome) → (b ≡ true → After G E x) →
    After G E (need p b x)
unfolding After need
after_need G E p true x h = h refl
after_need G E p false x h = tt

-- a register is typed
pub after_typed : (G : Context → Type 0) (E : Type 0) (o : Option Typed) (f : Typed → Outcome) →
    ((t : Typed) → o ≡ Some t → After G E (f t)) → After G E (for_typed o f)
unfolding After for_typed
after_typed G E None f h = tt
after_typed G E (Some t) f h = h t refl

-- a type refers to another
pub after_ref : (G : Context → Type 0) (E : Type 0) (n : ℕ) (base : Base) (f : Basic → Outcome) →
    ((b : Basic) → record { refs = n; base = base } ≡ ref b → After G E (f b)) → After G E (for_ref_over n base f)
unfolding After for_ref_over
after_ref G E zero base f h = tt
after_ref G E (suc k) base f h = h (record { refs = k; base = base }) refl

-- a type is that of code addresses
pub after_code : (G : Context → Type 0) (E : Type 0) (n : ℕ) (base : Base) (f : ℕ → Outcome) →
    ((t : ℕ) → ◌≡◌ {A = Basic} (record { refs = n; base = base }) (code t) → After G E (f t)) →
    After G E (for_code_over n base f)
unfolding After for_code_over
after_code G E zero Int f h = tt
after_code G E zero (Code t) f h = h t refl
after_code G E (suc k) base f h = tt

-- d is Zero
pub after_zero : (G : Context → Type 0) (E : Type 0) (d : StateOfD) (x : Outcome) → (d ≡ d_zero → After G E x) →
    After G E (for_zero d x)
unfolding After for_zero
after_zero G E d_zero x h = h refl
after_zero G E (d_code t f) x h = tt
after_zero G E (d_conditional z t f) x h = tt

-- d is Code
pub after_target : (G : Context → Type 0) (E : Type 0) (d : StateOfD) (f : ℕ → Polynomial → Outcome) →
    ((t : ℕ) (p : Polynomial) → d ≡ d_code t p → After G E (f t p)) → After G E (for_target d f)
unfolding After for_target
after_target G E d_zero f h = tt
after_target G E (d_code t p) f h = h t p refl
after_target G E (d_conditional z t p) f h = tt

-- d is Conditional
pub after_conditional : (G : Context → Type 0) (E : Type 0) (d : StateOfD) (f : Polynomial → ℕ → Polynomial → Outcome) →
    ((z : Polynomial) (t : ℕ) (p : Polynomial) → d ≡ d_conditional z t p → After G E (f z t p)) →
    After G E (for_conditional d f)
unfolding After for_conditional
after_conditional G E d_zero f h = tt
after_conditional G E (d_code t p) f h = tt
after_conditional G E (d_conditional z t p) f h = h z t p refl

-- the static queue has an oldest pair
pub after_oldest : (G : Context → Type 0) (E : Type 0) (q : List FormPair) (f : FormPair → List FormPair → Outcome) →
    ((p : FormPair) (r : List FormPair) → q ≡ p ∷ r → After G E (f p r)) → After G E (for_oldest q f)
unfolding After for_oldest
after_oldest G E [] f h = tt
after_oldest G E (p ∷ r) f h = h p r refl

-- the cells of a run are of one type
pub after_run : (G : Context → Type 0) (E : Type 0) (x : Option Basic) (f : Basic → Outcome) →
    ((b : Basic) → x ≡ Some b → After G E (f b)) → After G E (for_run x f)
unfolding After for_run
after_run G E None f h = tt
after_run G E (Some b) f h = h b refl

-- two colours are equal if the test says so
pub same_colour_is : (a b : Colour) → same_colour a b ≡ true → a ≡ b
unfolding same_colour
same_colour_is Green Green e = refl
same_colour_is Green Blue e = cc
same_colour_is Blue Green e = cc
same_colour_is Blue Blue e = refl
