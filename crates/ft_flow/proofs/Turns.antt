-- One turn of the loop over steps, over plain values.
use Rattle.std.proofs.Common.{◌≡◌, ℕ, ◌+◌, ◌<◌, Bool, not, List, [], ◌∷◌, ◌++◌, length}
use Rattle.std.proofs.Common.{Option, Some, None, refl, sym, ap, ◌∙◌, subst, drop, get_or, append_assoc}
use Rattle.std.proofs.lemmas.List.{drop_more}
use Rattle.ft_lower.specs.declared.step3.Step3.{Step3}
use Rattle.ft_lower.specs.Size.{size}
use Rattle.ft_lower.specs.Well.{is_last}
use Rattle.ft_flow.specs.declared.fault.Frame.{Frame}
use Rattle.ft_flow.specs.declared.fault.Rule.{Rule}
use Rattle.ft_flow.specs.Spares.{Set, spare_of, with_spare}
use Rattle.ft_flow.specs.Faults.{step_broken, at_step, next_set, fault_from, spared_from, HasWord, HaveWords}

-- what is left of a list begins with the next element
left_is : {A : Type 0} (xs : List A) (k : ℕ) (d x : A) → k < length xs → get_or xs k d ≡ x → drop k xs
    ≡ x ∷ drop (k + 1) xs
left_is xs k d x lt e = drop_more xs k d lt ∙ ap (λ y. y ∷ drop (k + 1) xs) e

-- an unbroken step's fault is that of the steps after it
pub fault_turn : (f : Frame) (unended : Bool) (set : Set) (used at : ℕ) (is : List Step3) (k : ℕ) (d i : Step3)
    (b : Bool) (s : Set) (z : ℕ) → k < length is → get_or is k d ≡ i → step_broken f set used i ≡ None →
    b ≡ is_last i → s ≡ next_set f.vars i set → z ≡ size i →
    fault_from f (not b) s (used + z) (at + 1) (drop (k + 1) is)
    ≡ fault_from f unended set used at (drop k is)
fault_turn f unended set used at is k d i b s z lt e none eb es ez =
    ap (λ b. fault_from f (not b) s (used + z) (at + 1) (drop (k + 1) is)) eb
    ∙ ap (λ s. fault_from f (not (is_last i)) s (used + z) (at + 1) (drop (k + 1) is)) es
    ∙ ap (λ z. fault_from f (not (is_last i)) (next_set f.vars i set) (used + z) (at + 1) (drop (k + 1) is)) ez
    ∙ ap (λ (r : Option Rule). at_step at r (fault_from f (not (is_last i)) (next_set f.vars i set) (used + size i)
    (at + 1) (drop (k + 1) is))) (sym none)
    ∙ ap (fault_from f unended set used at) (sym (left_is is k d i lt e))

-- the spared step is the next one of the spared row
pub spared_turn : (vars : ℕ) (set : Set) (out is new : List Step3) (k n : ℕ) (d i j : Step3) (s : Set) → k < length is →
    get_or is k d ≡ i → n ≡ spare_of set → j ≡ with_spare n i → s ≡ next_set vars i set → new ≡ out ++ j ∷ [] →
    new ++ spared_from vars s (drop (k + 1) is) ≡ out ++ spared_from vars set (drop k is)
spared_turn vars set out is new k n d i j s lt e en ej es added =
    ap (λ l. l ++ spared_from vars s (drop (k + 1) is)) added
    ∙ append_assoc out (j ∷ []) _
    ∙ ap (λ x. out ++ x ∷ spared_from vars s (drop (k + 1) is)) (ej ∙ ap (λ m. with_spare m i) en)
    ∙ ap (λ s. out ++ with_spare (spare_of set) i ∷ spared_from vars s (drop (k + 1) is)) es
    ∙ ap (λ l. out ++ spared_from vars set l) (sym (left_is is k d i lt e))

-- the next step's word is a word
pub words_turn : (is : List Step3) (k : ℕ) (d i : Step3) → k < length is → get_or is k d ≡ i → HasWord i →
    HaveWords (drop (k + 1) is) → HaveWords (drop k is)
words_turn is k d i lt e word h = subst HaveWords (sym (left_is is k d i lt e)) (word, h)

-- what is not `Some` is `None`
pub none_of : {A : Type 0} (o : Option A) → ((x : A) → o ≡ Some x → ⊥) → o ≡ None
none_of None h = refl
none_of (Some x) h = absurd (h x refl)
