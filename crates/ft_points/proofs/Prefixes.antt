-- Prefixes of lists of outputs: the longer of two.
use Rattle.std.proofs.Common.{◌≡◌, ℕ, zero, suc, ◌-◌, ◌≤◌, List, [], ◌∷◌, ◌++◌, length, refl, sym, ap, ◌∙◌, subst}
use Rattle.std.proofs.Common.{arith}
use Rattle.std.proofs.Common.{append-nil, append_assoc, length-append}
use Rattle.std.specs.Prelude.{drop}
use Rattle.std.proofs.Math.Nat.{sub-zero}
use Rattle.std.proofs.Math.Seq.{drop-append_seam}
use Rattle.ft_isa.specs.declared.output.Output.{Output}
use Rattle.ft_semantics.specs.Agrees.{IsPrefix}

-- the outputs of the second list beyond as many as the first has, after the first
abbrev pub longer : List Output → List Output → List Output
longer a b = a ++ drop (length a) b

-- nothing is left of no outputs
drop_none : (n : ℕ) → ◌≡◌ {A = List Output} (drop n []) []
drop_none zero = refl
drop_none (suc n) = refl

-- a prefix begins with the same output, and the rest of it is a prefix of the rest
tail_prefix : (x z : Output) (a c : List Output) → IsPrefix (x ∷ a) (z ∷ c) → (x ≡ z) × IsPrefix a c
tail_prefix x z a c (rest, e) = (let one : x ≡ z = cc in let two : a ++ rest ≡ c = cc in (one, (rest, two)))

-- a prefix stays one with the same output before both
more_prefix : (x z : Output) (a c : List Output) → x ≡ z → IsPrefix a c → IsPrefix (x ∷ a) (z ∷ c)
more_prefix x z a c e h = (h.0, λ i. e i ∷ h.1 i)

-- if two lists are prefixes of a third, so is the longer of them
pub longer_prefix : (a b c : List Output) → IsPrefix a c → IsPrefix b c → IsPrefix (longer a b) c
longer_prefix [] b c h k = k
longer_prefix (x ∷ a) [] c h k = subst (λ l. IsPrefix l c) (sym (append-nil (x ∷ a))) h
longer_prefix (x ∷ a) (y ∷ b) [] h k = let e = h.1 in cc
longer_prefix (x ∷ a) (y ∷ b) (z ∷ c) h k =
    let p = tail_prefix x z a c h in
    let q = tail_prefix y z b c k in
    more_prefix x z (longer a b) c p.0 (longer_prefix a b c p.1 q.1)

-- and the second is a prefix of it
pub within_longer : (a b c : List Output) → IsPrefix a c → IsPrefix b c → IsPrefix b (longer a b)
within_longer [] b c h k = ([], append-nil b)
within_longer (x ∷ a) [] c h k = ((x ∷ a) ++ [], refl)
within_longer (x ∷ a) (y ∷ b) [] h k = let e = h.1 in cc
within_longer (x ∷ a) (y ∷ b) (z ∷ c) h k =
    let p = tail_prefix x z a c h in
    let q = tail_prefix y z b c k in
    more_prefix y x b (longer a b) (q.0 ∙ sym p.0) (within_longer a b c p.1 q.1)

-- the longer of a prefix and the whole is the whole
pub longer_whole : (a c : List Output) → IsPrefix a c → longer a c ≡ c
longer_whole a c h = ap (λ l. a ++ drop (length a) l) (sym h.1) ∙ ap (λ l. a ++ l) (drop-append_seam a h.0) ∙ h.1

-- prefixes compose
pub prefix_on : (a b c : List Output) → IsPrefix a b → IsPrefix b c → IsPrefix a c
prefix_on a b c h k = (h.0 ++ k.0, sym (append_assoc a h.0 k.0) ∙ ap (λ l. l ++ k.0) h.1 ∙ k.1)

-- a prefix with the same list before both
pub after_same : (f a b : List Output) → IsPrefix a b → IsPrefix (f ++ a) (f ++ b)
after_same f a b h = (h.0, append_assoc f a h.0 ∙ ap (λ l. f ++ l) h.1)

-- leaving out at least as many as the first list has
drop_past : (n : ℕ) (xs ys : List Output) → length xs ≤ n → drop n (xs ++ ys) ≡ drop (n - length xs) ys
drop_past n [] ys le = ap (λ k. drop k ys) (sym (sub-zero n))
drop_past zero (x ∷ xs) ys le = absurd (omega (arith, le))
drop_past (suc n) (x ∷ xs) ys le =
    drop_past n xs ys (omega (arith, le))
    ∙ ap (λ k. drop k ys) (let e : n - length xs ≡ suc n - suc (length xs) = omega arith in e)

-- a prefix is no longer than the whole
prefix_length : (a b : List Output) → IsPrefix a b → length a ≤ length b
prefix_length a b h = let l = length-append a h.0 in let e = ap (λ x. length x) h.1 in omega (arith, l, e)

-- what is left out after a front that both lists have
pub longer_after : (f a b : List Output) → IsPrefix f a → longer a (f ++ b) ≡ a ++ drop (length a - length f) b
longer_after f a b h = ap (λ l. a ++ l) (drop_past (length a) f b (prefix_length f a h))
