-- Terms may be added in any order, and to either operand of a sum or a product.
use Rattle.std.proofs.Common.{ℕ, ◌≡◌, ◌+◌, ◌*◌, ◌-◌, ◌%◌, ◌^◌, ◌<◌, refl, sym, ap, ◌∙◌, arith, lit<}
use Rattle.std.proofs.Math.Nat.{mod-lt}
use Rattle.ft_static.specs.Coefficient.{share}
use Rattle.ft_static.specs.Form.{Monomial, Polynomial, nought}
use Rattle.ft_static.specs.NormalForm.{add_multiple, add_products, add_term, join, negation, total}
use Rattle.ft_norm.proofs.Weights.{Rises, known, mods_both, rises_add, rises_multiple, rises_negation, rises_products}
use Rattle.ft_norm.proofs.Weights.{rises_total, share_linear, terms_linear, times_linear, times_term, times_terms}
use Rattle.ft_norm.proofs.Weights.{weigh, weigh_add, weigh_multiple, share_negation, weigh_negation, weigh_products}
use Rattle.ft_norm.proofs.Weights.{weigh_total}

-- two terms may be added in either order
pub add_swap : (m n : Monomial) (c d : ℕ) (p : Polynomial) → c < 2 ^ 64 → d < 2 ^ 64 → Rises p →
    add_term m c (add_term n d p) ≡ add_term n d (add_term m c p)
add_swap m n c d p l r w = known (add_term m c (add_term n d p)) (add_term n d (add_term m c p))
    (rises_add m c (add_term n d p) l (rises_add n d p r w)) (rises_add n d (add_term m c p) r (rises_add m c p l w))
    (λ k.
    let s = share_linear k in
    let f = share k in
    (weigh_add f s m c (add_term n d p) ∙ mods_both (f m c) (f m c) (weigh f (add_term n d p)) (f n d + weigh f p) refl
    (weigh_add f s n d p))
    ∙ (ap (λ t. t % 2 ^ 64) (let e : f m c + (f n d + weigh f p) ≡ f n d + (f m c + weigh f p) = omega arith in e)
    ∙ sym (weigh_add f s n d (add_term m c p) ∙ mods_both (f n d) (f n d) (weigh f (add_term m c p)) (f m c + weigh f p)
    refl (weigh_add f s m c p))))

-- two terms with the same monomial may be added as one
pub add_merge : (m : Monomial) (c d : ℕ) (p : Polynomial) → c < 2 ^ 64 → d < 2 ^ 64 → Rises p →
    add_term m ((c + d) % 2 ^ 64) p ≡ add_term m c (add_term m d p)
add_merge m c d p l r w = known (add_term m ((c + d) % 2 ^ 64) p) (add_term m c (add_term m d p))
    (rises_add m ((c + d) % 2 ^ 64) p (mod-lt _ (lit< tt)) w) (rises_add m c (add_term m d p) l (rises_add m d p r w))
    (λ k.
    let s = share_linear k in
    let f = share k in
    (weigh_add f s m ((c + d) % 2 ^ 64) p ∙ mods_both (f m ((c + d) % 2 ^ 64)) (f m c + f m d) (weigh f p) (weigh f p)
    (s.sum m c d) refl)
    ∙ (ap (λ t. t % 2 ^ 64) (let e : f m c + f m d + weigh f p ≡ f m c + (f m d + weigh f p) = omega arith in e)
    ∙ sym (weigh_add f s m c (add_term m d p) ∙ mods_both (f m c) (f m c) (weigh f (add_term m d p)) (f m d + weigh f p)
    refl (weigh_add f s m d p))))

-- adding a term with the coefficient 0 changes nothing
pub add_none : (m : Monomial) (p : Polynomial) → Rises p → add_term m 0 p ≡ p
add_none m p w = known (add_term m 0 p) p (rises_add m 0 p (lit< tt) w) w
    (λ k. let s = share_linear k in weigh_add (share k) s m 0 p
    ∙ (mods_both (share k m 0) 0 (weigh (share k) p) (weigh (share k) p) (s.none m) refl
    ∙ ap (λ t. t % 2 ^ 64) (let e : 0 + weigh (share k) p ≡ weigh (share k) p = omega arith in e)))

-- a term may be added to either operand of a sum
pub total_add : (m : Monomial) (c : ℕ) (p q : Polynomial) → c < 2 ^ 64 → Rises p → Rises q → total (add_term m c p) q
    ≡ total p (add_term m c q)
total_add m c p q l w v = known (total (add_term m c p) q) (total p (add_term m c q))
    (rises_total (add_term m c p) q (rises_add m c p l w) v) (rises_total p (add_term m c q) w (rises_add m c q l v))
    (λ k.
    let s = share_linear k in
    let f = share k in
    (weigh_total f s (add_term m c p) q ∙ mods_both (weigh f (add_term m c p)) (f m c + weigh f p) (weigh f q)
    (weigh f q) (weigh_add f s m c p) refl)
    ∙ (ap (λ t. t % 2 ^ 64) (let e : f m c + weigh f p + weigh f q ≡ weigh f p + (f m c + weigh f q) = omega arith in e)
    ∙ sym (weigh_total f s p (add_term m c q) ∙ mods_both (weigh f p) (weigh f p) (weigh f (add_term m c q))
    (f m c + weigh f q) refl (weigh_add f s m c q))))

-- adding the zero polynomial changes nothing
pub total_none : (p : Polynomial) → Rises p → total p nought ≡ p
total_none p w = known (total p nought) p (rises_total p nought w tt) w
    (λ k. weigh_total (share k) (share_linear k) p nought
    ∙ ap (λ t. t % 2 ^ 64) (let e : weigh (share k) p + 0 ≡ weigh (share k) p = omega arith in e))

-- adding a term to the second factor adds the product of both terms to the sum
pub multiple_add : (m n : Monomial) (c d : ℕ) (q r : Polynomial) → d < 2 ^ 64 → Rises r →
    add_multiple m c (add_term n d q) r ≡ add_multiple m c q (add_term (join m n) ((c * d) % 2 ^ 64) r)
multiple_add m n c d q r l v = known (add_multiple m c (add_term n d q) r)
    (add_multiple m c q (add_term (join m n) ((c * d) % 2 ^ 64) r))
    (rises_multiple m c (add_term n d q) r v) (rises_multiple m c q (add_term (join m n) ((c * d) % 2 ^ 64) r)
    (rises_add (join m n) ((c * d) % 2 ^ 64) r (mod-lt _ (lit< tt)) v))
    (λ k.
    let s = share_linear k in
    let f = share k in
    let g = times_term f m c in
    let z = f (join m n) ((c * d) % 2 ^ 64) in
    (weigh_multiple f s m c (add_term n d q) r ∙ mods_both (times_terms f (add_term n d q) m c)
    (z + times_terms f q m c) (weigh f r) (weigh f r) (weigh_add g (times_linear f s m c) n d q) refl)
    ∙ (ap (λ t. t % 2 ^ 64) (let e : z + times_terms f q m c + weigh f r ≡ times_terms f q m c + (z + weigh f r) =
    omega arith in e)
    ∙ sym (weigh_multiple f s m c q (add_term (join m n) ((c * d) % 2 ^ 64) r)
    ∙ mods_both (times_terms f q m c) (times_terms f q m c) (weigh f (add_term (join m n) ((c * d) % 2 ^ 64) r))
    (z + weigh f r) refl (weigh_add f s (join m n) ((c * d) % 2 ^ 64) r))))

-- adding a term to the first factor adds its products with the second factor to the sum
pub products_add : (m : Monomial) (c : ℕ) (p q r : Polynomial) → Rises r → add_products (add_term m c p) q r
    ≡ add_products p q (add_multiple m c q r)
products_add m c p q r v = known (add_products (add_term m c p) q r) (add_products p q (add_multiple m c q r))
    (rises_products (add_term m c p) q r v) (rises_products p q (add_multiple m c q r) (rises_multiple m c q r v))
    (λ k.
    let s = share_linear k in
    let f = share k in
    let g = times_terms f q in
    (weigh_products f s (add_term m c p) q r ∙ mods_both (weigh g (add_term m c p)) (g m c + weigh g p) (weigh f r)
    (weigh f r) (weigh_add g (terms_linear f s q) m c p) refl)
    ∙ (ap (λ t. t % 2 ^ 64) (let e : g m c + weigh g p + weigh f r ≡ weigh g p + (g m c + weigh f r) = omega arith in e)
    ∙ sym (weigh_products f s p q (add_multiple m c q r)
    ∙ mods_both (weigh g p) (weigh g p) (weigh f (add_multiple m c q r)) (g m c + weigh f r) refl
    (weigh_multiple f s m c q r))))

-- negating the sum of a polynomial and a term negates both
pub negation_add : (m : Monomial) (c : ℕ) (p : Polynomial) → c < 2 ^ 64 → Rises p → negation (add_term m c p)
    ≡ add_term m ((2 ^ 64 - c % 2 ^ 64) % 2 ^ 64) (negation p)
negation_add m c p l w = known (negation (add_term m c p)) (add_term m ((2 ^ 64 - c % 2 ^ 64) % 2 ^ 64) (negation p))
    (rises_negation (add_term m c p) (rises_add m c p l w))
    (rises_add m ((2 ^ 64 - c % 2 ^ 64) % 2 ^ 64) (negation p) (mod-lt _ (lit< tt)) (rises_negation p w))
    (λ k.
    let s = share_linear k in
    let f = share k in
    let b = (2 ^ 64 - c % 2 ^ 64) % 2 ^ 64 in
    opposite (weigh f (negation (add_term m c p))) (weigh f (add_term m b (negation p))) (weigh f (add_term m c p))
    (weigh_negation k (add_term m c p))
    (mods_both (weigh f (add_term m b (negation p))) (f m b + weigh f (negation p)) (weigh f (add_term m c p))
    (f m c + weigh f p) (weigh_add f s m b (negation p)) (weigh_add f s m c p)
    ∙ (ap (λ t. t % 2 ^ 64) (let e : f m b + weigh f (negation p) + (f m c + weigh f p)
    ≡ (f m b + f m c) + (weigh f (negation p) + weigh f p) = omega arith in e)
    ∙ mods_both (f m b + f m c) 0 (weigh f (negation p) + weigh f p) 0 (share_negation k m c) (weigh_negation k p))))
  where
    opposite : (x y z : ℕ) → (x + z) % 2 ^ 64 ≡ 0 → (y + z) % 2 ^ 64 ≡ 0 → x % 2 ^ 64 ≡ y % 2 ^ 64
    opposite x y z e f = omega (arith, e, f)
