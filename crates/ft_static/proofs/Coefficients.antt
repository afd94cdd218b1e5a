-- At each monomial, a sum has the sum of the coefficients, and a product the sum of the products of coefficients.
use Rattle.std.proofs.Common.{ℕ, ◌≡◌, ◌+◌, ◌*◌, ◌%◌, ◌^◌, ◌<◌, ◌≤◌, ◌==◌, refl, sym, ap, ◌∙◌, subst, arith, lit<}
use Rattle.std.proofs.Common.{zero-add}
use Rattle.std.proofs.Math.Nat.{mod-lt, mod-eq_of_lt, add-zero, add-mod-mod, mod-add-mod}
use Rattle.std.specs.declared.cmp.Ordering.{Ordering}
use Rattle.std.specs.declared.cmp.Ordering.TheVariants.{Less, Equal, Greater}
use Rattle.std.proofs.lemmas.Bool.{eqb-true}
use Rattle.std.proofs.lemmas.Cmp.{tied_itself}
use Rattle.ft_static.specs.Form.{factors, Monomial, Polynomial, nought, plus, cmp_monomial, Below, IsProperMonomial}
use Rattle.ft_static.specs.Form.{IsProper}
use Rattle.ft_static.specs.NormalForm.{join, degree, led_by, add_term, total, add_multiple, add_products}
use Rattle.ft_static.specs.Coefficient.{coefficient, share, share_of_multiple, share_of_products}
use Rattle.ft_static.proofs.Spelled.{cmp_monomial_total, monomial_equal}
use Rattle.ft_static.proofs.Cases.{by_cases, if_cases}
use Rattle.ft_static.proofs.Proper.{below_more, turned, proper_add_term, proper_join, factors_join, proper_multiple}

-- what follows from each result of a comparison holds
pub order_split : (G : Type 0) (o : Ordering) → (o ≡ Less → G) → (o ≡ Equal → G) → (o ≡ Greater → G) → G
order_split G Less f g h = f refl
order_split G Equal f g h = g refl
order_split G Greater f g h = h refl

-- a monomial below the first has the coefficient 0
coefficient_below : (k : Monomial) (p : Polynomial) → IsProper p → Below k p → coefficient k p ≡ 0
coefficient_below k nought w h = refl
coefficient_below k (plus n d p) w h = rw h (coefficient_below k p w.5 (below_more k n p h w.4))

-- a coefficient is a word
coefficient_is_word : (k : Monomial) (p : Polynomial) → IsProper p → coefficient k p < 2 ^ 64
coefficient_is_word k nought h = lit< tt
coefficient_is_word k (plus n d p) h = by_cases (λ t. t < 2 ^ 64) (cmp_monomial k n) (coefficient k p) d
    (coefficient k p) (λ e. coefficient_is_word k p h.5) (λ e. h.3) (λ e. coefficient_is_word k p h.5)

-- putting a term first adds its share to each coefficient
coefficient_led : (k m : Monomial) (c : ℕ) (p : Polynomial) → c < 2 ^ 64 → Below m p → IsProper p →
    coefficient k (led_by m c p) ≡ (share k m c + coefficient k p) % 2 ^ 64
coefficient_led k m c p l b w = if_cases (λ q. coefficient k q ≡ (share k m c + coefficient k p) % 2 ^ 64) (c == 0) p
    (plus m c p)
    (λ e. let z : c ≡ 0 = eqb-true c 0 e in let s : share k m c
    ≡ 0 = rw z (order_split _ (cmp_monomial k m) (λ o. rw o refl) (λ o. rw o refl) (λ o. rw o refl)) in
    rw (s, zero-add) (sym (mod-eq_of_lt (coefficient_is_word k p w))))
    (λ e. order_split _ (cmp_monomial k m)
    (λ o. rw (o, coefficient_below k p w (below_more k m p o b)) refl)
    (λ o. let h : k ≡ m = monomial_equal k m o in let z = coefficient_below k p w (subst (λ t. Below t p) (sym h) b) in
    rw (o, z, add-zero) (sym (mod-eq_of_lt l)))
    (λ o. rw (o, zero-add) (sym (mod-eq_of_lt (coefficient_is_word k p w)))))

-- adding a term adds its share to each coefficient
coefficient_add_term : (k m : Monomial) (c : ℕ) (p : Polynomial) → c < 2 ^ 64 → IsProper p →
    coefficient k (add_term m c p) ≡ (share k m c + coefficient k p) % 2 ^ 64
coefficient_add_term k m c nought l w = coefficient_led k m c nought l tt tt
coefficient_add_term k m c (plus n d p) l w = by_cases (λ q. coefficient k q
    ≡ (share k m c + coefficient k (plus n d p)) % 2 ^ 64) (cmp_monomial m n) (led_by m c (plus n d p))
    (led_by n ((c + d) % 2 ^ 64) p) (plus n d (add_term m c p))
    (λ e. coefficient_led k m c (plus n d p) l e w)
    (λ e. let h : m ≡ n = monomial_equal m n e in coefficient_led k n ((c + d) % 2 ^ 64) p (mod-lt _ (lit< tt)) w.4 w.5
    ∙ rw h (order_split _ (cmp_monomial k n)
    (λ o. rw (o, coefficient_below k p w.5 (below_more k n p o w.4)) refl)
    (λ o. let q : k ≡ n = monomial_equal k n o in let z = coefficient_below k p w.5 (subst (λ t. Below t p) (sym q) w.4)
    in rw (o, z, add-zero) (mod-eq_of_lt (mod-lt _ (lit< tt))))
    (λ o. rw o refl)))
    (λ e. let a : cmp_monomial n m ≡ Less = turned _ _ (cmp_monomial_total.antisymm n m) e in
    order_split _ (cmp_monomial k n)
    (λ o. rw o (coefficient_add_term k m c p l w.5))
    (λ o. let q : cmp_monomial k m ≡ Less = cmp_monomial_total.congr k n m o ∙ a in
    rw (o, q, zero-add) (sym (mod-eq_of_lt w.3)))
    (λ o. rw o (coefficient_add_term k m c p l w.5)))

-- each coefficient of a polynomial is the coefficient in the polynomial without its first term, plus that term's share
split_off : (k m : Monomial) (c : ℕ) (p : Polynomial) → IsProper (plus m c p) → coefficient k p + share k m c
    ≡ coefficient k (plus m c p)
split_off k m c p h = order_split _ (cmp_monomial k m)
    (λ o. rw (o, coefficient_below k p h.5 (below_more k m p o h.4)) refl)
    (λ o. let q : k ≡ m = monomial_equal k m o in let z = coefficient_below k p h.5 (subst (λ t. Below t p) (sym q) h.4)
    in rw (o, z) (omega arith))
    (λ o. rw o (omega arith))

-- the coefficient of a sum is the sum of the coefficients
pub coefficient_total : (k : Monomial) (p q : Polynomial) → IsProper p → IsProper q → coefficient k (total p q)
    ≡ (coefficient k p + coefficient k q) % 2 ^ 64
coefficient_total k nought q h w = rw zero-add (sym (mod-eq_of_lt (coefficient_is_word k q w)))
coefficient_total k (plus m c p) q h w = coefficient_total k p (add_term m c q) h.5
    (proper_add_term m c q h.0 h.1 h.3 w)
    ∙ (ap (λ t. (coefficient k p + t) % 2 ^ 64) (coefficient_add_term k m c q h.3 w)
    ∙ (add-mod-mod (coefficient k p) (share k m c + coefficient k q) (2 ^ 64)
    ∙ ap (λ t. t % 2 ^ 64) (let s : coefficient k p + share k m c ≡ coefficient k (plus m c p) = split_off k m c p h in
    omega arith)))

-- reducing a term's coefficient modulo 2^64 reduces its share in the same way
share_modulo : (k m : Monomial) (c : ℕ) → share k m (c % 2 ^ 64) ≡ share k m c % 2 ^ 64
share_modulo k m c = order_split _ (cmp_monomial k m) (λ o. rw o refl) (λ o. rw o refl) (λ o. rw o refl)

-- three numbers may be added in another order, modulo w
shares : (w x y z : ℕ) → (x + (y % w + z) % w) % w ≡ (y + x + z) % w
shares w x y z = rw (add-mod-mod x (y % w + z) w) (let e : x + (y % w + z) ≡ y % w + (x + z) = omega arith in
    rw (e, mod-add-mod y w (x + z)) (ap (λ t. t % w) (omega arith)))

-- likewise, with one fewer remainder
more_shares : (w x y z : ℕ) → (x + (y + z) % w) % w ≡ (y + x + z) % w
more_shares w x y z = rw (add-mod-mod x (y + z) w) (ap (λ t. t % w) (omega arith))

-- adding the products with one term adds their shares to each coefficient
coefficient_multiple : (k m : Monomial) (c : ℕ) (q r : Polynomial) → IsProperMonomial m → factors m + degree q ≤ 4 →
    IsProper q → IsProper r → coefficient k (add_multiple m c q r)
    ≡ (share_of_multiple k m c q + coefficient k r) % 2 ^ 64
coefficient_multiple k m c nought r h f w v = rw zero-add (sym (mod-eq_of_lt (coefficient_is_word k r v)))
coefficient_multiple k m c (plus n d q) r h f w v =
    let e = factors_join m n in
    let j = proper_join m n h w.0 in
    let l : factors (join m n) ≤ 4 = omega arith in
    let word : (c * d) % 2 ^ 64 < 2 ^ 64 = mod-lt _ (lit< tt) in
    coefficient_multiple k m c q (add_term (join m n) ((c * d) % 2 ^ 64) r) h (omega arith) w.5
    (proper_add_term (join m n) ((c * d) % 2 ^ 64) r j l word v)
    ∙ (ap (λ t. (share_of_multiple k m c q + t) % 2 ^ 64) (coefficient_add_term k (join m n) ((c * d) % 2 ^ 64) r word v
    ∙ ap (λ t. (t + coefficient k r) % 2 ^ 64) (share_modulo k (join m n) (c * d)))
    ∙ shares (2 ^ 64) (share_of_multiple k m c q) (share k (join m n) (c * d)) (coefficient k r))

-- adding all products adds their shares to each coefficient
coefficient_onto : (k : Monomial) (p q r : Polynomial) → degree p + degree q ≤ 4 → IsProper p → IsProper q →
    IsProper r → coefficient k (add_products p q r) ≡ (share_of_products k p q + coefficient k r) % 2 ^ 64
coefficient_onto k nought q r f h w v = rw zero-add (sym (mod-eq_of_lt (coefficient_is_word k r v)))
coefficient_onto k (plus m c p) q r f h w v =
    coefficient_onto k p q (add_multiple m c q r) (omega arith) h.5 w (proper_multiple m c q r h.0 (omega arith) w v)
    ∙ (ap (λ t. (share_of_products k p q + t) % 2 ^ 64) (coefficient_multiple k m c q r h.0 (omega arith) w v)
    ∙ more_shares (2 ^ 64) (share_of_products k p q) (share_of_multiple k m c q) (coefficient k r))

-- the coefficient of a product is the sum of the products of coefficients
pub coefficient_products : (k : Monomial) (p q : Polynomial) → degree p + degree q ≤ 4 → IsProper p → IsProper q →
    coefficient k (add_products p q nought) ≡ share_of_products k p q % 2 ^ 64
coefficient_products k p q f h w = coefficient_onto k p q nought f h w tt
    ∙ ap (λ t. t % 2 ^ 64) (add-zero (share_of_products k p q))

-- forms in order with the same coefficients are the same
pub same_coefficients : (p q : Polynomial) → IsProper p → IsProper q →
    ((k : Monomial) → coefficient k p ≡ coefficient k q) → p ≡ q
same_coefficients nought nought h w e = refl
same_coefficients nought (plus n d q) h w e = let x = e n in let y : coefficient n (plus n d q)
    ≡ d = rw (tied_itself cmp_monomial_total n) refl in absurd (omega (arith, w.2))
same_coefficients (plus m c p) nought h w e = let x = e m in let y : coefficient m (plus m c p)
    ≡ c = rw (tied_itself cmp_monomial_total m) refl in absurd (omega (arith, h.2))
same_coefficients (plus m c p) (plus n d q) h w e =
    let x : c ≡ coefficient m (plus n d q) = sym (rw (tied_itself cmp_monomial_total m) refl) ∙ e m in
    let y : coefficient n (plus m c p) ≡ d = e n ∙ rw (tied_itself cmp_monomial_total n) refl in
    order_split _ (cmp_monomial m n)
    (λ o. let z : coefficient m (plus n d q) ≡ 0 = coefficient_below m (plus n d q) w o in absurd (omega (arith, h.2)))
    (λ o. let t : m ≡ n = monomial_equal m n o in
    let u : c ≡ d = x ∙ rw o refl in
    let r : p ≡ q = same_coefficients p q h.5 w.5 (λ k. order_split _ (cmp_monomial k m)
    (λ a. coefficient_below k p h.5 (below_more k m p a h.4)
    ∙ sym (coefficient_below k q w.5 (below_more k n q (ap (cmp_monomial k) (sym t) ∙ a) w.4)))
    (λ a. let b : k ≡ m = monomial_equal k m a in coefficient_below k p h.5 (subst (λ z. Below z p) (sym b) h.4)
    ∙ sym (coefficient_below k q w.5 (subst (λ z. Below z q) (sym (b ∙ t)) w.4)))
    (λ a. let f : coefficient k (plus m c p) ≡ coefficient k p = rw a refl in let g : coefficient k (plus n d q)
    ≡ coefficient k q = rw (ap (cmp_monomial k) (sym t) ∙ a) refl in sym f ∙ (e k ∙ g))) in
    cc)
    (λ o. let a : cmp_monomial n m ≡ Less = turned _ _ (cmp_monomial_total.antisymm n m) o in
    let z : coefficient n (plus m c p) ≡ 0 = coefficient_below n (plus m c p) h a in absurd (omega (arith, w.2)))
