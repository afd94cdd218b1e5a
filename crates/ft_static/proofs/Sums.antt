-- Sums and products of polynomials denote sums and products.
use Rattle.std.proofs.Common.{ℕ, ◌≡◌, ◌+◌, ◌*◌, ◌%◌, ◌^◌, ◌<◌, ◌==◌, refl, sym, ap, ◌∙◌, arith, lit<, zero-add, ◌&&◌}
use Rattle.std.proofs.Common.{nat_le}
use Rattle.std.proofs.Math.Nat.{add-mod-mod, mod-add-mod, mod-lt, mod-eq_of_lt, mod-mod, mul-add, add-mul}
use Rattle.std.proofs.Math.Nat.{zero-mul, mul-zero, one-mul, mul-one, add-zero}
use Rattle.std.proofs.lemmas.Bool.{eqb-true}
use Rattle.std.proofs.lemmas.Nat.{mul-mod_first, mul-mod_second}
use Rattle.ft_isa.specs.declared.op.Op.TheVariants.{Add, Mul}
use Rattle.ft_isa.specs.Words.{apply, IsWord}
use Rattle.ft_static.specs.Expression.{word_at, Valuation, IsLawful}
use Rattle.ft_static.specs.Form.{terms, Atom, Monomial, Polynomial, Updates, operation_atom, one, times, nought, plus}
use Rattle.ft_static.specs.Form.{unchanged, update, cmp_atom, cmp_monomial, value_atom, value_monomial}
use Rattle.ft_static.specs.Form.{value_polynomial, value_updates}
use Rattle.ft_static.specs.NormalForm.{with_factor, join, led_by, add_term, total, add_multiple, add_products, degree}
use Rattle.ft_static.specs.NormalForm.{alone, norm_add, norm_mul}
use Rattle.ft_static.proofs.Cases.{by_cases, if_cases}
use Rattle.ft_static.proofs.Words.{with_word_is_word}
use Rattle.ft_static.proofs.Spelled.{monomial_equal}

-- adding 0 modulo w leaves a number below w unchanged
led : (w x : ℕ) → x < w → x ≡ (0 + x) % w
led w x h = rw zero-add (sym (mod-eq_of_lt h))

-- three numbers may be added in another order, modulo w
swap_sums : (w x y z : ℕ) → (y + (x + z) % w) % w ≡ (x + (y + z) % w) % w
swap_sums w x y z = rw (add-mod-mod, add-mod-mod) (ap (λ t. t % w) (omega arith))

-- merging two terms of the same monomial keeps the sum, modulo w
merged : (w c d x y : ℕ) → ((c + d) % w * x + y) % w ≡ (c * x + (d * x + y) % w) % w
merged w c d x y = let e : ((c + d) % w * x + y) % w ≡ ((c + d) * x + y) % w = sym (mod-add-mod ((c + d) % w * x) w y)
    ∙ ap (λ t. (t + y) % w) (mul-mod_first (c + d) x w) ∙ mod-add-mod ((c + d) * x) w y in
    e ∙ rw (add-mod-mod, add-mul) (ap (λ t. t % w) (omega arith))

-- three numbers may be multiplied in another order, modulo w
swap_products : (w x y z : ℕ) → (y * ((x * z) % w)) % w ≡ (x * ((y * z) % w)) % w
swap_products w x y z = rw (mul-mod_second, mul-mod_second) (ap (λ t. t % w) (grind arith))

-- a sum of three numbers may be regrouped, modulo w
onto_sums : (w x y z : ℕ) → (y + (x + z) % w) % w ≡ ((x + y) % w + z) % w
onto_sums w x y z = rw (add-mod-mod, mod-add-mod) (ap (λ t. t % w) (omega arith))

-- a product of three numbers may be regrouped, modulo w
onto_products : (w x y z : ℕ) → (y * ((x * z) % w)) % w ≡ ((x * y) % w * z) % w
onto_products w x y z = rw (mul-mod_second, mul-mod_first) (ap (λ t. t % w) (grind arith))

-- c x z + (c d) (x y) + q is (c x) (d y + z) + q, modulo w
multiple_more : (w c d x y z q : ℕ) → (c * x * z + ((c * d) % w * ((x * y) % w) + q) % w) % w
    ≡ (c * x * ((d * y + z) % w) + q) % w
multiple_more w c d x y z q =
    let left : ((c * d) % w * ((x * y) % w)) % w ≡ (c * d * (x * y)) % w = mul-mod_first (c * d) ((x * y) % w) w
    ∙ mul-mod_second (c * d) (x * y) w in
    let right : (c * x * ((d * y + z) % w)) % w ≡ (c * x * (d * y + z)) % w = mul-mod_second (c * x) (d * y + z) w in
    let sums : c * x * z + (c * d * (x * y) + q) ≡ c * x * (d * y + z) + q = rw mul-add (grind arith) in
    ap (λ t. (c * x * z + t) % w) (sym (mod-add-mod ((c * d) % w * ((x * y) % w)) w q)
    ∙ (ap (λ t. (t + q) % w) left ∙ mod-add-mod (c * d * (x * y)) w q))
    ∙ (add-mod-mod (c * x * z) (c * d * (x * y) + q) w
    ∙ (ap (λ t. t % w) sums
    ∙ (sym (mod-add-mod (c * x * (d * y + z)) w q)
    ∙ (ap (λ t. (t + q) % w) (sym right)
    ∙ mod-add-mod (c * x * ((d * y + z) % w)) w q))))

-- p q + (c x q + r) is (c x + p) q + r, modulo w
product_more : (w c x p q r : ℕ) → (p * q + (c * x * q + r) % w) % w ≡ ((c * x + p) % w * q + r) % w
product_more w c x p q r =
    let right : ((c * x + p) % w * q) % w ≡ ((c * x + p) * q) % w = mul-mod_first (c * x + p) q w in
    let sums : p * q + (c * x * q + r) ≡ (c * x + p) * q + r = rw add-mul (grind arith) in
    add-mod-mod (p * q) (c * x * q + r) w
    ∙ (ap (λ t. t % w) sums
    ∙ (sym (mod-add-mod ((c * x + p) * q) w r)
    ∙ (ap (λ t. (t + r) % w) (sym right)
    ∙ mod-add-mod ((c * x + p) % w * q) w r)))

-- a polynomial denotes a word
pub value_polynomial_is_word : (p : Polynomial) (s : Valuation) → value_polynomial p s < 2 ^ 64
value_polynomial_is_word nought s = lit< tt
value_polynomial_is_word (plus m c p) s = mod-lt _ (lit< tt)

-- likewise for a monomial
pub value_monomial_is_word : (m : Monomial) (s : Valuation) → value_monomial m s < 2 ^ 64
value_monomial_is_word one s = lit< tt
value_monomial_is_word (times a m) s = mod-lt _ (lit< tt)

-- a memory form denotes words
pub value_updates_are_words : (u : Updates) (s : Valuation) → IsLawful s → (x : ℕ) →
    IsWord (word_at (value_updates u s) x)
value_updates_are_words unchanged s lawful x = lawful.memory x
value_updates_are_words (update p v u) s lawful x = with_word_is_word (value_updates u s) (value_polynomial p s)
    (value_polynomial v s) x (value_polynomial_is_word v s) (value_updates_are_words u s lawful x)

-- putting a term first adds the term's value
value_led : (m : Monomial) (c : ℕ) (p : Polynomial) (s : Valuation) → value_polynomial (led_by m c p) s
    ≡ (c * value_monomial m s + value_polynomial p s) % 2 ^ 64
value_led m c p s = if_cases (λ q. value_polynomial q s ≡ (c * value_monomial m s + value_polynomial p s) % 2 ^ 64)
    (c == 0) _ _
    (λ e. rw (eqb-true c 0 e, zero-mul) (led (2 ^ 64) (value_polynomial p s) (value_polynomial_is_word p s)))
    (λ e. refl)

-- adding a term adds the term's value
pub value_add_term : (m : Monomial) (c : ℕ) (p : Polynomial) (s : Valuation) → value_polynomial (add_term m c p) s
    ≡ (c * value_monomial m s + value_polynomial p s) % 2 ^ 64
value_add_term m c nought s = value_led m c nought s
value_add_term m c (plus n d p) s = by_cases (λ q. value_polynomial q s
    ≡ (c * value_monomial m s + value_polynomial (plus n d p) s) % 2 ^ 64) (cmp_monomial m n) _ _ _
    (λ e. value_led m c (plus n d p) s)
    (λ e. rw (monomial_equal m n e) (value_led n _ p s
    ∙ merged (2 ^ 64) c d (value_monomial n s) (value_polynomial p s)))
    (λ e. ap (λ t. (d * value_monomial n s + t) % 2 ^ 64) (value_add_term m c p s)
    ∙ swap_sums (2 ^ 64) (c * value_monomial m s) (d * value_monomial n s) (value_polynomial p s))

-- the sum, monomial by monomial, denotes the sum
pub value_total : (p q : Polynomial) (s : Valuation) → value_polynomial (total p q) s
    ≡ (value_polynomial p s + value_polynomial q s) % 2 ^ 64
value_total nought q s = led (2 ^ 64) (value_polynomial q s) (value_polynomial_is_word q s)
value_total (plus m c p) q s = value_total p (add_term m c q) s
    ∙ (ap (λ t. (value_polynomial p s + t) % 2 ^ 64) (value_add_term m c q s)
    ∙ onto_sums (2 ^ 64) (c * value_monomial m s) (value_polynomial p s) (value_polynomial q s))

-- the polynomial of a single atom denotes the atom's value, if that is a word
pub value_alone : (a : Atom) (s : Valuation) → value_atom a s < 2 ^ 64 → value_polynomial (alone a) s ≡ value_atom a s
value_alone a s h = simp (mul-one, one-mul, add-zero, mod-mod) (mod-eq_of_lt h)

-- the form of add denotes the sum
pub value_add : (p q : Polynomial) (s : Valuation) (lawful : IsLawful s) → value_polynomial (norm_add p q) s
    ≡ apply Add (value_polynomial p s) (value_polynomial q s)
unfolding apply
value_add p q s lawful = if_cases (λ t. value_polynomial t s ≡ apply Add (value_polynomial p s) (value_polynomial q s))
    (nat_le (terms (total p q)) 64) _ _
    (λ e. value_total p q s)
    (λ e. value_alone (operation_atom Add p q) s (mod-lt _ (lit< tt)))

-- inserting an atom multiplies a monomial's value by the atom's
pub value_with_factor : (a : Atom) (m : Monomial) (s : Valuation) → value_monomial (with_factor a m) s
    ≡ (value_atom a s * value_monomial m s) % 2 ^ 64
value_with_factor a one s = refl
value_with_factor a (times b m) s = by_cases (λ n. value_monomial n s
    ≡ (value_atom a s * value_monomial (times b m) s) % 2 ^ 64) (cmp_atom a b) _ _ _
    (λ e. refl)
    (λ e. refl)
    (λ e. ap (λ t. (value_atom b s * t) % 2 ^ 64) (value_with_factor a m s)
    ∙ swap_products (2 ^ 64) (value_atom a s) (value_atom b s) (value_monomial m s))

-- the product of monomials denotes the product
pub value_join : (m n : Monomial) (s : Valuation) → value_monomial (join m n) s
    ≡ (value_monomial m s * value_monomial n s) % 2 ^ 64
value_join one n s = rw one-mul (sym (mod-eq_of_lt (value_monomial_is_word n s)))
value_join (times a m) n s = value_join m (with_factor a n) s
    ∙ (ap (λ t. (value_monomial m s * t) % 2 ^ 64) (value_with_factor a n s)
    ∙ onto_products (2 ^ 64) (value_atom a s) (value_monomial m s) (value_monomial n s))

-- adding the products with one term adds the product of the two values
value_add_multiple : (m : Monomial) (c : ℕ) (p q : Polynomial) (s : Valuation) →
    value_polynomial (add_multiple m c p q) s ≡ (c * value_monomial m s * value_polynomial p s + value_polynomial q s) %
    2 ^ 64
value_add_multiple m c nought q s = rw mul-zero (led (2 ^ 64) (value_polynomial q s) (value_polynomial_is_word q s))
value_add_multiple m c (plus n d p) q s = value_add_multiple m c p (add_term (join m n) ((c * d) % 2 ^ 64) q) s
    ∙ (ap (λ t. (c * value_monomial m s * value_polynomial p s + t) % 2 ^ 64)
    (value_add_term (join m n) ((c * d) % 2 ^ 64) q s
    ∙ ap (λ t. ((c * d) % 2 ^ 64 * t + value_polynomial q s) % 2 ^ 64) (value_join m n s))
    ∙ multiple_more (2 ^ 64) c d (value_monomial m s) (value_monomial n s) (value_polynomial p s)
    (value_polynomial q s))

-- adding all products adds the product of the two values
value_products : (p q r : Polynomial) (s : Valuation) → value_polynomial (add_products p q r) s
    ≡ (value_polynomial p s * value_polynomial q s + value_polynomial r s) % 2 ^ 64
value_products nought q r s = rw zero-mul (led (2 ^ 64) (value_polynomial r s) (value_polynomial_is_word r s))
value_products (plus m c p) q r s = value_products p q (add_multiple m c q r) s
    ∙ (ap (λ t. (value_polynomial p s * value_polynomial q s + t) % 2 ^ 64) (value_add_multiple m c q r s)
    ∙ product_more (2 ^ 64) c (value_monomial m s) (value_polynomial p s) (value_polynomial q s) (value_polynomial r s))

-- the form of mul denotes the product
pub value_mul : (p q : Polynomial) (s : Valuation) (lawful : IsLawful s) → value_polynomial (norm_mul p q) s
    ≡ apply Mul (value_polynomial p s) (value_polynomial q s)
unfolding apply
value_mul p q s lawful = if_cases (λ t. value_polynomial t s ≡ apply Mul (value_polynomial p s) (value_polynomial q s))
    (nat_le (terms p * terms q) 64 && nat_le (degree p + degree q) 4) _ _
    (λ e. value_products p q nought s ∙ rw add-zero refl)
    (λ e. value_alone (operation_atom Mul p q) s (mod-lt _ (lit< tt)))
