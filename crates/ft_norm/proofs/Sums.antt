-- The polynomial of terms after a term is inserted, changed, removed, copied or negated.
use Rattle.std.proofs.Common.{ℕ, suc, zero, ◌≡◌, ◌+◌, ◌*◌, ◌%◌, ◌^◌, ◌<◌, ◌≤◌, List, [], ◌∷◌, ◌++◌, length, get_or}
use Rattle.std.proofs.Common.{refl, sym, ap, ◌∙◌, arith, take, drop, add-one, set, map, max, drop-cons}
use Rattle.std.proofs.Math.Seq.{take-append_seam}
use Rattle.std.proofs.lemmas.List.{length-set, map-append, take_more}
use Rattle.std.specs.List.{refill}
use Rattle.ft_static.specs.Form.{Form, Monomial, Polynomial}
use Rattle.ft_static.specs.NormalForm.{add_multiple, add_products, add_term, join, negation, total}
use Rattle.ft_norm.specs.declared.entry.Term.{Term}
use Rattle.ft_norm.specs.Entries.{monomial_form, polynomial_form, reach_of_atoms, reach_of_terms}
use Rattle.ft_norm.specs.Orders.{AreTerms}
use Rattle.ft_norm.specs.Terms.{negated_term}
use Rattle.ft_norm.proofs.Adding.{add_merge, add_none, add_swap, multiple_add, negation_add, products_add, total_add}
use Rattle.ft_norm.proofs.Ordered.{term_word, terms_drop}
use Rattle.ft_norm.proofs.Weights.{Rises, rises_add}

-- the polynomial of terms is in increasing order
pub form_rises : (fs : List Form) (ts : List Term) → AreTerms ts → Rises (polynomial_form fs ts)
form_rises fs [] h = tt
form_rises fs (t ∷ ts) h = rises_add (monomial_form fs t.atoms) t.coefficient (polynomial_form fs ts) h.2
    (form_rises fs ts h.4)

-- inserting a term anywhere in the list adds it to the polynomial
pub form_insert : (fs : List Form) (ts : List Term) (i : ℕ) (v : Term) → AreTerms ts → v.coefficient < 2 ^ 64
    → polynomial_form fs (take i ts ++ v ∷ drop i ts)
    ≡ add_term (monomial_form fs v.atoms) v.coefficient (polynomial_form fs ts)
form_insert fs [] zero v h w = refl
form_insert fs [] (suc i) v h w = refl
form_insert fs (t ∷ ts) zero v h w = refl
form_insert fs (t ∷ ts) (suc i) v h w =
    ap (add_term (monomial_form fs t.atoms) t.coefficient) (form_insert fs ts i v h.4 w)
    ∙ add_swap (monomial_form fs t.atoms) (monomial_form fs v.atoms) t.coefficient v.coefficient (polynomial_form fs ts)
    h.2 w (form_rises fs ts h.4)

-- adding c to the coefficient of a term adds the term with the coefficient c
pub form_set : (fs : List Form) (ts : List Term) (i : ℕ) (y d : Term) (c : ℕ) → AreTerms ts → i < length ts →
    c < 2 ^ 64 → y.atoms ≡ (get_or ts i d).atoms → y.coefficient ≡ (c + (get_or ts i d).coefficient) % 2 ^ 64
    → polynomial_form fs (set ts i y) ≡ add_term (monomial_form fs (get_or ts i d).atoms) c (polynomial_form fs ts)
form_set fs [] i y d c h l w f e = absurd (omega arith)
form_set fs (t ∷ ts) zero y d c h l w f e =
    ap (λ k. add_term (monomial_form fs k) y.coefficient (polynomial_form fs ts)) f
    ∙ (ap (λ k. add_term (monomial_form fs t.atoms) k (polynomial_form fs ts)) e
    ∙ add_merge (monomial_form fs t.atoms) c t.coefficient (polynomial_form fs ts) w h.2 (form_rises fs ts h.4))
form_set fs (t ∷ ts) (suc i) y d c h l w f e =
    ap (add_term (monomial_form fs t.atoms) t.coefficient) (form_set fs ts i y d c h.4 (omega arith) w f e)
    ∙ add_swap (monomial_form fs t.atoms) (monomial_form fs (get_or ts i d).atoms) t.coefficient c
    (polynomial_form fs ts) h.2 w (form_rises fs ts h.4)

-- removing a term whose coefficient plus c is 0 adds the term with the coefficient c
pub form_remove : (fs : List Form) (ts : List Term) (i : ℕ) (d : Term) (c : ℕ) → AreTerms ts → i < length ts →
    c < 2 ^ 64 → (c + (get_or ts i d).coefficient) % 2 ^ 64 ≡ 0
    → polynomial_form fs (take i ts ++ drop (suc i) ts)
    ≡ add_term (monomial_form fs (get_or ts i d).atoms) c (polynomial_form fs ts)
form_remove fs [] i d c h l w e = absurd (omega arith)
form_remove fs (t ∷ ts) zero d c h l w e =
    let r = form_rises fs ts h.4 in
    sym (add_none (monomial_form fs t.atoms) (polynomial_form fs ts) r)
    ∙ (ap (λ k. add_term (monomial_form fs t.atoms) k (polynomial_form fs ts)) (sym e)
    ∙ add_merge (monomial_form fs t.atoms) c t.coefficient (polynomial_form fs ts) w h.2 r)
form_remove fs (t ∷ ts) (suc i) d c h l w e =
    ap (add_term (monomial_form fs t.atoms) t.coefficient) (form_remove fs ts i d c h.4 (omega arith) w e)
    ∙ add_swap (monomial_form fs t.atoms) (monomial_form fs (get_or ts i d).atoms) t.coefficient c
    (polynomial_form fs ts) h.2 w (form_rises fs ts h.4)

-- setting an element in a buffer that holds the list sets it in the list
pub set_filled : (xs zs : List Term) (i : ℕ) (y : Term) → zs ≡ xs → refill (length xs) xs (set zs i y) ≡ set xs i y
set_filled xs zs i y e =
    ap (λ us. refill (length xs) xs (set us i y)) e
    ∙ (ap (λ n. take n (set xs i y ++ drop (length (set xs i y)) xs)) (sym (length-set xs i y))
    ∙ take-append_seam (set xs i y) (drop (length (set xs i y)) xs))

-- adding a term with the coefficient 0 changes nothing
pub form_skip : (fs : List Form) (ts : List Term) (m : Monomial) (c : ℕ) → AreTerms ts → c ≡ 0 → polynomial_form fs ts
    ≡ add_term m c (polynomial_form fs ts)
form_skip fs ts m c h e = sym (ap (λ k. add_term m k (polynomial_form fs ts)) e
    ∙ add_none m (polynomial_form fs ts) (form_rises fs ts h))

-- the polynomial of the negated terms is the negation of the polynomial
pub form_negated : (fs : List Form) (ts : List Term) → AreTerms ts → polynomial_form fs (map negated_term ts)
    ≡ negation (polynomial_form fs ts)
form_negated fs [] h = refl
form_negated fs (t ∷ ts) h = rw (form_negated fs ts h.4)
    (sym (negation_add (monomial_form fs t.atoms) t.coefficient (polynomial_form fs ts) h.2 (form_rises fs ts h.4)))

-- the terms from place i on are term i and those after it
dropped : (xs : List Term) (x : Term) (i : ℕ) → i < length xs → x ≡ get_or xs i x → drop i xs
    ≡ get_or xs i x ∷ drop (i + 1) xs
dropped xs x i l r = rw (add-one, drop-cons xs i x) refl

-- adding the terms from place i on is adding term i and then those after it
pub total_more : (fs : List Form) (xs : List Term) (x : Term) (q : Polynomial) (i : ℕ) → AreTerms xs → Rises q →
    i < length xs → x ≡ get_or xs i x
    → total (polynomial_form fs (drop i xs)) q ≡ total (polynomial_form fs (drop (i + 1) xs))
    (add_term (monomial_form fs x.atoms) x.coefficient q)
total_more fs xs x q i h w l r =
    let y = get_or xs i x in
    ap (λ t. total (polynomial_form fs t) q) (dropped xs x i l r)
    ∙ (total_add (monomial_form fs y.atoms) y.coefficient (polynomial_form fs (drop (i + 1) xs)) q
    (term_word xs i x h l) (form_rises fs (drop (i + 1) xs) (terms_drop xs (i + 1) h)) w
    ∙ ap (λ (t : Term). total (polynomial_form fs (drop (i + 1) xs))
    (add_term (monomial_form fs t.atoms) t.coefficient q)) (sym r))

-- likewise for adding their products with one term
pub multiple_more : (fs : List Form) (M : Monomial) (c : ℕ) (xs : List Term) (x : Term) (q : Polynomial) (i : ℕ) →
    AreTerms xs → Rises q → i < length xs → x ≡ get_or xs i x
    → add_multiple M c (polynomial_form fs (drop i xs)) q
    ≡ add_multiple M c (polynomial_form fs (drop (i + 1) xs))
    (add_term (join M (monomial_form fs x.atoms)) ((c * x.coefficient) % 2 ^ 64) q)
multiple_more fs M c xs x q i h w l r =
    let y = get_or xs i x in
    ap (λ t. add_multiple M c (polynomial_form fs t) q) (dropped xs x i l r)
    ∙ (multiple_add M (monomial_form fs y.atoms) c y.coefficient (polynomial_form fs (drop (i + 1) xs)) q
    (term_word xs i x h l) w
    ∙ ap (λ (t : Term). add_multiple M c (polynomial_form fs (drop (i + 1) xs))
    (add_term (join M (monomial_form fs t.atoms)) ((c * t.coefficient) % 2 ^ 64) q)) (sym r))

-- likewise for adding their products with a polynomial
pub products_more : (fs : List Form) (xs : List Term) (x : Term) (p q : Polynomial) (i : ℕ) → Rises q → i < length xs →
    x ≡ get_or xs i x
    → add_products (polynomial_form fs (drop i xs)) p q
    ≡ add_products (polynomial_form fs (drop (i + 1) xs)) p
    (add_multiple (monomial_form fs x.atoms) x.coefficient p q)
products_more fs xs x p q i w l r =
    let y = get_or xs i x in
    ap (λ t. add_products (polynomial_form fs t) p q) (dropped xs x i l r)
    ∙ (products_add (monomial_form fs y.atoms) y.coefficient (polynomial_form fs (drop (i + 1) xs)) p q w
    ∙ ap (λ (t : Term). add_products (polynomial_form fs (drop (i + 1) xs)) p
    (add_multiple (monomial_form fs t.atoms) t.coefficient p q)) (sym r))

-- the reach of two lists together is within a bound on both
reach-append : (fs : List Form) (xs ys : List Term) (n : ℕ) → reach_of_terms fs xs ≤ n → reach_of_terms fs ys ≤ n →
    reach_of_terms fs (xs ++ ys) ≤ n
reach-append fs [] ys n h k = k
reach-append fs (x ∷ xs) ys n h k = let r = reach-append fs xs ys n (omega arith) k in omega arith

-- the reach of the first terms is at most that of all
reach-take : (fs : List Form) (xs : List Term) (i n : ℕ) → reach_of_terms fs xs ≤ n → reach_of_terms fs (take i xs) ≤ n
reach-take fs [] zero n h = omega arith
reach-take fs [] (suc i) n h = omega arith
reach-take fs (x ∷ xs) zero n h = omega arith
reach-take fs (x ∷ xs) (suc i) n h = let r = reach-take fs xs i n (omega arith) in omega arith

-- the reach of the last terms is at most that of all
reach-drop : (fs : List Form) (xs : List Term) (i n : ℕ) → reach_of_terms fs xs ≤ n → reach_of_terms fs (drop i xs) ≤ n
reach-drop fs [] zero n h = omega arith
reach-drop fs [] (suc i) n h = omega arith
reach-drop fs (x ∷ xs) zero n h = h
reach-drop fs (x ∷ xs) (suc i) n h = reach-drop fs xs i n (omega arith)

-- removing a term does not increase the reach
pub reach-remove : (fs : List Form) (xs : List Term) (i n : ℕ) → reach_of_terms fs xs ≤ n →
    reach_of_terms fs (take i xs ++ drop (suc i) xs) ≤ n
reach-remove fs xs i n h = reach-append fs (take i xs) (drop (suc i) xs) n (reach-take fs xs i n h)
    (reach-drop fs xs (suc i) n h)

-- after a term is inserted, the reach is within a bound on both
pub reach-insert : (fs : List Form) (xs : List Term) (i n : ℕ) (v : Term) → reach_of_terms fs xs ≤ n →
    reach_of_atoms fs v.atoms ≤ n → reach_of_terms fs (take i xs ++ v ∷ drop i xs) ≤ n
reach-insert fs xs i n v h k = reach-append fs (take i xs) (v ∷ drop i xs) n (reach-take fs xs i n h) (let r =
    reach-drop fs xs i n h in omega arith)

-- after a term is replaced, the reach is within a bound on both
pub reach-set : (fs : List Form) (xs : List Term) (i n : ℕ) (v : Term) → reach_of_terms fs xs ≤ n →
    reach_of_atoms fs v.atoms ≤ n → reach_of_terms fs (set xs i v) ≤ n
reach-set fs [] i n v h k = h
reach-set fs (x ∷ xs) zero n v h k = omega arith
reach-set fs (x ∷ xs) (suc i) n v h k = let r = reach-set fs xs i n v (omega arith) k in omega arith

-- the reach of a term is at most that of all
pub term_reach : (fs : List Form) (xs : List Term) (d : Term) (k : ℕ) → k < length xs →
    reach_of_atoms fs (get_or xs k d).atoms ≤ reach_of_terms fs xs
term_reach fs [] d k l = absurd (omega arith)
term_reach fs (x ∷ xs) d zero l = omega arith
term_reach fs (x ∷ xs) d (suc k) l = let h = term_reach fs xs d k (omega arith) in omega arith

-- likewise for a term that the code has read
pub term_reach_read : (fs : List Form) (xs : List Term) (a : Term) (k : ℕ) → k < length xs → a ≡ get_or xs k a →
    reach_of_atoms fs a.atoms ≤ reach_of_terms fs xs
term_reach_read fs xs a k l ra = let P : Term → ℕ = λ t. reach_of_atoms fs t.atoms in let e = ap P ra in
    let h = term_reach fs xs a k l in omega (arith, e, h)

-- negating terms does not change their reach
pub negated_reach : (fs : List Form) (ts : List Term) → reach_of_terms fs (map negated_term ts) ≡ reach_of_terms fs ts
negated_reach fs [] = refl
negated_reach fs (t ∷ ts) = ap (max (reach_of_atoms fs t.atoms)) (negated_reach fs ts)

-- appending term i to a copy of the first i terms gives a copy of the first i + 1
pub taken_more : (xs cs : List Term) (x : Term) (i : ℕ) → cs ≡ take i xs → i < length xs → x ≡ get_or xs i x → cs
    ++ x ∷ [] ≡ take (i + 1) xs
taken_more xs cs x i e l r = ap (λ ys. ys ++ x ∷ []) e ∙ (ap (λ y. take i xs ++ y ∷ []) r ∙ sym (take_more xs i x l))

-- likewise for terms that are negated as they are copied
pub negated_more : (xs cs : List Term) (x : Term) (i : ℕ) → cs ≡ map negated_term (take i xs) → i < length xs → x
    ≡ get_or xs i x → cs ++ negated_term x ∷ [] ≡ map negated_term (take (i + 1) xs)
negated_more xs cs x i e l r = ap (λ ys. ys ++ negated_term x ∷ []) e
    ∙ (sym (map-append negated_term (take i xs) (x ∷ []))
    ∙ ap (map negated_term) (taken_more xs (take i xs) x i refl l r))
