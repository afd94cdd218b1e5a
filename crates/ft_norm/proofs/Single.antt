-- Over distinct forms, a monomial has only one ordered list of numbers, and a polynomial only one ordered list of
-- terms.
use Rattle.std.proofs.Common.{ℕ, suc, zero, ◌≡◌, ◌≢◌, ◌+◌, ◌%◌, ◌^◌, ◌<◌, ◌≤◌, ◌==◌, Bool, true, false, if◌then◌else◌}
use Rattle.std.proofs.Common.{List, [], ◌∷◌, ◌++◌, length, get_or, take, refl, sym, ap, ◌∙◌, arith, lit<, max, None}
use Rattle.std.proofs.Common.{Some, inl, inr}
use Rattle.std.proofs.lemmas.Bool.{cases_lt, eqb-true}
use Rattle.std.proofs.lemmas.Bool.Decides.{Decides-eqb}
use Rattle.std.proofs.lemmas.Cmp.{nat_list_cmp_total, tied_itself}
use Rattle.std.proofs.lemmas.List.{take_more}
use Rattle.std.specs.declared.cmp.Ordering.TheVariants.{Less, Equal, Greater}
use Rattle.ft_static.specs.Coefficient.{count, share}
use Rattle.ft_static.specs.Form.{Atom, Form, Monomial, Polynomial, factors, integer_form, memory_form, nought, one}
use Rattle.ft_static.specs.Form.{plus, terms, times, cmp_atom, cmp_monomial, has_atom}
use Rattle.ft_static.specs.NormalForm.{add_term, alone, by_order, constant_of, degree, led_by, with_factor}
use Rattle.ft_static.proofs.Cases.{by_cases, if_cases}
use Rattle.ft_static.proofs.Counts.{count_join}
use Rattle.ft_static.proofs.Spelled.{atom_equal, cmp_atom_total, cmp_monomial_total, monomial_equal}
use Rattle.ft_static.proofs.Coefficients.{order_split}
use Rattle.ft_static.specs.declared.node.Shape.{Shape}
use Rattle.ft_static.specs.declared.node.Shape.TheVariants.{Var}
use Rattle.ft_norm.specs.declared.entry.Term.{Term}
use Rattle.ft_norm.specs.Held.{polynomial_at, updates_at}
use Rattle.ft_norm.specs.Entries.{IsDistinct, alone_term, atom_at, atom_form, atom_reach, greatest, integer_reach}
use Rattle.ft_norm.specs.Entries.{memory_reach, monomial_form, polynomial_form, reach, reach_of_atoms, reach_of_terms}
use Rattle.ft_norm.specs.Entries.{size}
use Rattle.ft_norm.specs.Orders.{AreOrdered, AreTerms, IsMonomial, Precedes, cmp_atoms}
use Rattle.ft_norm.specs.Terms.{AreOver}
use Rattle.ft_norm.proofs.Forms.{atom_reached, integer_reached, memory_reached}
use Rattle.ft_norm.proofs.Joining.{factors-monomial_form}
use Rattle.ft_norm.proofs.Numbers.{one_number}
use Rattle.ft_norm.proofs.Ordered.{atoms_equal, atoms_turned, precedes_through}
use Rattle.ft_norm.proofs.Weights.{mods_both, mods_less, share_linear, weigh, weigh_add, words_same}

-- 1 if two numbers are the same, else 0
abbrev pub alike : ℕ → ℕ → ℕ
alike x y = if x == y then 1 else 0

alike_itself : (x : ℕ) → alike x x ≡ 1
alike_itself x = rw ((Decides-eqb x x).1 refl) refl

alike_not : (x y : ℕ) → x ≢ y → alike x y ≡ 0
alike_not x y n = go (x == y) refl
  where
    go : (b : Bool) → (x == y) ≡ b → (if◌then◌else◌ {A = ℕ} b 1 0) ≡ 0
    go true e = absurd (n ((Decides-eqb x y).0 e))
    go false e = refl

-- how often a number occurs in a list
abbrev pub times_in : ℕ → List ℕ → ℕ
times_in x [] = 0
times_in x (y ∷ ys) = alike x y + times_in x ys

-- 1 if two atoms compare as equal, else 0
abbrev meets : Atom → Atom → ℕ
meets k a = by_order (cmp_atom k a) 0 1 0

-- a number less than the first of an ordered list does not occur in it
times_none : (x y : ℕ) (ys : List ℕ) → x < y → AreOrdered (y ∷ ys) → times_in x (y ∷ ys) ≡ 0
times_none x y [] e h = let a = alike_not x y (omega arith) in omega (arith, a)
times_none x y (z ∷ ys) e h =
    let a = alike_not x y (omega arith) in
    let b = times_none x z ys (let w = h.0 in omega (arith, w, e)) h.1 in
    omega (arith, a, b)

-- a monomial has at most as many atoms as numbers
size_bound : (xs : List ℕ) → size xs ≤ length xs
size_bound [] = omega arith
size_bound (zero ∷ xs) = let h = size_bound xs in omega (arith, h)
size_bound (suc k ∷ xs) = let h = size_bound xs in omega (arith, h)

-- in an ordered list that begins with an atom, all numbers are atoms
size_full : (k : ℕ) (xs : List ℕ) → AreOrdered (suc k ∷ xs) → size (suc k ∷ xs) ≡ length (suc k ∷ xs)
size_full k [] h = refl
size_full k (zero ∷ xs) h = absurd (let w = h.0 in omega (arith, w))
size_full k (suc j ∷ xs) h = let r = size_full j xs h.1 in omega (arith, r)

-- so of two lists of the same length and size, either both begin with 0 or neither does
begin_alike : (k : ℕ) (xs ys : List ℕ) → length xs ≡ length ys → AreOrdered (suc k ∷ ys) → size (zero ∷ xs)
    ≡ size (suc k ∷ ys) → ⊥
begin_alike k xs ys l h e = let a = size_bound xs in let b = size_full k ys h in omega (arith, a, b, e, l)

-- ordered lists in which each atom occurs equally often are the same
same_times : (fs : List Form) (n : ℕ) (xs ys : List ℕ) → AreOrdered xs → AreOrdered ys → length xs ≡ length ys → size xs
    ≡ size ys → reach_of_atoms fs xs ≤ n → reach_of_atoms fs ys ≤ n
    → ((k : ℕ) → atom_reach fs (suc k) ≤ n → times_in (suc k) xs ≡ times_in (suc k) ys) → xs ≡ ys
same_times fs n [] [] h k l s a b e = refl
same_times fs n [] (y ∷ ys) h k l s a b e = absurd (omega (arith, l))
same_times fs n (x ∷ xs) [] h k l s a b e = absurd (omega (arith, l))
same_times fs n (zero ∷ xs) (zero ∷ ys) h k l s a b e =
    ap (λ zs. 0 ∷ zs) (same_times fs n xs ys h.1 k.1 (omega (arith, l)) (omega (arith, s)) (omega arith) (omega arith)
    (λ i r. let q = e i r in omega (arith, q)))
same_times fs n (zero ∷ xs) (suc j ∷ ys) h k l s a b e = absurd (begin_alike j xs ys (omega (arith, l)) k s)
same_times fs n (suc i ∷ xs) (zero ∷ ys) h k l s a b e = absurd (begin_alike i ys xs (omega (arith, l)) h (sym s))
same_times fs n (suc i ∷ xs) (suc j ∷ ys) h k l s a b e = elim (cases_lt i j) [
  | inl o ↦ absurd (let q = e i (omega arith) in let u = alike_itself (suc i) in
      let w = times_none (suc i) (suc j) ys (omega arith) k in omega (arith, q, u, w))
  | inr o ↦ elim (cases_lt j i) [
    | inl r ↦ absurd (let q = e j (omega arith) in let u = alike_itself (suc j) in
        let w = times_none (suc j) (suc i) xs (omega arith) h in omega (arith, q, u, w))
    | inr r ↦
        let f : i ≡ j = omega (arith, o, r) in
        let g : xs ≡ ys = same_times fs n xs ys h.1 k.1 (omega (arith, l)) (omega (arith, s)) (omega arith)
        (omega arith) (λ t m. let q = e t m in let w = ap (λ z. alike (suc t) (suc z)) f in omega (arith, q, w)) in
        rw (f, g) refl
  ]
]

-- the polynomial does not have this monomial
abbrev pub Misses : Monomial → Polynomial → Type 0
Misses k nought = Unit {0}
Misses k (plus n d p) = (k ≢ n) × Misses k p

-- a polynomial that does not have this monomial still does not have it after another one is added
misses_add : (k m : Monomial) (c : ℕ) (p : Polynomial) → k ≢ m → Misses k p → Misses k (add_term m c p)
misses_add k m c nought h w = if_cases (λ q. Misses k q) (c == 0) nought (plus m c nought) (λ e. tt) (λ e. (h, tt))
misses_add k m c (plus n d p) h w = by_cases (λ q. Misses k q) (cmp_monomial m n) (led_by m c (plus n d p))
    (led_by n ((c + d) % 2 ^ 64) p) (plus n d (add_term m c p))
    (λ e. if_cases (λ q. Misses k q) (c == 0) (plus n d p) (plus m c (plus n d p)) (λ e. w) (λ e. (h, w)))
    (λ e. if_cases (λ q. Misses k q) ((c + d) % 2 ^ 64 == 0) p (plus n ((c + d) % 2 ^ 64) p) (λ e. w.1) (λ e.
    (w.0, w.1)))
    (λ e. (w.0, misses_add k m c p h w.1))

-- adding a new monomial increases the number of monomials by one
terms_add : (m : Monomial) (c : ℕ) (p : Polynomial) → 0 < c → Misses m p → terms (add_term m c p) ≡ suc (terms p)
terms_add m c nought l w = if_cases (λ q. terms q ≡ 1) (c == 0) nought (plus m c nought) (λ e.
    absurd (let z = eqb-true c 0 e in omega (arith, z, l))) (λ e. refl)
terms_add m c (plus n d p) l w = by_cases (λ q. terms q ≡ suc (suc (terms p))) (cmp_monomial m n)
    (led_by m c (plus n d p)) (led_by n ((c + d) % 2 ^ 64) p) (plus n d (add_term m c p))
    (λ e. if_cases (λ q. terms q ≡ suc (suc (terms p))) (c == 0) (plus n d p) (plus m c (plus n d p)) (λ e.
    absurd (let z = eqb-true c 0 e in omega (arith, z, l))) (λ e. refl))
    (λ e. absurd (w.0 (monomial_equal m n e)))
    (λ e. ap suc (terms_add m c p l w.1))

-- after a new monomial is added, the degree is the larger of its degree and that of the polynomial
degree_add : (m : Monomial) (c : ℕ) (p : Polynomial) → 0 < c → Misses m p → degree (add_term m c p)
    ≡ max (factors m) (degree p)
degree_add m c nought l w = if_cases (λ q. degree q ≡ max (factors m) 0) (c == 0) nought (plus m c nought) (λ e.
    absurd (let z = eqb-true c 0 e in omega (arith, z, l))) (λ e. refl)
degree_add m c (plus n d p) l w = by_cases (λ q. degree q ≡ max (factors m) (max (factors n) (degree p)))
    (cmp_monomial m n) (led_by m c (plus n d p)) (led_by n ((c + d) % 2 ^ 64) p) (plus n d (add_term m c p))
    (λ e. if_cases (λ q. degree q ≡ max (factors m) (max (factors n) (degree p))) (c == 0) (plus n d p)
    (plus m c (plus n d p)) (λ e. absurd (let z = eqb-true c 0 e in omega (arith, z, l))) (λ e. refl))
    (λ e. absurd (w.0 (monomial_equal m n e)))
    (λ e. let h = degree_add m c p l w.1 in omega (arith, h))

-- what terms contribute to a monomial
abbrev gives : List Form → Monomial → List Term → ℕ
gives fs k [] = 0
gives fs k (t ∷ ts) = share k (monomial_form fs t.atoms) t.coefficient + gives fs k ts

-- terms contribute as much to a monomial as their polynomial does
pub weigh_form : (fs : List Form) (k : Monomial) (ts : List Term) → weigh (share k) (polynomial_form fs ts) % 2 ^ 64
    ≡ gives fs k ts % 2 ^ 64
weigh_form fs k [] = refl
weigh_form fs k (t ∷ ts) =
    let m = monomial_form fs t.atoms in
    weigh_add (share k) (share_linear k) m t.coefficient (polynomial_form fs ts)
    ∙ mods_both (share k m t.coefficient) (share k m t.coefficient) (weigh (share k) (polynomial_form fs ts))
    (gives fs k ts) refl (weigh_form fs k ts)

-- a term contributes nothing to another monomial
share_other : (k m : Monomial) (c : ℕ) → k ≢ m → share k m c ≡ 0
share_other k m c h = order_split _ (cmp_monomial k m) (λ o. rw o refl) (λ o. absurd (h (monomial_equal k m o))) (λ o.
    rw o refl)

-- a term contributes its coefficient to its own monomial
share_same : (m : Monomial) (c : ℕ) → share m m c ≡ c
share_same m c = rw (tied_itself cmp_monomial_total m) refl

module _ (fs : List Form) (d : IsDistinct fs) where
  -- an integer has only one number
  pub one_integer : (p r : ℕ) → integer_reach fs p ≤ length fs → integer_reach fs r ≤ length fs → polynomial_at fs p
      ≡ polynomial_at fs r → p ≡ r
  one_integer p r a b e = d.one p r (integer_form (polynomial_at fs r))
      (integer_reached fs (length fs) p (omega arith) a ∙ ap (λ x. Some (integer_form x)) e)
      (integer_reached fs (length fs) r (omega arith) b)

  -- a memory has only one number
  pub one_memory : (p r : ℕ) → memory_reach fs p ≤ length fs → memory_reach fs r ≤ length fs → updates_at fs p
      ≡ updates_at fs r → p ≡ r
  one_memory p r a b e = d.one p r (memory_form (updates_at fs r)) (memory_reached fs (length fs) p (omega arith) a
      ∙ ap (λ x. Some (memory_form x)) e) (memory_reached fs (length fs) r (omega arith) b)

  -- each atom is the atom of only one node
  pub one_node : (x y : Shape) → has_atom x ≡ true → has_atom y ≡ true → reach fs x ≤ length fs →
      reach fs y ≤ length fs → atom_form fs x ≡ atom_form fs y → x ≡ y
  one_node (Var i) (Var j) h k a b e = let t : i ≡ j = cc in ap Var t
  one_node x y h k a b e = grind (arith, one_integer, one_memory)

  -- an atom has only one number
  one_atom : (i j : ℕ) → atom_reach fs (suc i) ≤ length fs → atom_reach fs (suc j) ≤ length fs → atom_at fs i
      ≡ atom_at fs j → i ≡ j
  one_atom i j a b e = d.one i j (integer_form (alone (atom_at fs j))) (atom_reached fs (length fs) i (omega arith) a
      ∙ ap (λ x. Some (integer_form (alone x))) e) (atom_reached fs (length fs) j (omega arith) b)

  -- so two atoms are the same exactly when their numbers are
  meets_alike : (i j : ℕ) → atom_reach fs (suc i) ≤ length fs → atom_reach fs (suc j) ≤ length fs →
      meets (atom_at fs i) (atom_at fs j) ≡ alike (suc i) (suc j)
  meets_alike i j a b = order_split (meets (atom_at fs i) (atom_at fs j)
      ≡ alike (suc i) (suc j)) (cmp_atom (atom_at fs i) (atom_at fs j))
      (λ o. rw o (sym (alike_not (suc i) (suc j) (unlike (λ q. let t : Less ≡ Equal = sym o ∙ q in cc)))))
      (λ o. rw (o, one_atom i j a b (atom_equal (atom_at fs i) (atom_at fs j) o)) (sym (alike_itself (suc j))))
      (λ o. rw o (sym (alike_not (suc i) (suc j) (unlike (λ q. let t : Greater ≡ Equal = sym o ∙ q in cc)))))
    where
      unlike : cmp_atom (atom_at fs i) (atom_at fs j) ≢ Equal → suc i ≢ suc j
      unlike n e = n (let f : i ≡ j = omega (arith, e) in ap (λ k. cmp_atom (atom_at fs i) (atom_at fs k)) (sym f)
          ∙ tied_itself cmp_atom_total (atom_at fs i))

  -- an atom occurs in a monomial as often as its number occurs in the list
  count_is : (i : ℕ) (xs : List ℕ) → atom_reach fs (suc i) ≤ length fs → reach_of_atoms fs xs ≤ length fs →
      count (atom_at fs i) (monomial_form fs xs) ≡ times_in (suc i) xs
  count_is i [] a b = refl
  count_is i (zero ∷ ys) a b = let r = count_is i ys a (omega arith) in let z = alike_not (suc i) 0 (omega arith) in
      omega (arith, r, z)
  count_is i (suc j ∷ ys) a b =
      let r = count_is i ys a (omega arith) in
      let c : count (atom_at fs i) (with_factor (atom_at fs j) (monomial_form fs ys))
      ≡ meets (atom_at fs i) (atom_at fs j) + count (atom_at fs i) (monomial_form fs ys) =
      count_join (atom_at fs i) (times (atom_at fs j) one) (monomial_form fs ys) in
      let z = meets_alike i j a (omega arith) in
      omega (arith, c, z, r)

  -- a monomial has only one ordered list of numbers
  one_monomial : (xs ys : List ℕ) → IsMonomial xs → IsMonomial ys → reach_of_atoms fs xs ≤ length fs →
      reach_of_atoms fs ys ≤ length fs → monomial_form fs xs ≡ monomial_form fs ys → xs ≡ ys
  one_monomial xs ys h k a b e = same_times fs (length fs) xs ys h.1 k.1 (h.0
      ∙ sym k.0) (sym (factors-monomial_form fs xs) ∙ (ap factors e ∙ factors-monomial_form fs ys)) a b
      (λ i l. sym (count_is i xs l a) ∙ (ap (count (atom_at fs i)) e ∙ count_is i ys l b))

  -- different lists of numbers are different monomials
  monomials_apart : (xs ys : List ℕ) → IsMonomial xs → IsMonomial ys → reach_of_atoms fs xs ≤ length fs →
      reach_of_atoms fs ys ≤ length fs → cmp_atoms xs ys ≡ Less → monomial_form fs xs ≢ monomial_form fs ys
  monomials_apart xs ys h k a b o e =
      let t : Less ≡ Equal = sym o ∙ (ap (cmp_atoms xs) (sym (one_monomial xs ys h k a b e))
      ∙ tied_itself nat_list_cmp_total xs) in cc

  -- a monomial that precedes terms is not in their polynomial
  misses_form : (xs : List ℕ) (ts : List Term) → IsMonomial xs → reach_of_atoms fs xs ≤ length fs → AreTerms ts →
      reach_of_terms fs ts ≤ length fs → Precedes xs ts → Misses (monomial_form fs xs) (polynomial_form fs ts)
  misses_form xs [] h a k b p = tt
  misses_form xs (t ∷ ts) h a k b p = misses_add (monomial_form fs xs) (monomial_form fs t.atoms) t.coefficient
      (polynomial_form fs ts)
      (monomials_apart xs t.atoms h k.0 a (omega arith) p)
      (misses_form xs ts h a k.4 (omega arith) (precedes_through xs t.atoms ts p k.3))

  -- terms contribute nothing to a monomial that precedes them
  pub gives_none : (xs : List ℕ) (ts : List Term) → IsMonomial xs → reach_of_atoms fs xs ≤ length fs → AreTerms ts →
      reach_of_terms fs ts ≤ length fs → Precedes xs ts → gives fs (monomial_form fs xs) ts ≡ 0
  gives_none xs [] h a k b p = refl
  gives_none xs (t ∷ ts) h a k b p =
      let x = share_other (monomial_form fs xs) (monomial_form fs t.atoms) t.coefficient
      (monomials_apart xs t.atoms h k.0 a (omega arith) p) in
      let y = gives_none xs ts h a k.4 (omega arith) (precedes_through xs t.atoms ts p k.3) in
      omega (arith, x, y)

  -- terms contribute the first coefficient to the first monomial
  gives_first : (t : Term) (ts : List Term) → AreTerms (t ∷ ts) → reach_of_terms fs (t ∷ ts) ≤ length fs →
      gives fs (monomial_form fs t.atoms) (t ∷ ts) ≡ t.coefficient
  gives_first t ts h b =
      let x = share_same (monomial_form fs t.atoms) t.coefficient in
      let y = gives_none t.atoms ts h.0 (omega arith) h.4 (omega arith) h.3 in
      omega (arith, x, y)

  -- terms that contribute the same to each monomial are the same
  same_gives : (ts us : List Term) → AreTerms ts → AreTerms us → reach_of_terms fs ts ≤ length fs →
      reach_of_terms fs us ≤ length fs → ((k : Monomial) → gives fs k ts % 2 ^ 64 ≡ gives fs k us % 2 ^ 64) → ts ≡ us
  same_gives [] [] h k a b e = refl
  same_gives [] (u ∷ us) h k a b e = absurd (let z = words_same 0 u.coefficient (e (monomial_form fs u.atoms)
      ∙ ap (λ x. x % 2 ^ 64) (gives_first u us k b)) (lit< tt) k.2 in omega (arith, z, k.1))
  same_gives (t ∷ ts) [] h k a b e = absurd (let z = words_same 0 t.coefficient (sym (e (monomial_form fs t.atoms))
      ∙ ap (λ x. x % 2 ^ 64) (gives_first t ts h a)) (lit< tt) h.2 in omega (arith, z, h.1))
  same_gives (t ∷ ts) (u ∷ us) h k a b e = order_split _ (cmp_atoms t.atoms u.atoms)
      (λ o. absurd (
      let z = words_same t.coefficient 0 (ap (λ x. x % 2 ^ 64) (sym (gives_first t ts h a))
      ∙ (e (monomial_form fs t.atoms) ∙ ap (λ x. x % 2 ^ 64) (gives_none t.atoms (u ∷ us) h.0 (omega arith) k b o)))
      h.2 (lit< tt) in
      omega (arith, z, h.1)))
      (λ o.
      let f : t.atoms ≡ u.atoms = atoms_equal t.atoms u.atoms o in
      let m = monomial_form fs t.atoms in
      let y : gives fs m (u ∷ us) ≡ u.coefficient = ap (λ xs. gives fs (monomial_form fs xs) (u ∷ us)) f
      ∙ gives_first u us k b in
      let c : t.coefficient ≡ u.coefficient = words_same t.coefficient u.coefficient
      (ap (λ x. x % 2 ^ 64) (sym (gives_first t ts h a)) ∙ (e m ∙ ap (λ x. x % 2 ^ 64) y)) h.2 k.2 in
      let s : (q : Monomial) → share q (monomial_form fs u.atoms) u.coefficient ≡ share q m t.coefficient = λ q.
      ap (λ xs. share q (monomial_form fs xs) u.coefficient) (sym f) ∙ ap (share q m) (sym c) in
      let r : ts ≡ us = same_gives ts us h.4 k.4 (omega arith) (omega arith) (λ q.
      mods_less (gives fs q ts) (gives fs q us) (share q m t.coefficient) (e q
      ∙ ap (λ x. (x + gives fs q us) % 2 ^ 64) (s q))) in
      let w : t ≡ u = ap (λ (x : List ℕ). let y : Term = record { atoms = x; coefficient = t.coefficient } in y) f
      ∙ ap (λ (x : ℕ). let y : Term = record { atoms = u.atoms; coefficient = x } in y) c in
      rw (w, r) refl)
      (λ o. absurd (
      let p = atoms_turned t.atoms u.atoms o in
      let z = words_same u.coefficient 0 (ap (λ x. x % 2 ^ 64) (sym (gives_first u us k b))
      ∙ (sym (e (monomial_form fs u.atoms)) ∙ ap (λ x.
      x % 2 ^ 64) (gives_none u.atoms (t ∷ ts) k.0 (omega arith) h a p))) k.2 (lit< tt) in
      omega (arith, z, k.1)))

  -- a polynomial has only one ordered list of terms
  pub one_polynomial : (ts us : List Term) → AreTerms ts → AreTerms us → reach_of_terms fs ts ≤ length fs →
      reach_of_terms fs us ≤ length fs → polynomial_form fs ts ≡ polynomial_form fs us → ts ≡ us
  one_polynomial ts us h k a b e = same_gives ts us h k a b (λ q. sym (weigh_form fs q ts)
      ∙ (ap (λ p. weigh (share q) p % 2 ^ 64) e ∙ weigh_form fs q us))

-- the terms after the first are over the same forms
pub rest_over : (fs : List Form) (t : Term) (ts : List Term) → AreOver fs (t ∷ ts) → AreOver fs ts
rest_over fs t ts h = record { terms = h.terms.4; distinct = h.distinct; reach = let r = h.reach in omega (arith, r) }

-- the first monomial is not in the polynomial of the others
first_misses : (fs : List Form) (t : Term) (ts : List Term) → AreOver fs (t ∷ ts) →
    Misses (monomial_form fs t.atoms) (polynomial_form fs ts)
first_misses fs t ts h = let r = h.reach in misses_form fs h.distinct t.atoms ts h.terms.0 (omega (arith, r)) h.terms.4
    (omega (arith, r)) h.terms.3

-- the polynomial of ordered terms has as many monomials as there are terms
pub terms_over : (fs : List Form) (ts : List Term) → AreOver fs ts → terms (polynomial_form fs ts) ≡ length ts
terms_over fs [] h = refl
terms_over fs (t ∷ ts) h = terms_add (monomial_form fs t.atoms) t.coefficient (polynomial_form fs ts) h.terms.1
    (first_misses fs t ts h) ∙ ap suc (terms_over fs ts (rest_over fs t ts h))

-- the largest degree in two lists together is the larger of those in each
greatest-append : (xs ys : List Term) → greatest (xs ++ ys) ≡ max (greatest xs) (greatest ys)
greatest-append [] ys = omega arith
greatest-append (x ∷ xs) ys = let h = greatest-append xs ys in omega (arith, h)

-- the largest degree of the first i + 1 terms is the larger of that of the first i and that of term i
pub greatest_more : (xs : List Term) (x : Term) (i n : ℕ) → i < length xs → x ≡ get_or xs i x → n
    ≡ greatest (take i xs) → max n (size x.atoms) ≡ greatest (take (i + 1) xs)
greatest_more xs x i n l r e =
    let a = greatest-append (take i xs) (get_or xs i x ∷ []) in
    let c : size x.atoms ≡ size (get_or xs i x).atoms = ap (λ (t : Term). size t.atoms) r in
    let m : max n (size x.atoms) ≡ greatest (take i xs ++ get_or xs i x ∷ []) = omega (arith, a, c, e) in
    m ∙ ap greatest (sym (take_more xs i x l))

-- the degree of the polynomial is the largest degree of a term
pub degree_over : (fs : List Form) (ts : List Term) → AreOver fs ts → degree (polynomial_form fs ts) ≡ greatest ts
degree_over fs [] h = refl
degree_over fs (t ∷ ts) h =
    let x = degree_add (monomial_form fs t.atoms) t.coefficient (polynomial_form fs ts) h.terms.1
    (first_misses fs t ts h) in
    let y = factors-monomial_form fs t.atoms in
    let z = degree_over fs ts (rest_over fs t ts h) in
    omega (arith, x, y, z)

-- a polynomial of at least two monomials is not a constant
not_constant : (p : Polynomial) → 2 ≤ terms p → None ≡ constant_of p
not_constant nought l = absurd (omega arith)
not_constant (plus one c nought) l = absurd (omega arith)
not_constant (plus one c (plus n d p)) l = refl
not_constant (plus (times a m) c p) l = refl

-- nor is the polynomial of at least two terms
pub many_constant : (fs : List Form) (ts : List Term) → AreOver fs ts → 2 ≤ length ts → None
    ≡ constant_of (polynomial_form fs ts)
many_constant fs ts h l = not_constant (polynomial_form fs ts) (let e = terms_over fs ts h in omega (arith, e, l))

-- if the polynomial of terms of degree at most 1 is a single atom, there is one term, and its coefficient is 1
pub alone_is : (fs : List Form) (a : Atom) (ts : List Term) → AreOver fs ts → greatest ts ≤ 1 → alone a
    ≡ polynomial_form fs ts → (k : ℕ) × (ts ≡ alone_term (k + 1) ∷ [])
alone_is fs a [] h g e = cc
alone_is fs a (t ∷ u ∷ us) h g e = absurd (let n = terms_over fs (t ∷ u ∷ us) h in
    let w : 1 ≡ terms (polynomial_form fs (t ∷ u ∷ us)) = ap terms e in omega (arith, n, w))
alone_is fs a (t ∷ []) h g e =
    let m = monomial_form fs t.atoms in
    let led : add_term m t.coefficient nought ≡ plus m t.coefficient nought =
    if_cases (λ q. q ≡ plus m t.coefficient nought) (t.coefficient == 0) nought (plus m t.coefficient nought) (λ z.
    absurd (let y = eqb-true t.coefficient 0 z in let w = h.terms.1 in omega (arith, w, y))) (λ z. refl) in
    let p : alone a ≡ plus m t.coefficient nought = e ∙ led in
    let c : 1 ≡ t.coefficient = cc in
    let n : times a one ≡ m = cc in
    let s : size t.atoms ≡ 1 = sym (factors-monomial_form fs t.atoms) ∙ ap factors (sym n) in
    let q = one_number t.atoms h.terms.0 s in (
      q.0,
      ap (λ (y : Term). y ∷ []) (ap (λ (x : List ℕ). let y : Term = record {
        atoms = x;
        coefficient = t.coefficient;
      } in y) q.1 ∙ ap (λ (x : ℕ).
          let y : Term = record { atoms = 0 ∷ 0 ∷ 0 ∷ (q.0 + 1) ∷ []; coefficient = x } in y) (sym c)),
    )
