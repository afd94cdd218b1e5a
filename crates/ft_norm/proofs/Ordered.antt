-- Ordered monomials and terms: what keeps the order, and what follows from it.
use Rattle.std.proofs.Common.{ℕ, suc, zero, ◌≡◌, ◌+◌, ◌-◌, ◌/◌, ◌^◌, ◌<◌, ◌≤◌, List, [], ◌∷◌, ◌++◌, length, get_or}
use Rattle.std.proofs.Common.{refl, sym, ap, ◌∙◌, subst, arith, take, drop, set, map}
use Rattle.std.proofs.lemmas.Cmp.{nat_list_cmp_total}
use Rattle.std.proofs.lemmas.List.{get_or_default}
use Rattle.std.specs.FinMap.{nat_cmp-IsAntisymmetric}
use Rattle.std.specs.Ordering.{nat_cmp, ordering_reverse}
use Rattle.std.specs.declared.cmp.Ordering.{Ordering}
use Rattle.std.specs.declared.cmp.Ordering.TheVariants.{Less, Equal, Greater}
use Rattle.ft_static.proofs.Spelled.{then_both}
use Rattle.ft_norm.specs.declared.entry.Term.{Term}
use Rattle.ft_norm.specs.Orders.{AreTerms, IsMonomial, Precedes, cmp_atoms}
use Rattle.ft_norm.specs.Terms.{IsPlace, IsThere, negated_term}
use Rattle.ft_norm.proofs.Weights.{negative}

-- monomials that compare as equal are the same
pub atoms_equal : (xs ys : List ℕ) → cmp_atoms xs ys ≡ Equal → xs ≡ ys
atoms_equal [] [] e = refl
atoms_equal [] (y ∷ ys) e = cc
atoms_equal (x ∷ xs) [] e = cc
atoms_equal (x ∷ xs) (y ∷ ys) e = let t = then_both (nat_cmp x y) (cmp_atoms xs ys) e in
    rw (nat_cmp-IsAntisymmetric x y t.0, atoms_equal xs ys t.1) refl

-- if one monomial compares as greater than another, the other compares as less
pub atoms_turned : (xs ys : List ℕ) → cmp_atoms xs ys ≡ Greater → cmp_atoms ys xs ≡ Less
atoms_turned xs ys e = nat_list_cmp_total.antisymm ys xs ∙ ap ordering_reverse e

-- if some atoms precede terms, so do any lesser ones
pub precedes_through : (xs ys : List ℕ) (ts : List Term) → cmp_atoms xs ys ≡ Less → Precedes ys ts → Precedes xs ts
precedes_through xs ys [] e h = tt
precedes_through xs ys (t ∷ ts) e h = nat_list_cmp_total.trans xs ys t.atoms e h

-- a term inserted in its place keeps the order
pub terms_insert : (ts : List Term) (i : ℕ) (v : Term) → AreTerms ts → IsPlace ts v.atoms i → IsMonomial v.atoms →
    0 < v.coefficient → v.coefficient < 2 ^ 64 → AreTerms (take i ts ++ v ∷ drop i ts)
terms_insert [] zero v h p o c w = (o, c, w, tt, tt)
terms_insert [] (suc i) v h p o c w = absurd (let x = p.within in omega arith)
terms_insert (t ∷ ts) zero v h p o c w = (o, c, w, p.before v (omega arith), h)
terms_insert (t ∷ ts) (suc i) v h p o c w = (
  h.0,
  h.1,
  h.2,
  precede ts i h.3 p,
  terms_insert ts i v h.4 (record {
    within = let x = p.within in omega (arith, x);
    after = λ d j e. p.after d (suc j) (omega (arith, e));
    before = λ d l. p.before d (omega (arith, l));
  }) o c w,
)
  where
    precede : (us : List Term) (k : ℕ) → Precedes t.atoms us → IsPlace (t ∷ us) v.atoms (suc k) →
        Precedes t.atoms (take k us ++ v ∷ drop k us)
    precede us zero g q = q.after v 0 (omega arith)
    precede [] (suc k) g q = absurd (let x = q.within in omega arith)
    precede (u ∷ us) (suc k) g q = g

-- removing a term keeps the order
pub terms_remove : (ts : List Term) (i : ℕ) → AreTerms ts → AreTerms (take i ts ++ drop (suc i) ts)
terms_remove [] zero h = tt
terms_remove [] (suc i) h = tt
terms_remove (t ∷ ts) zero h = h.4
terms_remove (t ∷ ts) (suc i) h = (h.0, h.1, h.2, precede ts i h.3 h.4, terms_remove ts i h.4)
  where
    precede : (us : List Term) (k : ℕ) → Precedes t.atoms us → AreTerms us →
        Precedes t.atoms (take k us ++ drop (suc k) us)
    precede [] zero g q = tt
    precede [] (suc k) g q = tt
    precede (u ∷ us) zero g q = precedes_through t.atoms u.atoms us g q.3
    precede (u ∷ us) (suc k) g q = g

-- changing a coefficient keeps the order
pub terms_set : (ts : List Term) (i : ℕ) (y d : Term) → AreTerms ts → i < length ts → y.atoms ≡ (get_or ts i d).atoms →
    0 < y.coefficient → y.coefficient < 2 ^ 64 → AreTerms (set ts i y)
terms_set [] i y d h l f c w = absurd (omega arith)
terms_set (t ∷ ts) zero y d h l f c w = (rw f h.0, c, w, rw f h.3, h.4)
terms_set (t ∷ ts) (suc i) y d h l f c w = (
  h.0,
  h.1,
  h.2,
  precede ts i h.3 (omega arith) f,
  terms_set ts i y d h.4 (omega arith) f c w,
)
  where
    precede : (us : List Term) (k : ℕ) → Precedes t.atoms us → k < length us → y.atoms ≡ (get_or us k d).atoms →
        Precedes t.atoms (set us k y)
    precede [] k g l f = absurd (omega arith)
    precede (u ∷ us) zero g l f = rw f g
    precede (u ∷ us) (suc k) g l f = g

-- negating the coefficients keeps the order
pub terms_negated : (ts : List Term) → AreTerms ts → AreTerms (map negated_term ts)
terms_negated [] h = tt
terms_negated (t ∷ ts) h =
    let n = negative t.coefficient h.1 h.2 in
    (h.0, rw n (omega (arith, h.2)), rw n (omega (arith, h.1)), precede ts h.3, terms_negated ts h.4)
  where
    precede : (us : List Term) → Precedes t.atoms us → Precedes t.atoms (map negated_term us)
    precede [] g = tt
    precede (u ∷ us) g = g

-- dropping the first terms keeps the order
pub terms_drop : (ts : List Term) (i : ℕ) → AreTerms ts → AreTerms (drop i ts)
terms_drop [] zero h = tt
terms_drop [] (suc i) h = tt
terms_drop (t ∷ ts) zero h = h
terms_drop (t ∷ ts) (suc i) h = terms_drop ts i h.4

-- the atoms of each term are in order
pub term_ordered : (ts : List Term) (i : ℕ) (d : Term) → AreTerms ts → i < length ts → IsMonomial (get_or ts i d).atoms
term_ordered [] i d h l = absurd (omega arith)
term_ordered (t ∷ ts) zero d h l = h.0
term_ordered (t ∷ ts) (suc i) d h l = term_ordered ts i d h.4 (omega arith)

-- likewise for a term that the code has read
pub read_ordered : (ts : List Term) (t : Term) (i : ℕ) → AreTerms ts → i < length ts → t ≡ get_or ts i t →
    IsMonomial t.atoms
read_ordered ts t i h l r = let P : Term → Type 0 = λ u. IsMonomial u.atoms in subst P (sym r) (term_ordered ts i t h l)

-- the coefficient of a term is a word
pub term_word : (ts : List Term) (i : ℕ) (d : Term) → AreTerms ts → i < length ts → (get_or ts i d).coefficient < 2 ^ 64
term_word [] i d h l = absurd (omega arith)
term_word (t ∷ ts) zero d h l = h.2
term_word (t ∷ ts) (suc i) d h l = term_word ts i d h.4 (omega arith)

-- comparing a term does not depend on the default that is read beyond the terms
read_compares : (ts : List Term) (xs : List ℕ) (t : Term) (k : ℕ) (o : Ordering) → k < length ts → o
    ≡ cmp_atoms (get_or ts k t).atoms xs → (d : Term) → cmp_atoms (get_or ts k d).atoms xs ≡ o
read_compares ts xs t k o l e d = ap (λ (u : Term). cmp_atoms u.atoms xs) (get_or_default ts k d t l) ∙ sym e

-- the search ends at the term's place
pub search_there : (ts : List Term) (xs : List ℕ) (t : Term) (k : ℕ) (o : Ordering) → k < length ts → o
    ≡ cmp_atoms (get_or ts k t).atoms xs → o ≡ Equal → IsThere ts xs k
search_there ts xs t k o l e g = record {
  within = l;
  same = λ d. atoms_equal (get_or ts k d).atoms xs (read_compares ts xs t k o l e d ∙ g);
}

-- the search continues after a smaller term
pub search_after : (ts : List Term) (xs : List ℕ) (t : Term) (k : ℕ) (o : Ordering) → k < length ts → o
    ≡ cmp_atoms (get_or ts k t).atoms xs → o ≡ Less
    → (d : Term) (j : ℕ) → j + 1 ≡ k + 1 → cmp_atoms (get_or ts j d).atoms xs ≡ Less
search_after ts xs t k o l e g d j q = let s : j ≡ k = omega (arith, q) in rw s (read_compares ts xs t k o l e d ∙ g)

-- the search continues before a larger term
pub search_before : (ts : List Term) (xs : List ℕ) (t : Term) (k : ℕ) (o : Ordering) → k < length ts → o
    ≡ cmp_atoms (get_or ts k t).atoms xs → o ≡ Greater
    → (d : Term) → k < length ts → cmp_atoms xs (get_or ts k d).atoms ≡ Less
search_before ts xs t k o l e g d m = atoms_turned (get_or ts k d).atoms xs (read_compares ts xs t k o l e d ∙ g)

-- the middle of two places is between them
pub halves : (low high : ℕ) → low < high → (low ≤ low + (high - low) / 2) × (low + (high - low) / 2 < high)
halves low high l = (omega arith, omega (arith, l))

-- a number other than 0 is positive
pub positive : (n : ℕ) → (n ≡ 0 → ⊥) → 0 < n
positive zero h = absurd (h refl)
positive (suc n) h = omega arith
