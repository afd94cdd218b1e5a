-- Atoms may be multiplied in any order, and into either factor of a product.
use Rattle.std.proofs.Common.{ℕ, suc, zero, ◌≡◌, ◌≢◌, List, [], ◌∷◌, refl, sym, ap, ◌∙◌, arith, zero-add}
use Rattle.std.specs.Ordering.{ordering_reverse}
use Rattle.std.specs.declared.cmp.Ordering.{Ordering}
use Rattle.std.specs.declared.cmp.Ordering.TheVariants.{Less, Equal, Greater}
use Rattle.ft_static.specs.Form.{Form, Atom, Monomial, factors, one, times, cmp_atom}
use Rattle.ft_static.specs.NormalForm.{join, with_factor}
use Rattle.ft_static.proofs.Cases.{by_cases}
use Rattle.ft_static.proofs.Spelled.{atom_equal, cmp_atom_total}
use Rattle.ft_static.proofs.Proper.{factors_with}
use Rattle.ft_norm.specs.Entries.{atom_at, monomial_form, size, with_atom}

-- an atom that is not greater than the first goes in front of it
first_of_all : (a d : Atom) (m : Monomial) → cmp_atom a d ≢ Greater → with_factor a (times d m) ≡ times a (times d m)
first_of_all a d m h = by_cases (λ n. n ≡ times a (times d m)) (cmp_atom a d) (times a (times d m))
    (times a (times d m)) (times d (with_factor a m)) (λ e. refl) (λ e. refl) (λ e. absurd (h e))

-- a greater one goes behind it
later : (a d : Atom) (m : Monomial) → cmp_atom a d ≡ Greater → with_factor a (times d m) ≡ times d (with_factor a m)
later a d m h = rw h refl

-- if one atom is less than another, the other is greater, and conversely
less_turned : (a b : Atom) → cmp_atom a b ≡ Less → cmp_atom b a ≡ Greater
less_turned a b e = cmp_atom_total.antisymm b a ∙ ap ordering_reverse e

greater_turned : (a b : Atom) → cmp_atom a b ≡ Greater → cmp_atom b a ≡ Less
greater_turned a b e = cmp_atom_total.antisymm b a ∙ ap ordering_reverse e

-- less is not greater
less_not : (a b : Atom) → cmp_atom a b ≡ Less → cmp_atom a b ≢ Greater
less_not a b e k = let x : Less ≡ Greater = sym e ∙ k in cc

-- what follows from each result of a comparison holds
cases : (G : Type 0) (a b : Atom) → (cmp_atom a b ≡ Less → G) → (a ≡ b → G) → (cmp_atom a b ≡ Greater → G) → G
cases G a b f g h = go (cmp_atom a b) refl
  where
    go : (o : Ordering) → cmp_atom a b ≡ o → G
    go Less e = f e
    go Equal e = g (atom_equal a b e)
    go Greater e = h e

-- likewise, with two of the three results taken together
either : (G : Type 0) (a b : Atom) → (cmp_atom a b ≢ Greater → G) → (cmp_atom a b ≡ Greater → G) → G
either G a b f h = go (cmp_atom a b) refl
  where
    go : (o : Ordering) → cmp_atom a b ≡ o → G
    go Less e = f (λ k. let x : Less ≡ Greater = sym e ∙ k in cc)
    go Equal e = f (λ k. let x : Equal ≡ Greater = sym e ∙ k in cc)
    go Greater e = h e

-- two atoms may be inserted in either order if neither is greater than the first atom
both_first : (a b d : Atom) (m : Monomial) → cmp_atom a d ≢ Greater → cmp_atom b d ≢ Greater →
    with_factor a (with_factor b (times d m)) ≡ with_factor b (with_factor a (times d m))
both_first a b d m h k =
    ap (with_factor a) (first_of_all b d m k) ∙ (cases (with_factor a (times b (times d m))
    ≡ with_factor b (times a (times d m))) a b
    (λ e. first_of_all a b (times d m) (less_not a b e)
    ∙ (ap (times a) (sym (first_of_all b d m k)) ∙ sym (later b a (times d m) (less_turned a b e))))
    (λ e. ap (λ t. with_factor t (times b (times d m))) e ∙ ap (λ t. with_factor b (times t (times d m))) (sym e))
    (λ e. later a b (times d m) e ∙ (ap (times b) (first_of_all a d m h)
    ∙ sym (first_of_all b a (times d m) (less_not b a (greater_turned a b e)))))
    ∙ ap (with_factor b) (sym (first_of_all a d m h)))

-- if `a` is at most `d`, and `b` is greater than `d`, then `b` is greater than `a`
above : (a b d : Atom) → cmp_atom a d ≢ Greater → cmp_atom b d ≡ Greater → cmp_atom b a ≡ Greater
above a b d h k = cases (cmp_atom b a ≡ Greater) a d
    (λ e. less_turned a b (cmp_atom_total.trans a d b e (greater_turned b d k)))
    (λ e. ap (cmp_atom b) e ∙ k)
    (λ e. absurd (h e))

-- likewise if one is not greater than the first atom, and the other is
one_first : (a b d : Atom) (m : Monomial) → cmp_atom a d ≢ Greater → cmp_atom b d ≡ Greater →
    with_factor a (with_factor b (times d m)) ≡ with_factor b (with_factor a (times d m))
one_first a b d m h k =
    ap (with_factor a) (later b d m k) ∙ (first_of_all a d (with_factor b m) h
    ∙ (ap (times a) (sym (later b d m k)) ∙ (sym (later b a (times d m) (above a b d h k))
    ∙ ap (with_factor b) (sym (first_of_all a d m h)))))

-- two atoms may be multiplied in either order
pub with_swap : (a b : Atom) (m : Monomial) → with_factor a (with_factor b m) ≡ with_factor b (with_factor a m)
with_swap a b one = cases (with_factor a (times b one) ≡ with_factor b (times a one)) a b
    (λ e. first_of_all a b one (less_not a b e) ∙ sym (later b a one (less_turned a b e)))
    (λ e. rw e refl)
    (λ e. later a b one e ∙ sym (first_of_all b a one (less_not b a (greater_turned a b e))))
with_swap a b (times d m) = either (with_factor a (with_factor b (times d m))
    ≡ with_factor b (with_factor a (times d m))) a d
    (λ h. either (with_factor a (with_factor b (times d m)) ≡ with_factor b (with_factor a (times d m))) b d (λ k.
    both_first a b d m h k) (λ k. one_first a b d m h k))
    (λ h. either (with_factor a (with_factor b (times d m)) ≡ with_factor b (with_factor a (times d m))) b d
    (λ k. sym (one_first b a d m k h))
    (λ k. ap (with_factor a) (later b d m k) ∙ (later a d (with_factor b m) h
    ∙ (ap (times d) (with_swap a b m) ∙ (sym (later b d (with_factor a m) k)
    ∙ ap (with_factor b) (sym (later a d m h)))))))

-- multiplying the second factor by an atom multiplies the product by it
pub join_with : (m : Monomial) (a : Atom) (n : Monomial) → join m (with_factor a n) ≡ with_factor a (join m n)
join_with one a n = refl
join_with (times b m) a n = ap (join m) (with_swap b a n) ∙ join_with m a (with_factor b n)

-- multiplying the first factor by an atom multiplies the product by it
join_added : (a : Atom) (m n : Monomial) → join (with_factor a m) n ≡ with_factor a (join m n)
join_added a one n = refl
join_added a (times b m) n = either (join (with_factor a (times b m)) n ≡ with_factor a (join (times b m) n)) a b
    (λ h. ap (λ k. join k n) (first_of_all a b m h) ∙ join_with (times b m) a n)
    (λ h. ap (λ k. join k n) (later a b m h) ∙ join_added a m (with_factor b n))

-- two atoms given by number may be multiplied in either order
pub atoms_swap : (fs : List Form) (x y : ℕ) (m : Monomial) → with_atom fs x (with_atom fs y m)
    ≡ with_atom fs y (with_atom fs x m)
atoms_swap fs zero y m = refl
atoms_swap fs (suc i) zero m = refl
atoms_swap fs (suc i) (suc j) m = with_swap (atom_at fs i) (atom_at fs j) m

-- multiplying the first factor by an atom given by number multiplies the product by it
pub join_atom : (fs : List Form) (x : ℕ) (m n : Monomial) → join (with_atom fs x m) n ≡ with_atom fs x (join m n)
join_atom fs zero m n = refl
join_atom fs (suc i) m n = join_added (atom_at fs i) m n

-- the atoms of the first factor are multiplied into the second, last one first
pub join_atoms : (fs : List Form) (a b c d : ℕ) (n : Monomial) → join (monomial_form fs (a ∷ b ∷ c ∷ d ∷ [])) n
    ≡ with_atom fs a (with_atom fs b (with_atom fs c (with_atom fs d n)))
join_atoms fs a b c d n =
    join_atom fs a (monomial_form fs (b ∷ c ∷ d ∷ [])) n
    ∙ (ap (with_atom fs a) (join_atom fs b (monomial_form fs (c ∷ d ∷ [])) n)
    ∙ (ap (λ k. with_atom fs a (with_atom fs b k)) (join_atom fs c (monomial_form fs (d ∷ [])) n)
    ∙ ap (λ k. with_atom fs a (with_atom fs b (with_atom fs c k))) (join_atom fs d one n)))

-- a monomial has as many atoms as its list of numbers
pub factors-monomial_form : (fs : List Form) (xs : List ℕ) → factors (monomial_form fs xs) ≡ size xs
factors-monomial_form fs [] = refl
factors-monomial_form fs (zero ∷ xs) = factors-monomial_form fs xs ∙ sym (zero-add (size xs))
factors-monomial_form fs (suc k ∷ xs) = factors_with (atom_at fs k) (monomial_form fs xs)
    ∙ (let h = factors-monomial_form fs xs in omega (arith, h))
