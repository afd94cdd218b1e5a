-- The four numbers of a monomial.
use Rattle.std.proofs.Common.{ℕ, zero, suc, Bool, true, false, cond, not, ◌==◌, zero-add, ◌≡◌, ◌+◌, ◌<◌, ◌≤◌, List, []}
use Rattle.std.proofs.Common.{◌∷◌, get_or, length, add-one, refl, sym, ap, ◌∙◌, arith}
use Rattle.std.proofs.lemmas.Bool.{eqb-true}
use Rattle.std.proofs.lemmas.List.Recursion.{is_count_by}
use Rattle.std.specs.Cmp.{nat_cmp_is}
use Rattle.std.specs.List.{count_by}
use Rattle.std.specs.Ordering.{nat_cmp}
use Rattle.std.specs.declared.cmp.Ordering.TheVariants.{Less}
use Rattle.ft_norm.specs.Entries.{present, size}
use Rattle.ft_norm.specs.Orders.{AreOrdered, IsMonomial, cmp_atoms}

-- the numbers of the monomial without atoms
abbrev pub none : List ℕ
none = 0 ∷ 0 ∷ 0 ∷ 0 ∷ []

-- what holds of any four numbers, as a list, holds of any list of length 4
pub four : (P : List ℕ → Type 0) → ((a b c d : ℕ) → P (a ∷ b ∷ c ∷ d ∷ [])) → (xs : List ℕ) → length xs ≡ 4 → P xs
four P f [] e = absurd (omega (arith, e))
four P f (a ∷ []) e = absurd (omega (arith, e))
four P f (a ∷ b ∷ []) e = absurd (omega (arith, e))
four P f (a ∷ b ∷ c ∷ []) e = absurd (omega (arith, e))
four P f (a ∷ b ∷ c ∷ d ∷ []) e = f a b c d
four P f (a ∷ b ∷ c ∷ d ∷ x ∷ xs) e = absurd (omega (arith, e))

-- a monomial without atoms has only zeros
pub no_numbers : (xs : List ℕ) → length xs ≡ 4 → size xs ≡ 0 → xs ≡ none
no_numbers xs l = four (λ ys. size ys ≡ 0 → ys ≡ none) (λ a b c d e.
    rw (
      absent a (omega (arith, e)),
      absent b (omega (arith, e)),
      absent c (omega (arith, e)),
      absent d (omega (arith, e)),
    ) refl) xs l
  where
    absent : (x : ℕ) → present x ≡ 0 → x ≡ 0
    absent zero e = refl
    absent (suc k) e = absurd (omega (arith, e))

-- the monomial without atoms is less than any other
pub none_below : (xs : List ℕ) → length xs ≡ 4 → (size xs ≡ 0 → ⊥) → cmp_atoms none xs ≡ Less
none_below xs l = four (λ ys. (size ys ≡ 0 → ⊥) → cmp_atoms none ys ≡ Less) go xs l
  where
    less : (k : ℕ) → nat_cmp 0 (suc k) ≡ Less
    less k = sym (nat_cmp_is 0 (suc k) Less (omega arith))

    go : (a b c d : ℕ) → (size (a ∷ b ∷ c ∷ d ∷ []) ≡ 0 → ⊥) → cmp_atoms none (a ∷ b ∷ c ∷ d ∷ []) ≡ Less
    go (suc k) b c d n = rw (less k) refl
    go zero (suc k) c d n = rw (less k) refl
    go zero zero (suc k) d n = rw (less k) refl
    go zero zero zero (suc k) n = rw (less k) refl
    go zero zero zero zero n = absurd (n refl)

-- a number other than 0 is the number of an atom
pub some_present : (x : ℕ) → 0 < x → present x ≡ 1
some_present zero l = absurd (omega (arith, l))
some_present (suc k) l = refl

-- a monomial of at most one atom has it in the last place
pub last_number : (xs : List ℕ) → IsMonomial xs → size xs ≤ 1 → xs ≡ 0 ∷ 0 ∷ 0 ∷ get_or xs 3 0 ∷ []
last_number xs h = four (λ ys. AreOrdered ys → size ys ≤ 1 → ys ≡ 0 ∷ 0 ∷ 0 ∷ get_or ys 3 0 ∷ []) go xs h.0 h.1
  where
    go : (a b c d : ℕ) → AreOrdered (a ∷ b ∷ c ∷ d ∷ []) → size (a ∷ b ∷ c ∷ d ∷ []) ≤ 1 → a ∷ b ∷ c ∷ d ∷ []
        ≡ 0 ∷ 0 ∷ 0 ∷ d ∷ []
    go zero zero zero d o e = refl
    go zero zero (suc k) d o e = absurd (let p = some_present d (let w = o.1.1.0 in omega (arith, w)) in
        omega (arith, e, p))
    go zero (suc k) c d o e = absurd (let p = some_present c (let w = o.1.0 in omega (arith, w)) in omega (arith, e, p))
    go (suc k) b c d o e = absurd (let p = some_present b (let w = o.0 in omega (arith, w)) in omega (arith, e, p))

-- a monomial of one atom is three zeros and the atom's number
pub one_number : (xs : List ℕ) → IsMonomial xs → size xs ≡ 1 → (k : ℕ) × (xs ≡ 0 ∷ 0 ∷ 0 ∷ (k + 1) ∷ [])
one_number xs h s = go (get_or xs 3 0) (sym (last_number xs h (omega (arith, s))))
  where
    go : (x : ℕ) → 0 ∷ 0 ∷ 0 ∷ x ∷ [] ≡ xs → (k : ℕ) × (xs ≡ 0 ∷ 0 ∷ 0 ∷ (k + 1) ∷ [])
    go zero e = absurd (let p = ap size e in omega (arith, p, s))
    go (suc k) e = (k, sym e ∙ rw add-one refl)

-- a monomial with room for another atom begins with 0
pub opens : (xs : List ℕ) (x : ℕ) → IsMonomial xs → (x ≡ 0 → ⊥) → present x + size xs ≤ 4 → xs
    ≡ 0 ∷ get_or xs 1 0 ∷ get_or xs 2 0 ∷ get_or xs 3 0 ∷ []
opens xs x h n r = four (λ ys. AreOrdered ys → size ys ≤ 3 → ys
    ≡ 0 ∷ get_or ys 1 0 ∷ get_or ys 2 0 ∷ get_or ys 3 0 ∷ []) go xs h.0 h.1 (let p =
    some_present x (omega (arith, n)) in omega (arith, p, r))
  where
    go : (a b c d : ℕ) → AreOrdered (a ∷ b ∷ c ∷ d ∷ []) → size (a ∷ b ∷ c ∷ d ∷ []) ≤ 3 → a ∷ b ∷ c ∷ d ∷ []
        ≡ 0 ∷ b ∷ c ∷ d ∷ []
    go zero b c d o s = refl
    go (suc k) b c d o s = absurd (
        let p = some_present b (let w = o.0 in omega (arith, w)) in
        let q = some_present c (let v = o.0 in let w = o.1.0 in omega (arith, v, w)) in
        let t = some_present d (let u = o.0 in let v = o.1.0 in let w = o.1.1.0 in omega (arith, u, v, w)) in
        omega (arith, s, p, q, t))

-- the size of a monomial counts its numbers other than 0
pub size_counts : (xs : List ℕ) → count_by (λ x. not (x == 0)) xs ≡ size xs
size_counts xs = sym (is_count_by size (λ x. not (x == 0)) refl step xs)
  where
    step : (x : ℕ) (ys : List ℕ) → size (x ∷ ys) ≡ cond (not (x == 0)) (1 + size ys) (size ys)
    step zero ys = zero-add (size ys)
    step (suc k) ys = rw (other (suc k == 0) refl) refl
      where
        other : (b : Bool) → (suc k == 0) ≡ b → (suc k == 0) ≡ false
        other true e = absurd (let z = eqb-true (suc k) 0 e in omega (arith, z))
        other false e = e

-- a list of four numbers consists of its elements 0 to 3
pub numbers : (xs : List ℕ) → length xs ≡ 4 → xs ≡ get_or xs 0 0 ∷ get_or xs 1 0 ∷ get_or xs 2 0 ∷ get_or xs 3 0 ∷ []
numbers = four (λ ys. ys ≡ get_or ys 0 0 ∷ get_or ys 1 0 ∷ get_or ys 2 0 ∷ get_or ys 3 0 ∷ []) (λ a b c d. refl)
