-- Terms of at most one atom, and the general terms that they represent.
use Rattle.std.proofs.Common.{ℕ, suc, zero, Option, None, Some, ◌≡◌, ◌≢◌, ◌+◌, ◌<◌, ◌≤◌, List, [], ◌∷◌, ◌++◌, get_or}
use Rattle.std.proofs.Common.{length, take, refl, sym, ap, ◌∙◌, arith, map}
use Rattle.std.specs.Prelude.{IfNone}
use Rattle.std.proofs.lemmas.List.{get_or_default, map-append}
use Rattle.ft_norm.specs.declared.entry.LinearTerm.{LinearTerm}
use Rattle.ft_norm.specs.declared.entry.Term.{Term}
use Rattle.ft_norm.specs.Entries.{alone_term, full, greatest, present, size}
use Rattle.ft_norm.specs.Orders.{AreTerms, IsMonomial}
use Rattle.ft_norm.proofs.Numbers.{last_number}
use Rattle.ft_norm.proofs.Ordered.{term_ordered}
use Rattle.ft_norm.proofs.Sums.{taken_more}

-- a linear term is determined by the term that it represents
full_itself : (x y : LinearTerm) → full x ≡ full y → x ≡ y
full_itself x y e =
    let a : x.atom ≡ y.atom = ap (λ (t : Term). get_or t.atoms 3 0) e in
    let c : x.coefficient ≡ y.coefficient = ap (λ (t : Term). t.coefficient) e in
    ap (λ z. let t : LinearTerm = record { atom = z; coefficient = x.coefficient } in t) a
    ∙ ap (λ z. let t : LinearTerm = record { atom = y.atom; coefficient = z } in t) c

-- a list of linear terms is determined by the terms that they represent
pub linears_itself : (xs ys : List LinearTerm) → map full xs ≡ map full ys → xs ≡ ys
linears_itself [] [] e = refl
linears_itself [] (y ∷ ys) e = cc
linears_itself (x ∷ xs) [] e = cc
linears_itself (x ∷ xs) (y ∷ ys) e =
    let h : full x ≡ full y = cc in
    let t : map full xs ≡ map full ys = cc in
    rw (full_itself x y h, linears_itself xs ys t) refl

-- a number stands for at most one atom
pub present_bound : (x : ℕ) → present x ≤ 1
present_bound zero = omega arith
present_bound (suc k) = omega arith

-- so linear terms have degree at most 1
pub linear_degree : (xs : List LinearTerm) → greatest (map full xs) ≤ 1
linear_degree [] = omega arith
linear_degree (x ∷ xs) = let h = linear_degree xs in let a = present_bound x.atom in omega (arith, h, a)

-- a term of at most one atom is a linear term
pub full_last : (t : Term) → IsMonomial t.atoms → size t.atoms ≤ 1 → t
    ≡ full (record { atom = get_or t.atoms 3 0; coefficient = t.coefficient })
full_last t h s = ap (λ (x : List ℕ). let y : Term = record { atoms = x; coefficient = t.coefficient } in
    y) (last_number t.atoms h s)

-- the degree of a term is at most that of all terms
pub term_degree : (ts : List Term) (i : ℕ) (d : Term) → i < length ts → size (get_or ts i d).atoms ≤ greatest ts
term_degree [] i d l = absurd (omega (arith, l))
term_degree (t ∷ ts) zero d l = omega arith
term_degree (t ∷ ts) (suc i) d l = let h = term_degree ts i d (omega (arith, l)) in omega (arith, h)

-- likewise for a term that the code has read
pub read_degree : (ts : List Term) (i : ℕ) (t : Term) → i < length ts → t ≡ get_or ts i t → size t.atoms ≤ greatest ts
read_degree ts i t l r = let e = ap (λ (u : Term). size u.atoms) r in let h = term_degree ts i t l in
    omega (arith, e, h)

-- appending term i, copied as a linear term, to copies of the first i terms gives copies of the first i + 1
pub linear_more : (ts : List Term) (d : Term) (x : LinearTerm) (xs : List LinearTerm) (i : ℕ) → AreTerms ts →
    greatest ts ≤ 1 → map full xs ≡ take i ts → i < length ts
    → x.atom ≡ get_or (get_or ts i d).atoms 3 0 → x.coefficient ≡ (get_or ts i d).coefficient → map full (xs ++ x ∷ [])
    ≡ take (i + 1) ts
linear_more ts d x xs i h g e l a c =
    let t = get_or ts i d in
    let b = term_degree ts i d l in
    let f : full x ≡ t = ap (λ n. let y : Term = record { atoms = 0 ∷ 0 ∷ 0 ∷ n ∷ []; coefficient = x.coefficient } in
    y) a ∙ (ap (λ n. let y : Term = record { atoms = 0 ∷ 0 ∷ 0 ∷ get_or t.atoms 3 0 ∷ []; coefficient = n } in y) c
    ∙ sym (full_last t (term_ordered ts i d h l) (omega (arith, b, g)))) in
    map-append full xs (x ∷ []) ∙ (ap (λ q. map full xs ++ q ∷ []) f
    ∙ taken_more ts (map full xs) t i e l (sym (get_or_default ts i t d l)))

-- terms are not a single atom if the first term is not one
pub lone_other : (o : Option ℕ) (ts : List Term) (d : Term) → IfNone o ((k : ℕ) → get_or ts 0 d ≢ alone_term (k + 1)) →
    IfNone o ((k : ℕ) → ts ≢ alone_term (k + 1) ∷ [])
lone_other None ts d h = λ k e. h k (ap (λ (us : List Term). get_or us 0 d) e)
lone_other (Some x) ts d h = tt
