-- Views of terms: terms with different views are different.
use Rattle.std.proofs.Common.{ℕ, suc, ◌≡◌, ◌≤◌, ◌-◌, List, [], ◌∷◌, drop, get_or, length, map, refl, sym, take, ap}
use Rattle.std.proofs.Common.{arith, subst}
use Rattle.std.proofs.lemmas.List.{take_all}
use Rattle.ft_norm.specs.declared.entry.LinearTerm.{LinearTerm}
use Rattle.ft_norm.specs.declared.entry.Term.{Term}
use Rattle.ft_norm.specs.declared.packed.PackedTerm.{PackedTerm}
use Rattle.ft_norm.specs.declared.terms.Terms.{Terms}
use Rattle.ft_norm.specs.declared.terms.Terms.TheVariants.{Atom, Linear, Packed, Full}
use Rattle.ft_norm.specs.Entries.{full, greatest, size}
use Rattle.ft_norm.specs.Packing.{ArePacked, HaveSmall, unpacked}
use Rattle.ft_norm.specs.Terms.{IsView, terms_of}
use Rattle.ft_norm.proofs.Linear.{linear_degree, present_bound}
use Rattle.ft_norm.proofs.Packing.{blank, have_small_unpacked, none_small}

-- terms of degree at least 2 are not linear terms
pub linear_full : (xs : List LinearTerm) (ts : List Term) → 2 ≤ greatest ts → map full xs ≡ ts → ⊥
linear_full xs ts h e = let g = ap greatest e in let l = linear_degree xs in omega (arith, g, l, h)

-- terms with an atom that does not fit are not packed terms
pub packed_full : (ps : List PackedTerm) (ts : List Term) → ArePacked ps → (HaveSmall ts → ⊥) → map unpacked ps ≡ ts → ⊥
packed_full ps ts h n e = n (subst HaveSmall e (have_small_unpacked ps h))

-- terms of degree at least 2 are not a single atom
pub atom_full : (x : ℕ) (ts : List Term) → 2 ≤ greatest ts → terms_of (Atom x) ≡ ts → ⊥
atom_full x ts h e = let g = ap greatest e in let l = present_bound x in omega (arith, g, l, h)

-- an `Atom` view has the terms of no view other than an `Atom` or `Linear` one
pub atom_other : (x : ℕ) (q : Terms) → IsView q → ((y : ℕ) → q ≡ Atom y → ⊥) → ((us : _) → q ≡ Linear us → ⊥) →
    terms_of (Atom x) ≡ terms_of q → ⊥
atom_other x (Atom y) v m n e = m y refl
atom_other x (Linear us) v m n e = n us refl
atom_other x (Packed ps) v m n e = atom_full x (map unpacked ps.now) v.0 e
atom_other x (Full ts) v m n e = atom_full x ts.now v.0 e

-- likewise for a `Linear` view
pub linear_other : (xs : List LinearTerm) (q : Terms) → IsView q → ((y : ℕ) → q ≡ Atom y → ⊥) →
    ((us : _) → q ≡ Linear us → ⊥) → map full xs ≡ terms_of q → ⊥
linear_other xs (Atom y) v m n e = m y refl
linear_other xs (Linear us) v m n e = n us refl
linear_other xs (Packed ps) v m n e = linear_full xs (map unpacked ps.now) v.0 e
linear_other xs (Full ts) v m n e = linear_full xs ts.now v.0 e

-- a `Packed` view has the terms of no other kind of view
pub packed_other : (ps : List PackedTerm) (q : Terms) → (2 ≤ greatest (map unpacked ps)) × ArePacked ps → IsView q →
    ((us : _) → q ≡ Packed us → ⊥) → map unpacked ps ≡ terms_of q → ⊥
packed_other ps (Atom x) h v n e = atom_full x (map unpacked ps) h.0 (sym e)
packed_other ps (Linear xs) h v n e = linear_full xs.now (map unpacked ps) h.0 (sym e)
packed_other ps (Packed us) h v n e = n us refl
packed_other ps (Full ts) h v n e = packed_full ps ts.now h.1 v.1 e

-- a `Full` view has the terms of no other kind of view
pub full_other : (ts : List Term) (q : Terms) → (2 ≤ greatest ts) × (HaveSmall ts → ⊥) → IsView q →
    ((us : _) → q ≡ Full us → ⊥) → ts ≡ terms_of q → ⊥
full_other ts (Atom x) h v n e = atom_full x ts h.0 (sym e)
full_other ts (Linear xs) h v n e = linear_full xs.now ts h.0 (sym e)
full_other ts (Packed ps) h v n e = packed_full ps.now ts v.1 h.1 (sym e)
full_other ts (Full us) h v n e = n us refl

-- if the terms of a `Full` view begin with a constant, the other terms are those of a `Full` view, too
pub rest_view : (ts : List Term) → (2 ≤ greatest ts) × (HaveSmall ts → ⊥) → 1 ≤ length ts →
    size (get_or ts 0 blank).atoms ≡ 0
    → (2 ≤ greatest (take (length ts - 1) (drop 1 ts))) × (HaveSmall (take (length ts - 1) (drop 1 ts)) → ⊥)
rest_view [] h l e = absurd (omega (arith, l))
rest_view (t ∷ ts) h l e =
    let rest : take (suc (length ts) - 1) ts ≡ ts = take_all (suc (length ts) - 1) ts (omega arith) in
    subst (λ us. (2 ≤ greatest us) × (HaveSmall us → ⊥)) (sym rest) (
      omega (arith, h.0, e),
      λ s.
          h.1 (none_small t.atoms e, s),
    )
