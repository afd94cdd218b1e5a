-- The terms of a polynomial, their places, and what the functions on them require. Private to the code.
use Rattle.std.specs.Prelude.{ℕ, ◌+◌, ◌-◌, ◌%◌, ◌^◌, ◌<◌, ◌≤◌, ◌≡◌, ◌==◌, List, [], ◌∷◌, if◌then◌else◌, length, map, slice_index_or}
use Rattle.std.specs.declared.cmp.Ordering.TheVariants.{Less}
use Rattle.ft_static.specs.Form.{Form}
use Rattle.ft_norm.specs.declared.entry.Term.{Term}
use Rattle.ft_norm.specs.declared.terms.Terms.{Terms}
use Rattle.ft_norm.specs.declared.terms.Terms.TheVariants as view
use Rattle.ft_norm.specs.Orders.{AreTerms, cmp_atoms}
use Rattle.ft_norm.specs.Packing.{ArePacked, HaveSmall, unpacked}
use Rattle.ft_norm.specs.Entries.{IsDistinct, alone_term, full, greatest, reach_of_terms, size}

-- the terms, however they are kept
abbrev pub terms_of : Terms → List Term
terms_of (view.Atom x) = alone_term x ∷ []
terms_of (view.Linear ts) = map full ts.now
terms_of (view.Packed ts) = map unpacked ts.now
terms_of (view.Full ts) = ts.now

-- the terms are kept as entries keep them
abbrev pub IsView : Terms → Type 0
IsView (view.Atom x) = 0 < x
IsView (view.Linear ts) = Unit {0}
IsView (view.Packed ts) = (2 ≤ greatest (map unpacked ts.now)) × ArePacked ts.now
IsView (view.Full ts) = (2 ≤ greatest ts.now) × (HaveSmall ts.now → ⊥)

-- a term with its coefficient negated
abbrev pub negated_term : Term → Term
negated_term t = record { atoms = t.atoms; coefficient = (2 ^ 64 - t.coefficient % 2 ^ 64) % 2 ^ 64 }

-- place i has the term with these atoms
pub record IsThere (ts : List Term) (xs : List ℕ) (i : ℕ) : Type 0 where
  pub within : i < length ts
  pub same : (t : Term) → (slice_index_or ts i t).atoms ≡ xs

-- place i is where a term with these atoms belongs, if there is none yet
pub record IsPlace (ts : List Term) (xs : List ℕ) (i : ℕ) : Type 0 where
  pub within : i ≤ length ts
  pub after : (t : Term) (j : ℕ) → j + 1 ≡ i → cmp_atoms (slice_index_or ts j t).atoms xs ≡ Less
  pub before : (t : Term) → i < length ts → cmp_atoms xs (slice_index_or ts i t).atoms ≡ Less

-- terms as entries keep them, over distinct forms that include those that the terms name
pub record AreOver (fs : List Form) (ts : List Term) : Type 0 where
  pub terms : AreTerms ts
  pub distinct : IsDistinct fs
  pub reach : reach_of_terms fs ts ≤ length fs

-- the constant among ordered terms, or 0; a constant comes first
abbrev pub constant_among : List Term → ℕ
constant_among [] = 0
constant_among (t ∷ ts) = if size t.atoms == 0 then t.coefficient else 0

-- ordered terms without the constant
abbrev pub others : List Term → List Term
others [] = []
others (t ∷ ts) = if size t.atoms == 0 then ts else t ∷ ts
