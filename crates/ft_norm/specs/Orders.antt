-- The order in which entries keep terms. It goes by numbers, so no comparison looks into a form.
use Rattle.std.specs.Prelude.{ℕ, ◌<◌, ◌≤◌, ◌^◌, ◌≡◌, List, [], ◌∷◌, length}
use Rattle.std.specs.Cmp.Lexicographic.{slice_cmp}
use Rattle.std.specs.Ordering.{nat_cmp}
use Rattle.std.specs.declared.cmp.Ordering.{Ordering}
use Rattle.std.specs.declared.cmp.Ordering.TheVariants.{Less}
use Rattle.ft_norm.specs.declared.entry.Term.{Term}

-- compares the atoms of two monomials by the first number that differs
abbrev pub cmp_atoms : List ℕ → List ℕ → Ordering
cmp_atoms = slice_cmp nat_cmp

-- the number is at most the first of these, if there is one
abbrev pub Leads : ℕ → List ℕ → Type 0
Leads x [] = Unit {0}
Leads x (y ∷ ys) = x ≤ y

-- the numbers never decrease
abbrev pub AreOrdered : List ℕ → Type 0
AreOrdered [] = Unit {0}
AreOrdered (x ∷ xs) = Leads x xs × AreOrdered xs

-- the atoms of a monomial, padded with zeros in front
abbrev pub IsMonomial : List ℕ → Type 0
IsMonomial xs = (length xs ≡ 4) × AreOrdered xs

-- the atoms are below those of the first term, if there is one
abbrev pub Precedes : List ℕ → List Term → Type 0
Precedes xs [] = Unit {0}
Precedes xs (t ∷ ts) = cmp_atoms xs t.atoms ≡ Less

-- terms whose monomials are strictly increasing, with words other than 0 as coefficients
abbrev pub AreTerms : List Term → Type 0
AreTerms [] = Unit {0}
AreTerms (t ∷ ts) = IsMonomial t.atoms × (0 < t.coefficient) × (t.coefficient < 2 ^ 64) × Precedes t.atoms ts × AreTerms ts
