-- The forms that a list of entries represents, and the invariant of the list.
use Rattle.std.specs.Prelude.{ℕ, zero, suc, ◌+◌, ◌^◌, ◌≡◌, ◌≢◌, ◌<◌, ◌≤◌, Bool, true, false, if◌then◌else◌, List, [], ◌∷◌, ◌++◌, Option, None, Some, max, length, map, slice_get, slice_index_or}
use Rattle.ft_static.specs.Form.{Form, integer_form, memory_form, Atom, Monomial, Polynomial, atom_over, has_atom, variable_atom, one, times, nought, plus, unchanged, update}
use Rattle.ft_static.specs.NormalForm.{add_term, alone, with_factor}
use Rattle.ft_static.specs.NodeParts.{greatest_part}
use Rattle.ft_static.specs.declared.node.Shape.{Shape}
use Rattle.ft_norm.specs.Held.{polynomial_at, updates_at}
use Rattle.ft_norm.specs.declared.entry.LinearTerm.{LinearTerm}
use Rattle.ft_norm.specs.declared.entry.Term.{Term}
use Rattle.ft_norm.specs.declared.entry.Entry.{Entry}
use Rattle.ft_norm.specs.declared.entry.Entry.TheVariants as entry
use Rattle.ft_norm.specs.Orders.{AreTerms}
use Rattle.ft_norm.specs.Packing.{ArePacked, HaveSmall, unpacked}

-- the atom of a node whose parts are the numbers of these forms
abbrev pub atom_form : List Form → Shape → Atom
atom_form fs x = atom_over (polynomial_at fs) (updates_at fs) x

-- the atom that a polynomial consists of
abbrev pub atom_of : Polynomial → Atom
atom_of (plus (times a one) c nought) = a
atom_of p = variable_atom 0

-- the atom that the form at index i consists of
abbrev pub atom_at : List Form → ℕ → Atom
atom_at fs i = atom_of (polynomial_at fs i)

-- a monomial times the atom with this number; 0 is no atom, and k + 1 is the atom at index k
abbrev pub with_atom : List Form → ℕ → Monomial → Monomial
with_atom fs zero m = m
with_atom fs (suc k) m = with_factor (atom_at fs k) m

-- the monomial of these atoms, in any order
abbrev pub monomial_form : List Form → List ℕ → Monomial
monomial_form fs [] = one
monomial_form fs (x ∷ xs) = with_atom fs x (monomial_form fs xs)

-- the polynomial of these terms, in any order
abbrev pub polynomial_form : List Form → List Term → Polynomial
polynomial_form fs [] = nought
polynomial_form fs (t ∷ ts) = add_term (monomial_form fs t.atoms) t.coefficient (polynomial_form fs ts)

-- a term of at most one atom, as a term
abbrev pub full : LinearTerm → Term
full t = record { atoms = 0 ∷ 0 ∷ 0 ∷ t.atom ∷ []; coefficient = t.coefficient }

-- the term of one atom with the coefficient 1
abbrev pub alone_term : ℕ → Term
alone_term x = record { atoms = 0 ∷ 0 ∷ 0 ∷ x ∷ []; coefficient = 1 }

-- the form of an entry
abbrev pub entry_form : List Form → Entry → Form
entry_form fs (entry.Atom a) = integer_form (alone (atom_form fs a))
entry_form fs (entry.Linear ts) = integer_form (polynomial_form fs (map full ts.items))
entry_form fs (entry.Packed ts) = integer_form (polynomial_form fs (map unpacked ts.items))
entry_form fs (entry.Full ts) = integer_form (polynomial_form fs ts.items)
entry_form fs entry.Unchanged = memory_form unchanged
entry_form fs (entry.Update at value older) = memory_form (update (polynomial_at fs at) (polynomial_at fs value) (updates_at fs older))

-- the forms so far, followed by those of these entries
abbrev pub forms_onto : List Form → List Entry → List Form
forms_onto fs [] = fs
forms_onto fs (e ∷ es) = forms_onto (fs ++ (entry_form fs e ∷ [])) es

-- the forms of entries, each from those of the entries before it
abbrev pub forms_of : List Entry → List Form
forms_of es = forms_onto [] es

-- whether there is a form and it is an integer's
abbrev pub is_integer_form : Option Form → Bool
is_integer_form None = false
is_integer_form (Some (integer_form p)) = true
is_integer_form (Some (memory_form u)) = false

-- whether there is a form and it is a memory's
abbrev pub is_memory_form : Option Form → Bool
is_memory_form None = false
is_memory_form (Some (integer_form p)) = false
is_memory_form (Some (memory_form u)) = true

-- one more than the number of a part that must be an integer's form; more than the list's length if it is not
abbrev pub integer_reach : List Form → ℕ → ℕ
integer_reach fs i = i + 1 + (if is_integer_form (slice_get fs i) then 0 else length fs)

-- likewise for a part that must be a memory's form
abbrev pub memory_reach : List Form → ℕ → ℕ
memory_reach fs i = i + 1 + (if is_memory_form (slice_get fs i) then 0 else length fs)

-- whether there is a form and it is one atom with the coefficient 1
abbrev pub is_atom_form : Option Form → Bool
is_atom_form (Some (integer_form (plus (times a one) (suc zero) nought))) = true
is_atom_form o = false

-- the number of an atom, or 0; more than the list's length if there is no atom with this number
abbrev pub atom_reach : List Form → ℕ → ℕ
atom_reach fs zero = 0
atom_reach fs (suc k) = k + 1 + (if is_atom_form (slice_get fs k) then 0 else length fs)

-- likewise for a part of the required sort
abbrev pub part_reach : List Form → Bool → ℕ → ℕ
part_reach fs true i = memory_reach fs i
part_reach fs false i = integer_reach fs i

-- one more than the largest number that a node names; more than the list's length if a part is of the wrong sort
abbrev pub reach : List Form → Shape → ℕ
reach fs x = greatest_part (part_reach fs) x

-- likewise for the atoms of a monomial
abbrev pub reach_of_atoms : List Form → List ℕ → ℕ
reach_of_atoms fs [] = 0
reach_of_atoms fs (x ∷ xs) = max (atom_reach fs x) (reach_of_atoms fs xs)

-- likewise for terms
abbrev pub reach_of_terms : List Form → List Term → ℕ
reach_of_terms fs [] = 0
reach_of_terms fs (t ∷ ts) = max (reach_of_atoms fs t.atoms) (reach_of_terms fs ts)

-- likewise for an entry
abbrev pub reach_of_entry : List Form → Entry → ℕ
reach_of_entry fs (entry.Atom a) = reach fs a
reach_of_entry fs (entry.Linear ts) = reach_of_terms fs (map full ts.items)
reach_of_entry fs (entry.Packed ts) = reach_of_terms fs (map unpacked ts.items)
reach_of_entry fs (entry.Full ts) = reach_of_terms fs ts.items
reach_of_entry fs entry.Unchanged = 0
reach_of_entry fs (entry.Update at value older) = max (max (integer_reach fs at) (integer_reach fs value)) (memory_reach fs older)

-- each entry names only earlier ones, each of the required sort
abbrev pub NamesEarlier : List Entry → Type 0
NamesEarlier es = (k : ℕ) (e : Entry) → k < length es → reach_of_entry (forms_of es) (slice_index_or es k e) ≤ k

-- the form at this index is an integer's
abbrev pub IsIntegerAt : List Form → ℕ → Type 0
IsIntegerAt fs i = slice_get fs i ≡ Some (integer_form (polynomial_at fs i))

-- the form at this index consists of one atom
abbrev pub IsAtomAt : List Form → ℕ → Type 0
IsAtomAt fs i = slice_get fs i ≡ Some (integer_form (alone (atom_at fs i)))

-- the form at this index is a memory's
abbrev pub IsMemoryAt : List Form → ℕ → Type 0
IsMemoryAt fs i = slice_get fs i ≡ Some (memory_form (updates_at fs i))

-- no form is in two places
pub record IsDistinct (fs : List Form) : Type 0 where
  pub one : (i j : ℕ) (x : Form) → slice_get fs i ≡ Some x → slice_get fs j ≡ Some x → i ≡ j

-- 1 for the number of an atom, 0 for 0
abbrev pub present : ℕ → ℕ
present zero = 0
present (suc k) = 1

-- how many atoms a monomial has
abbrev pub size : List ℕ → ℕ
size [] = 0
size (x ∷ xs) = present x + size xs

-- the largest number of atoms in a term
abbrev pub greatest : List Term → ℕ
greatest [] = 0
greatest (t ∷ ts) = max (size t.atoms) (greatest ts)

-- an entry as an interner keeps it
abbrev pub IsCanonical : Entry → Type 0
IsCanonical (entry.Atom a) = has_atom a ≡ true
IsCanonical (entry.Linear ts) = AreTerms (map full ts.items) × (length ts.items ≤ 64) × ((k : ℕ) → map full ts.items ≢ alone_term (k + 1) ∷ [])
IsCanonical (entry.Packed ts) = AreTerms (map unpacked ts.items) × (length ts.items ≤ 64) × (2 ≤ greatest (map unpacked ts.items)) × ArePacked ts.items
IsCanonical (entry.Full ts) = AreTerms ts.items × (length ts.items ≤ 64) × (2 ≤ greatest ts.items) × (HaveSmall ts.items → ⊥)
IsCanonical entry.Unchanged = Unit {0}
IsCanonical (entry.Update at value older) = Unit {0}

-- each entry is as an interner keeps it
abbrev pub AreCanonical : List Entry → Type 0
AreCanonical es = (k : ℕ) (e : Entry) → k < length es → IsCanonical (slice_index_or es k e)

-- the invariant of an interner's entries
pub record AreEntries (es : List Entry) : Type 0 where
  pub earlier : NamesEarlier es
  pub distinct : IsDistinct (forms_of es)
  pub canonical : AreCanonical es
  pub few : length es < 2 ^ 32
