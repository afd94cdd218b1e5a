-- The normal forms that an interner holds, by place and by `Form`.
use Rattle.std.specs.Prelude.{ℕ, ◌≡◌, ◌⊎◌, List, Option, Some, map, slice_get}
use Rattle.std.specs.Option.{unwrap_or}
use Rattle.ft_static.specs.Form.{Form as Normal, integer_form, memory_form, polynomial_of, updates_of, Polynomial, Updates, nought}
use Rattle.ft_norm.specs.declared.form.Form.{Form}

-- the polynomial at index i of a list
abbrev pub polynomial_at : List Normal → ℕ → Polynomial
polynomial_at fs i = polynomial_of (unwrap_or (slice_get fs i) (integer_form nought))

-- the updates at index i of a list
abbrev pub updates_at : List Normal → ℕ → Updates
updates_at fs i = updates_of (unwrap_or (slice_get fs i) (integer_form nought))

-- the normal form that a `Form` stands for; `None` if the list does not hold it
abbrev pub held : List Normal → Form → Option Normal
held fs f = slice_get fs f.0

-- the polynomial that a `Form` stands for
abbrev pub polynomial : List Normal → Form → Polynomial
polynomial fs f = polynomial_at fs f.0

-- the updates that a `Form` stands for
abbrev pub updates_held : List Normal → Form → Updates
updates_held fs f = updates_at fs f.0

-- the list holds a `Form`, and it stands for an integer
pub record IsInteger (fs : List Normal) (f : Form) : Type 0 where
  pub found : held fs f ≡ Some (integer_form (polynomial fs f))

-- the list holds a `Form`, and it stands for a memory
pub record IsMemory (fs : List Normal) (f : Form) : Type 0 where
  pub found : held fs f ≡ Some (memory_form (updates_held fs f))

-- the list holds a `Form`
abbrev pub IsHeld : List Normal → Form → Type 0
IsHeld fs f = IsInteger fs f ⊎ IsMemory fs f

-- each of these forms is held and stands for an integer
abbrev pub AreIntegers : List Normal → List Form → Type 0
AreIntegers fs xs = (i : ℕ) (f : Form) → slice_get xs i ≡ Some f → IsInteger fs f

-- the polynomials that these forms stand for
abbrev pub polynomials : List Normal → List Form → List Polynomial
polynomials fs xs = map (polynomial fs) xs

-- the second list holds what the first does, unchanged
pub record Keeps (fs gs : List Normal) : Type 0 where
  pub forms_stay : (f : Form) (x : Normal) → held fs f ≡ Some x → held gs f ≡ Some x
  pub integers_stay : (f : Form) → IsInteger fs f → IsInteger gs f
  pub memories_stay : (f : Form) → IsMemory fs f → IsMemory gs f
  pub polynomials_stay : (f : Form) → IsInteger fs f → polynomial gs f ≡ polynomial fs f
  pub updates_stay : (f : Form) → IsMemory fs f → updates_held gs f ≡ updates_held fs f
