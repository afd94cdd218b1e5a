-- The parts of a node, replaced by the forms that were made for them. Private to the code.
use Rattle.std.specs.Prelude.{ℕ, ◌≡◌, Bool, true, false, nat_eq, List, Option, Some, None}
use Rattle.indexmap.specs.IndexMap.{IndexMap, get}
use Rattle.ft_static.specs.Form.{Form as Normal, Polynomial, Updates, updates}
use Rattle.ft_static.specs.NormalForm.{form_over}
use Rattle.ft_static.specs.NodeParts.{EachPart, renamed}
use Rattle.ft_isa.specs.Words.{IsLength}
use Rattle.ft_static.specs.declared.node.Shape.{Shape}
use Rattle.ft_static.specs.declared.node.Shape.TheVariants.{Sel, Rem}
use Rattle.ft_norm.specs.declared.form.Form.{Form}
use Rattle.ft_norm.specs.Held.{IsInteger, IsMemory, polynomial_at, updates_at}

-- the number of a form, 0 if there is none
abbrev pub number_of : Option Form → ℕ
number_of None = 0
number_of (Some f) = f.0

-- the number of the form made for node k
abbrev pub number_in : {S : Type 0} → IndexMap ℕ Form S → ℕ → ℕ
number_in m k = number_of (get nat_eq m k)

-- a form was made for node k
pub record IsMade {S : Type 0} (m : IndexMap ℕ Form S) (k : ℕ) : Type 0 where
  pub form : Form
  pub found : get nat_eq m k ≡ Some form

-- a form was made for each part of the first node, and the second node is the first with each part replaced by the
-- number of its form
pub record AreMade {S : Type 0} (m : IndexMap ℕ Form S) (x y : Shape) : Type 0 where
  pub found : EachPart (λ s k. IsMade m k) x
  pub named : y ≡ renamed (number_in m) x

-- form i is held, and is a memory's or an integer's, as required
abbrev pub IsOfSort : List Normal → Bool → ℕ → Type 0
IsOfSort fs true i = IsMemory fs (record { 0 = i })
IsOfSort fs false i = IsInteger fs (record { 0 = i })

-- the length of a remainder is valid
abbrev pub HasLength : Shape → Type 0
HasLength (Rem a m) = IsLength m
HasLength x = Unit {0}

-- each part is the number of a form that is held and of the required sort, and the length of a remainder is valid
abbrev pub HaveSorts : List Normal → Shape → Type 0
HaveSorts fs x = EachPart (IsOfSort fs) x × HasLength x

-- the form of a node whose parts are the numbers of these forms
abbrev pub form_of_parts : List Polynomial → Updates → List Normal → Shape → Normal
form_of_parts ps u fs x = form_over ps u (polynomial_at fs) (updates_at fs) x

-- how many updates a walk for this node can pass
abbrev pub updates_of_parts : List Normal → Shape → ℕ
updates_of_parts fs (Sel f g) = updates (updates_at fs f)
updates_of_parts fs x = 0
