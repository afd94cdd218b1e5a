-- The result of a walk of `sel`. Private to the code.
use Rattle.std.specs.Prelude.{ℕ, ◌≤◌, List, length}
use Rattle.ft_static.specs.Form.{Form, Polynomial, sel_atom}
use Rattle.ft_static.specs.NormalForm.{alone}
use Rattle.ft_norm.specs.declared.walk.Walk.{Walk}
use Rattle.ft_norm.specs.declared.walk.Walk.TheVariants.{Value, Stop}
use Rattle.ft_norm.specs.Held.{polynomial_at, updates_at}
use Rattle.ft_norm.specs.Entries.{IsIntegerAt, memory_reach}

-- the polynomial that a walk for the address at index p finds
abbrev pub form_of_walk : List Form → ℕ → Walk → Polynomial
form_of_walk fs p (Value v) = polynomial_at fs v
form_of_walk fs p (Stop m) = alone (sel_atom (updates_at fs m) (polynomial_at fs p))

-- the list holds the form at which a walk ends: an integer's if it is the value of an update, else a memory's
abbrev pub EndsWithin : List Form → Walk → Type 0
EndsWithin fs (Value v) = IsIntegerAt fs v
EndsWithin fs (Stop k) = memory_reach fs k ≤ length fs
