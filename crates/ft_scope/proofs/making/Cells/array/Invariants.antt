use Rattle.std.proofs.Common.{◌≡◌, ℕ, List, [], ◌∷◌, ◌++◌}
use Rattle.ft_syntax.specs.Syntax.{Declared, array, Named}
use Rattle.ft_scope.specs.Made.{Made}
use Rattle.ft_scope.proofs.making.Cells.array.Given as goal

abbrev pub invariant-loop-place : goal.invariant-loop-place
invariant-loop-place l = (ds : List Declared) (n : Named) (at : ℕ) → n.text ≡ l.name → Made l.fn.self ds →
    Made l.self (ds ++ array n l.place at l.init ∷ [])
