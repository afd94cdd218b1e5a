-- Room for names: private to the code.
use Rattle.std.specs.Prelude.{ℕ, ◌≤◌, List, [], ◌∷◌, length}

-- each name is at most this long
abbrev pub HasRoom : List (List ℕ) → ℕ → Type 0
HasRoom [] room = Unit {0}
HasRoom (name ∷ names) room = (length name ≤ room) × HasRoom names room
