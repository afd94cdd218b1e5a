-- What opened files gave.
use Rattle.std.specs.Prelude.{ℕ, Bool, true, false, ◌||◌, List, [], ◌∷◌, ◌++◌}

-- the name under which a file was opened, the bytes that its reads returned, in order, and whether one found the end
pub record HeardFile : Type 0 where
  pub name : List ℕ
  pub given : List ℕ
  pub ended : Bool

-- whether a read that had room returned nothing
abbrev pub is_end : List ℕ → Bool
is_end [] = true
is_end (b ∷ bs) = false

-- one more file was opened
abbrev pub opened : List HeardFile → List ℕ → List HeardFile
opened files name = record { name = name; given = []; ended = false } ∷ files

-- the newest file gave these bytes, and its end was found or not
abbrev pub gives : List HeardFile → List ℕ → Bool → List HeardFile
gives [] bytes ended = []
gives (file ∷ files) bytes ended = record { name = file.name; given = file.given ++ bytes; ended = ended || file.ended } ∷ files

-- a read of the newest file returned these bytes
abbrev pub gave : List HeardFile → List ℕ → List HeardFile
gave files bytes = gives files bytes (is_end bytes)
