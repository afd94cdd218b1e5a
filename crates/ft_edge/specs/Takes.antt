-- What takes return, and what may be left after them.
use Rattle.std.specs.Prelude.{◌≡◌, ℕ, ◌<◌, true, List, [], ◌∷◌, ◌++◌, length, take, Option, Result, Ok, Err}
use Rattle.std.specs.Option.{option_map}
use Rattle.ft_history.specs.Files.{is_end}

-- the recorded reads, if there are any, with the bytes of this one, unless it failed
abbrev pub after_read : {E : Type 0} → Option (List (List ℕ)) → Result ℕ E → List ℕ → Option (List (List ℕ))
after_read told (Ok count) buf = option_map (λ reads. take count buf ∷ reads) told
after_read told (Err e) buf = told

-- before the take these bytes may have been left: what it returned, and the rest, of which there is none at the end
abbrev pub TakesBack : {E : Type 0} → (List ℕ → Type 0) → List ℕ → Result ℕ E → List ℕ → Type 0
TakesBack Left rest (Ok count) buf = Left (take count buf ++ rest) × (count ≡ 0 → 0 < length buf → rest ≡ [])
TakesBack Left rest (Err e) buf = Left rest

-- the bytes that agree with these reads, the newest first: no byte comes after a read that found the end
abbrev pub MayBeLeft : List (List ℕ) → List ℕ → Type 0
MayBeLeft [] rest = Unit {0}
MayBeLeft (bytes ∷ reads) rest = MayBeLeft reads (bytes ++ rest) × (is_end bytes ≡ true → rest ≡ [])
