-- A prefix was added to known bytes.
use Rattle.std.specs.Prelude.{◌≡◌, ℕ, List, ◌++◌, take}

-- a prefix of the bytes was added
abbrev pub AddsFront : List ℕ → List ℕ → List ℕ → Type 0
AddsFront old new bytes = (count : ℕ) × (new ≡ old ++ take count bytes)
