-- What is appended to bytes.
use Rattle.std.specs.Prelude.{◌≡◌, ℕ, List, ◌++◌}

-- the new bytes are the old ones followed by this piece
pub record Puts (old new piece : List ℕ) : Type 0 where
  pub added : new ≡ old ++ piece
