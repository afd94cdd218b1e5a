-- What the program writes.
use Rattle.std.specs.Prelude.{◌≡◌, ℕ, List}
use Rattle.std.specs.List.{concat}
use Rattle.ft_edge.specs.Gathered.{IsFront}
use Rattle.ft_tool.specs.Replies.{Answer}

-- the text of an answer was written, and this is its status
pub record Writes (Is : Answer → Type 0) (status : ℕ) (written : List ℕ) : Type 0 where
  pub answer : Answer
  pub is : Is answer
  pub whole : written ≡ concat answer.pieces
  pub status_is : status ≡ answer.status

-- a prefix of the text of an answer was written
pub record WritesFront (Is : Answer → Type 0) (written : List ℕ) : Type 0 where
  pub answer : Answer
  pub is : Is answer
  pub front : IsFront written (concat answer.pieces)
