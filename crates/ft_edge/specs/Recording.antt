-- What a recording writer accepted, and what its writer holds.
use Rattle.std.specs.Prelude.{◌≡◌, ℕ, List, ◌++◌, Option}
use Rattle.std.specs.Io.KnownBytes.{Appends}
use Rattle.ft_edge.specs.declared.recorded.Recorded.{Recorded}

-- the bytes that its writes accepted so far
abbrev pub accepted : {W : Type 0} → Recorded W → List ℕ
accepted writer = writer.taken.bytes

-- the writer under it
abbrev pub recorded_writer : {W : Type 0} → Recorded W → W
recorded_writer writer = writer.out

-- writes accepted more bytes, and known contents of the writer under it grew by exactly these
pub record Follows {W : Type 0} (contents : W → Option (List ℕ)) (old new : Recorded W) : Type 0 where
  pub more : List ℕ
  pub record_grew : accepted new ≡ accepted old ++ more
  pub contents_grew : Appends (contents (recorded_writer old)) (contents (recorded_writer new)) more
