-- What a buffering sink holds.
use Rattle.std.specs.Prelude.{◌≡◌, ℕ, List, ◌++◌}
use Rattle.ft_edge.specs.Recording.{accepted}
use Rattle.ft_edge.specs.declared.recorded.Recorded.{Recorded}
use Rattle.ft_edge.specs.declared.gathering_sink.GatheringSink.{GatheringSink}

-- the bytes that its writer accepted, followed by the buffer
abbrev pub written_to : {W : Type 0} → GatheringSink W → List ℕ
written_to sink = accepted sink.out ++ sink.gathered.items

-- the writer to which it flushes
abbrev pub sink_writer : {W : Type 0} → GatheringSink W → Recorded W
sink_writer sink = sink.out

-- these bytes are a prefix of the whole
abbrev pub IsFront : List ℕ → List ℕ → Type 0
IsFront front whole = (rest : List ℕ) × (whole ≡ front ++ rest)
