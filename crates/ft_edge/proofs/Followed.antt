-- What follows when a writer's contents grew by exactly what its record grew by.
use Rattle.std.proofs.Common.{◌≡◌, ℕ, List, ◌++◌, Option, subst, sym, ◌∙◌}
use Rattle.std.proofs.lemmas.List.{append_cancel_left}
use Rattle.std.specs.Io.KnownBytes.{Appends}
use Rattle.ft_edge.specs.Recording.{accepted, recorded_writer, Follows}
use Rattle.ft_edge.specs.declared.recorded.Recorded.{Recorded}

-- if the record grew by these bytes, so did known contents
pub follows_by : {W : Type 0} (contents : W → Option (List ℕ)) (old new : Recorded W) (bytes : List ℕ) →
    Follows contents old new → accepted new ≡ accepted old ++ bytes →
    Appends (contents (recorded_writer old)) (contents (recorded_writer new)) bytes
follows_by contents old new bytes h e =
    subst (Appends _ _) (append_cancel_left (accepted old) h.more bytes (sym h.record_grew ∙ e)) h.contents_grew
