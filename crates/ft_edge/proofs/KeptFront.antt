-- A put that fails after the buffer was flushed.
use Rattle.std.proofs.Common.{◌≡◌, ℕ, List, ◌++◌, take, Result, Ok, Err, OnErr, ap, ◌∙◌}
use Rattle.ft_edge.specs.Prefixes.{AddsFront}

pub front_after : {A E : Type 0} (r : Result A E) (a b c bs : List ℕ) → b ≡ a →
    OnErr r (AddsFront b c bs) → OnErr r (AddsFront a c bs)
front_after (Ok x) a b c bs k h = h
front_after (Err e) a b c bs k h = (h.0, h.1 ∙ ap (λ l. l ++ take h.0 bs) k)
