-- What may be left before a take from a source that reveals its bytes.
use Rattle.std.proofs.Common.{◌≡◌, ℕ, List, ◌++◌, take, Some, Result, Ok, Err, ap, sym, ◌∙◌}
use Rattle.std.specs.Io.KnownBytes.{ReadConsumes}
use Rattle.ft_edge.specs.Takes.{TakesBack}

pub takes_back : {E : Type 0} (r : Result ℕ E) (old new rest buf : List ℕ) → ReadConsumes (Some old) (Some new) r buf →
    rest ≡ new → TakesBack (λ xs. xs ≡ old) rest r buf
takes_back (Ok n) old new rest buf h e = (ap (λ xs. take n buf ++ xs) e ∙ sym h.0, λ z pos. e ∙ h.1 z pos)
takes_back (Err x) old new rest buf h e = e ∙ h
