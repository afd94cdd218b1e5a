-- Appending twice, or appending nothing, to what is known or recorded.
use Rattle.std.proofs.Common.{◌≡◌, ℕ, List, [], ◌++◌, Option, Some, None, refl, ap, sym, append_assoc, append-nil}
use Rattle.std.specs.Io.KnownBytes.{append_known}
use Rattle.ft_edge.specs.Told.{append_told}

pub known_more : (known : Option (List ℕ)) (xs ys : List ℕ) → append_known (append_known known xs) ys
    ≡ append_known known (xs ++ ys)
known_more None xs ys = refl
known_more (Some zs) xs ys = ap Some (append_assoc zs xs ys)

pub known_none : (known : Option (List ℕ)) → known ≡ append_known known []
known_none None = refl
known_none (Some zs) = ap Some (sym (append-nil zs))

pub told_more : {X : Type 0} (told : Option (List X)) (xs ys : List X) → append_told (append_told told xs) ys
    ≡ append_told told (xs ++ ys)
told_more None xs ys = refl
told_more (Some zs) xs ys = ap Some (append_assoc zs xs ys)

pub told_none : {X : Type 0} (told : Option (List X)) → told ≡ append_told told []
told_none None = refl
told_none (Some zs) = ap Some (sym (append-nil zs))
