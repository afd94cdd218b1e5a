-- A loop that appends bytes: the bytes so far, followed by those of the remaining values, are those of all values.
use Rattle.std.proofs.Common.{◌≡◌, ℕ, ◌+◌, ◌<◌, List, [], ◌∷◌, ◌++◌, length, drop, get_or, map, refl, sym, ap, ◌∙◌}
use Rattle.std.proofs.Common.{append_assoc}
use Rattle.std.specs.Int.{Width}
use Rattle.std.specs.List.{flat_map}
use Rattle.std.proofs.lemmas.List.Concat.{flat_map-append}
use Rattle.std.proofs.lemmas.List.{map-append, at_drop_more}
use Rattle.ft_format.specs.Layout.{written, spelled}
use Rattle.ft_format.specs.Puts.{Puts}

-- after one more piece is appended, the bytes so far and those of the remaining values are still those of all values
pub put_goes : {X : Type 0} (gives after : List X → List ℕ) (xs : List X) (i : ℕ) (x : X) (piece out out' all : List ℕ)
    → i < length xs → x ≡ get_or xs i x
    → ((rest : List X) → gives (x ∷ rest) ≡ piece ++ after rest) → Puts out out' piece → out ++ gives (drop i xs)
    ≡ all → out' ++ after (drop (i + 1) xs) ≡ all
put_goes gives after xs i x piece out out' all lt is more p h =
    let rest = drop (i + 1) xs in
    let first : gives (drop i xs) ≡ piece ++ after rest = at_drop_more gives xs i x lt
    ∙ ap (λ y. gives (y ∷ rest)) (sym is) ∙ more rest in
    ap (λ l. l ++ after rest) p.added ∙ append_assoc out piece (after rest) ∙ ap (λ l. out ++ l) (sym first) ∙ h

-- the records of values, one after the other, are the records of the values' rows
pub spelled_map : {X : Type 0} (ws : List Width) (row : X → List ℕ) (xs : List X) →
    flat_map (λ x. written ws (row x)) xs ≡ spelled ws (map row xs)
spelled_map ws row [] = refl
spelled_map ws row (x ∷ xs) = ap (λ l. written ws (row x) ++ l) (spelled_map ws row xs)

-- likewise for the records of the parts of values
pub spelled_parts : {X Y : Type 0} (ws : List Width) (row : Y → List ℕ) (parts : X → List Y) (xs : List X)
    → flat_map (λ x. flat_map (λ y. written ws (row y)) (parts x)) xs ≡ spelled ws (map row (flat_map parts xs))
spelled_parts ws row parts [] = refl
spelled_parts ws row parts (x ∷ xs) =
    ap (λ l. flat_map (λ y. written ws (row y)) (parts x) ++ l) (spelled_parts ws row parts xs)
    ∙ ap (λ l. l ++ spelled ws (map row (flat_map parts xs))) (spelled_map ws row (parts x))
    ∙ sym (ap (spelled ws) (map-append row (parts x) (flat_map parts xs))
    ∙ flat_map-append (written ws) (map row (parts x)) (map row (flat_map parts xs)))
