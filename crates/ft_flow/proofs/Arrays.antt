-- The names of an array's cells, one by one.
use Rattle.std.proofs.Common.{◌≡◌, ℕ, suc, ◌+◌, ◌-◌, ◌<◌, List, [], ◌∷◌, ◌++◌, Some, map, sym, ap, ◌∙◌, arith}
use Rattle.std.proofs.Common.{append_assoc}
use Rattle.std.proofs.lemmas.List.{map-append}
use Rattle.ft_scope.specs.CellNames.{array_names, cell_name}

-- the names from a place on begin with the name at this place
pub array_turn : (text : List ℕ) (k n : ℕ) → k < n → array_names text k (n - k)
    ≡ cell_name text (Some k) ∷ array_names text (k + 1) (n - (k + 1))
array_turn text k n lt = let e : n - k ≡ suc (n - (k + 1)) = omega (arith, lt) in ap (array_names text k) e

-- one more name is appended
pub names_turn : {A : Type 0} (f : A → List ℕ) (xs ys : List A) (x : A) (text : List ℕ) (k n : ℕ)
    (all : List (List ℕ)) → k < n → ys ≡ xs ++ x ∷ [] → f x ≡ cell_name text (Some k) →
    map f xs ++ array_names text k (n - k) ≡ all →
    map f ys ++ array_names text (k + 1) (n - (k + 1)) ≡ all
names_turn f xs ys x text k n all lt added e same =
    ap (λ l. map f l ++ array_names text (k + 1) (n - (k + 1))) added
    ∙ ap (λ l. l ++ array_names text (k + 1) (n - (k + 1))) (map-append f xs (x ∷ []))
    ∙ append_assoc (map f xs) (f x ∷ []) (array_names text (k + 1) (n - (k + 1)))
    ∙ ap (λ m. map f xs ++ m ∷ array_names text (k + 1) (n - (k + 1))) e
    ∙ ap (λ l. map f xs ++ l) (sym (array_turn text k n lt))
    ∙ same
