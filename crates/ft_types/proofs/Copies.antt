-- Lists copied element by element.
use Rattle.std.proofs.Common.{◌≡◌, ℕ, suc, ◌+◌, List, [], ◌∷◌, ◌++◌, take, Some, slice_get, sym, ap, ◌∙◌, arith}
use Rattle.ft_isa.proofs.Lists.{take_there}

-- appending element k to a copy of the first k elements gives a copy of the first k + 1
pub grown : {X : Type 0} (xs ys : List X) (k : ℕ) (x : X) → ys ≡ take k xs → slice_get xs k ≡ Some x → ys ++ x ∷ []
    ≡ take (k + 1) xs
grown xs ys k x e f = ap (λ z. z ++ x ∷ []) e ∙ sym (take_there xs k x f) ∙ (let n : suc k ≡ k + 1 = omega arith in
    ap (λ j. take j xs) n)
