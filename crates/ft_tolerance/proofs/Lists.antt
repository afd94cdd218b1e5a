-- Elements that a test finds in a list.
use Rattle.std.proofs.Common.{◌≡◌, ℕ, suc, Bool, true, false, cond, List, [], ◌∷◌, Some, slice_get, refl, ap, subst}
use Rattle.std.specs.Prelude.{find}

-- an element that a test found
pub record Found {X : Type 0} (test : X → Bool) (xs : List X) (x : X) : Type 0 where
  pub place : ℕ
  pub there : slice_get xs place ≡ Some x
  pub passes : test x ≡ true

-- the step of the next lemma, by whether the first element passes the test
found_by : {X : Type 0} (test : X → Bool) (y : X) (ys : List X) (x : X) (b : Bool) → test y ≡ b →
    cond b (Some y) (find test ys) ≡ Some x → (find test ys ≡ Some x → Found test ys x) → Found test (y ∷ ys) x
found_by test y ys x true is h rest = let same : y ≡ x = cc in
    record { place = 0; there = ap Some same; passes = subst (λ z. test z ≡ true) same is }
found_by test y ys x false other h rest = let f = rest h in
    record { place = suc f.place; there = f.there; passes = f.passes }

-- what a test finds is in the list and passes the test
pub found_there : {X : Type 0} (test : X → Bool) (xs : List X) (x : X) → find test xs ≡ Some x → Found test xs x
found_there test [] x e = cc
found_there test (y ∷ ys) x e = found_by test y ys x (test y) refl e (found_there test ys x)
