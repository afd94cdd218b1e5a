-- Elements of lists, and finite maps after a key is removed.
use Rattle.std.proofs.Common.{◌≡◌, ℕ, cond, ◌==◌, List, slice_get, get_or, Some, None, refl}
use Rattle.std.specs.Prelude.{All}
use Rattle.std.specs.Cmp.{nat_cmp_total, unsigned_tied}
use Rattle.std.specs.FinMap as finite
use Rattle.std.proofs.lemmas.Option.{slice_get-get_or}
use Rattle.ft_modules.specs.CodeWalk.{Entered}

-- `All` holds of a list if the property holds of each element
pub all_of : {X : Type 0} (P : X → Type 0) (xs : List X) → ((k : ℕ) (x : X) → slice_get xs k ≡ Some x → P x) → All P xs
all_of P xs h = λ k d lt. h k (get_or xs k d) (slice_get-get_or xs k d lt)

-- after a key is removed, it has no value, and every other key keeps its value
pub get-remove : (m : Entered) (k q : ℕ) → finite.get (finite.remove m k) q ≡ cond (q == k) None (finite.get m q)
get-remove m k q = rw (finite.get-remove nat_cmp_total m k q, unsigned_tied q k) refl
