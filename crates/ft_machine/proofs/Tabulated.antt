-- The keys of a map with numbered entries.
use Rattle.std.proofs.Common.{◌≡◌, ℕ, zero, suc, ◌+◌, Bool, true, false, ◌&&◌, cond, Some, is_some, nat_lt, nat_le}
use Rattle.std.proofs.Common.{refl, ap, ◌∙◌, arith, Option}
use Rattle.std.proofs.lemmas.Bool.Decides.{nat_tests}
use Rattle.std.specs.Ordering.{nat_cmp, eq_by_cmp}
use Rattle.std.specs.Cmp.{nat_cmp_total, unsigned_tied}
use Rattle.std.specs.FinMap.{get, insert, contains_key, get-insert, get-empty}
use Rattle.std.specs.Prelude.{◌||◌, ◌==◌}
use Rattle.ft_isa.specs.Words.{cell_address}
use Rattle.ft_semantics.specs.State.{tabulate}

either_way : {V : Type 0} (b : Bool) (v : V) (o : Option V) → is_some (cond b (Some v) o) ≡ (b || is_some o)
either_way true v o = refl
either_way false v o = refl

-- after an insertion, the keys are the new key and those before
pub contains_key-insert : {V : Type 0} (m : _) (k : ℕ) (v : V) (q : ℕ) → contains_key (insert {R = nat_cmp} m k v) q
    ≡ ((q == k) || contains_key m q)
contains_key-insert m k v q = ap is_some (get-insert nat_cmp_total m k v q)
    ∙ either_way (eq_by_cmp nat_cmp q k) v (get m q) ∙ ap (λ b. b || contains_key m q) (unsigned_tied q k)

between : (a n : ℕ) → ((a == cell_address n) || (nat_le 1048576 a && nat_lt a (1048576 + n)))
    ≡ (nat_le 1048576 a && nat_lt a (1048576 + suc n))
between a n = grind (arith, nat_tests)

none_between : (a : ℕ) → false ≡ (nat_le 1048576 a && nat_lt a 1048576)
none_between a = grind (arith, nat_tests)

-- the keys of n cells are their addresses
pub cells_there : {V : Type 0} (value : ℕ → V) (n a : ℕ) → contains_key (tabulate n cell_address value) a
    ≡ (nat_le 1048576 a && nat_lt a (1048576 + n))
unfolding tabulate
cells_there value zero a = ap is_some (get-empty nat_cmp a) ∙ none_between a
cells_there value (suc n) a =
    contains_key-insert _ (cell_address n) (value n) a
    ∙ ap (λ b. (a == cell_address n) || b) (cells_there value n a) ∙ between a n
