-- What the calls of a ring do to its pending stores.
use Rattle.std.proofs.Common.{◌≡◌, ◌≢◌, ℕ, zero, suc, ◌+◌, ◌-◌, ◌%◌, ◌<◌, ◌≤◌, List, [], ◌∷◌, ◌++◌, length, Some, None}
use Rattle.std.proofs.Common.{slice_get}
use Rattle.std.proofs.Common.{slice_set, slice_index_or, refl, ap, sym, ◌∙◌, arith}
use Rattle.std.proofs.lemmas.List.{get_or-set_same, get_or-set_other}
use Rattle.std.proofs.lemmas.Grind.{get_or-set_at}
use Rattle.std.proofs.lemmas.Option.{slice_get_past}
use Rattle.std.specs.Prelude.{min}
use Rattle.ft_isa.specs.Pending.{Pending, with_address, with_value}
use Rattle.ft_flight.specs.declared.plain_queue.PlainPair.{PlainPair}
use Rattle.ft_flight.specs.Rings.{nothing, pair_of, pairs_from}

-- the pair at a place of a ring
abbrev there : List PlainPair → ℕ → PlainPair
there ps place = slice_index_or ps (place % 8) nothing

-- as many pairs as were asked for
pub as_many : (ps : List PlainPair) (f n : ℕ) → length (pairs_from ps f n) ≡ n
unfolding pairs_from
as_many ps f zero = refl
as_many ps f (suc n) = ap suc (as_many ps (suc f) n)

-- pair i is at place f + i
pub pair_there : (ps : List PlainPair) (f n i : ℕ) → i < n → slice_get (pairs_from ps f n) i
    ≡ Some (pair_of (there ps (f + i)))
unfolding pairs_from
pair_there ps f zero i below = absurd (omega (arith, below))
pair_there ps f (suc n) zero below = ap (λ k. Some (pair_of (there ps k))) (omega arith)
pair_there ps f (suc n) (suc i) below = pair_there ps (suc f) n i (omega (arith, below))
    ∙ ap (λ k. Some (pair_of (there ps k))) (omega arith)

-- places that are equal modulo eight begin the same pairs
pub same_place : (ps : List PlainPair) (f g n : ℕ) → f % 8 ≡ g % 8 → pairs_from ps f n ≡ pairs_from ps g n
unfolding pairs_from
same_place ps f g zero e = refl
same_place ps f g (suc n) e =
    ap (λ k. pair_of (slice_index_or ps k nothing) ∷ pairs_from ps (suc f) n) e
    ∙ ap (λ q. pair_of (there ps g) ∷ q) (same_place ps (suc f) (suc g) n (omega (arith, e)))

-- one more pair comes last
more : (ps : List PlainPair) (f n : ℕ) → pairs_from ps f (suc n) ≡ pairs_from ps f n ++ pair_of (there ps (f + n)) ∷ []
unfolding pairs_from
more ps f zero = ap (λ k. pair_of (there ps k) ∷ []) (omega arith)
more ps f (suc n) = ap (λ q. pair_of (there ps f) ∷ q) (more ps (suc f) n
    ∙ ap (λ k. pairs_from ps (suc f) n ++ pair_of (there ps k) ∷ []) (omega arith))

-- a pair at another place does not matter
untouched : (ps : List PlainPair) (k : ℕ) (p : PlainPair) (f n : ℕ) → ((i : ℕ) → i < n → (f + i) % 8 ≢ k)
    → pairs_from (slice_set ps k p) f n ≡ pairs_from ps f n
unfolding pairs_from
untouched ps k p f zero apart = refl
untouched ps k p f (suc n) apart =
    ap (λ x. pair_of x ∷ pairs_from (slice_set ps k p) (suc f) n)
    (get_or-set_other ps k (f % 8) p nothing (λ e. apart 0 (omega arith) (omega (arith, e))))
    ∙ ap (λ q. pair_of (there ps f) ∷ q) (untouched ps k p (suc f) n (λ i below e.
    apart (suc i) (omega (arith, below)) (omega (arith, e))))

-- a count stands for itself, or for eight if it is greater
pub counted : (ps : List PlainPair) (f n : ℕ) → n < 8 → n ≡ length (pairs_from ps f (min n 8))
counted ps f n below = omega (arith, below) ∙ sym (as_many ps f (min n 8))

pub counted_eight : (ps : List PlainPair) (f n : ℕ) → 8 ≤ n → 8 ≡ length (pairs_from ps f (min n 8))
counted_eight ps f n many = omega (arith, many) ∙ sym (as_many ps f (min n 8))

-- a pair put at the place after the last is the newest
put_last : (ps : List PlainPair) (p : PlainPair) (f n : ℕ) → length ps ≡ 8 → n < 8
    → pairs_from (slice_set ps ((f + n) % 8) p) f (n + 1) ≡ pairs_from ps f n ++ pair_of p ∷ []
put_last ps p f n long below =
    let k = (f + n) % 8 in
    ap (pairs_from (slice_set ps k p) f) (omega arith)
    ∙ more (slice_set ps k p) f n
    ∙ ap (λ x. pairs_from (slice_set ps k p) f n ++ pair_of x ∷ [])
    (get_or-set_same ps k p nothing (omega (arith, long)))
    ∙ ap (λ q. q ++ pair_of p ∷ []) (untouched ps k p f n (λ i lt e. absurd (omega (arith, lt, below, e))))

-- so a push makes its pair the newest
pub pushed : (ps : List PlainPair) (p : PlainPair) (f n count k : ℕ) → length ps ≡ 8 → count ≡ n → count < 8
    → k ≡ (f + count) % 8 → pairs_from (slice_set ps k p) f (min (count + 1) 8) ≡ pairs_from ps f n ++ pair_of p ∷ []
pushed ps p f n count k long same below e =
    ap (pairs_from (slice_set ps k p) f) (omega (arith, same, below))
    ∙ ap (λ j. pairs_from (slice_set ps j p) f (n + 1)) (e ∙ ap (λ c. (f + c) % 8) same)
    ∙ put_last ps p f n long (omega (arith, same, below))

-- the oldest pair, and the others from the next place on
oldest_first : (ps : List PlainPair) (f n : ℕ) → pairs_from ps f (suc n)
    ≡ pair_of (there ps f) ∷ pairs_from ps (f % 8 + 1) n
unfolding pairs_from
oldest_first ps f n = ap (λ q. pair_of (there ps f) ∷ q) (same_place ps (suc f) (f % 8 + 1) n (omega arith))

-- so a pop takes the oldest pair
pub popped : (ps : List PlainPair) (f n count k : ℕ) → count ≡ n → n ≤ 8 → 0 < count → k ≡ (f + 0) % 8 →
    pairs_from ps f n ≡ pair_of (slice_index_or ps k nothing) ∷ pairs_from ps (f % 8 + 1) (min (count - 1) 8)
popped ps f zero count k same few some e = absurd (omega (arith, same, some))
popped ps f (suc m) count k same few some e =
    oldest_first ps f m
    ∙ ap (λ j. pair_of (slice_index_or ps j nothing) ∷ pairs_from ps (f % 8 + 1) m) (omega (arith, e))
    ∙ ap (λ j. pair_of (slice_index_or ps k nothing) ∷ pairs_from ps (f % 8 + 1) j) (omega (arith, same, few))

-- no pair is at a place past the last
pub none_there : (ps : List PlainPair) (f n i : ℕ) → n ≤ i → None ≡ slice_get (pairs_from ps f n) i
none_there ps f n i past = let all = as_many ps f n in
    sym (slice_get_past (pairs_from ps f n) i (omega (arith, all, past)))

module _ (ps : List PlainPair) (long : length ps ≡ 8) (k : ℕ) (p : PlainPair) where
  -- the pair just put at the first place comes first, and the others stay
  put_first : (f n : ℕ) → n < 8 → k ≡ f % 8 → pairs_from (slice_set ps k p) f (suc n)
      ≡ pair_of p ∷ pairs_from ps (suc f) n
  unfolding pairs_from
  put_first f n few e =
      ap (λ x. pair_of x ∷ pairs_from (slice_set ps k p) (suc f) n)
      (get_or-set_at ps k (f % 8) p nothing (sym e) (omega (arith, e, long)))
      ∙ ap (λ q. pair_of p ∷ q) (untouched ps k p (suc f) n (λ i lt same. absurd (omega (arith, lt, few, same, e))))

  -- a pair put at a later place leaves the first pair
  put_later : (f n i : ℕ) (q : Pending) → suc i < 8 → k ≡ (f + suc i) % 8 → pairs_from (slice_set ps k p) (suc f) n ≡ q
      → pairs_from (slice_set ps k p) f (suc n) ≡ pair_of (there ps f) ∷ q
  unfolding pairs_from
  put_later f n i q few e rest =
      ap (λ x. pair_of x ∷ pairs_from (slice_set ps k p) (suc f) n)
      (get_or-set_other ps k (f % 8) p nothing (λ same. absurd (omega (arith, few, same, e))))
      ∙ ap (λ r. pair_of (there ps f) ∷ r) rest

  -- a pair with another address, put at the place of pair i
  pub address_struck : (f n i v : ℕ) → i < n → n ≤ 8 → k ≡ (f + i) % 8 → p.addr ≡ v
      → p.value ≡ (slice_index_or ps k nothing).value → pairs_from (slice_set ps k p) f n
      ≡ with_address (pairs_from ps f n) i v
  unfolding pairs_from with_address
  address_struck f zero i v below few e addr value = absurd (omega (arith, below))
  address_struck f (suc n) zero v below few e addr value =
      let first : k ≡ f % 8 = omega (arith, e) in
      put_first f n (omega (arith, few)) first
      ∙ ap (λ a. (a, p.value) ∷ pairs_from ps (suc f) n) addr
      ∙ ap (λ b. (v, b) ∷ pairs_from ps (suc f) n) (value ∙ ap (λ j. (slice_index_or ps j nothing).value) first)
  address_struck f (suc n) (suc i) v below few e addr value =
      put_later f n i (with_address (pairs_from ps (suc f) n) i v) (omega (arith, below, few)) e
      (address_struck (suc f) n i v (omega (arith, below)) (omega (arith, few)) (omega (arith, e)) addr value)

  -- a pair with another value, put at the place of pair i
  pub value_struck : (f n i v : ℕ) → i < n → n ≤ 8 → k ≡ (f + i) % 8 → p.addr ≡ (slice_index_or ps k nothing).addr
      → p.value ≡ v → pairs_from (slice_set ps k p) f n ≡ with_value (pairs_from ps f n) i v
  unfolding pairs_from with_value
  value_struck f zero i v below few e addr value = absurd (omega (arith, below))
  value_struck f (suc n) zero v below few e addr value =
      let first : k ≡ f % 8 = omega (arith, e) in
      put_first f n (omega (arith, few)) first
      ∙ ap (λ b. (p.addr, b) ∷ pairs_from ps (suc f) n) value
      ∙ ap (λ a. (a, v) ∷ pairs_from ps (suc f) n) (addr ∙ ap (λ j. (slice_index_or ps j nothing).addr) first)
  value_struck f (suc n) (suc i) v below few e addr value =
      put_later f n i (with_value (pairs_from ps (suc f) n) i v) (omega (arith, below, few)) e
      (value_struck (suc f) n i v (omega (arith, below)) (omega (arith, few)) (omega (arith, e)) addr value)
