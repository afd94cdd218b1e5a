-- Pending stores by index, in the order in which the code visits them.
use Rattle.std.proofs.Common.{◌≡◌, ◌≢◌, ℕ, zero, suc, ◌+◌, ◌<◌, ◌≤◌, cond, [], ◌∷◌, ◌++◌, length, take, Option, Some}
use Rattle.std.proofs.Common.{None, refl, ap, sym, ◌∙◌, arith, nat_eq, slice_index_or, slice_set, Bool, true, false}
use Rattle.std.proofs.lemmas.List.{take_more, length-append}
use Rattle.std.proofs.Math.Seq.{take-length}
use Rattle.std.proofs.lemmas.Option.{get_or_from_slice_get}
use Rattle.std.specs.Prelude.{min, slice_get, ◌-◌}
use Rattle.std.proofs.lemmas.Bool.{eq-eqb, ne_eqb}
use Rattle.std.specs.Option.{option_or}
use Rattle.ft_isa.specs.Pending.{Pending, newest_at, with_address, with_value}

option_or-cond : (b : Bool) (v : ℕ) (o p : Option ℕ) → option_or (cond b (Some v) o) p ≡ cond b (Some v) (option_or o p)
option_or-cond true v o p = refl
option_or-cond false v o p = refl

-- a pushed entry is the newest
pub newest_at-append : (q : Pending) (e : ℕ × ℕ) (a : ℕ) → newest_at (q ++ e ∷ []) a
    ≡ cond (nat_eq e.0 a) (Some e.1) (newest_at q a)
unfolding newest_at
newest_at-append [] e a = refl
newest_at-append (f ∷ q) e a =
    let p = cond (nat_eq f.0 a) (Some f.1) None in
    ap (λ o. option_or o p) (newest_at-append q e a) ∙ option_or-cond (nat_eq e.0 a) e.1 (newest_at q a) p

-- among the first i + 1 entries, the newest with an address is entry i if it has that address, and otherwise the newest
-- among the first i
newest_at-take : (q : Pending) (i a : ℕ) (d : ℕ × ℕ) → i < length q
    → newest_at (take (i + 1) q) a ≡ cond (nat_eq (slice_index_or q i d).0 a) (Some (slice_index_or q i d).1)
    (newest_at (take i q) a)
newest_at-take q i a d below = ap (λ t. newest_at t a) (take_more q i d below)
    ∙ newest_at-append (take i q) (slice_index_or q i d) a

pub newest_at-take_here : (q : Pending) (i a : ℕ) (d : ℕ × ℕ) → i < length q → (slice_index_or q i d).0 ≡ a →
    Some (slice_index_or q i d).1 ≡ newest_at (take (i + 1) q) a
newest_at-take_here q i a d below here =
    let e = slice_index_or q i d in
    sym (newest_at-take q i a d below ∙ ap (λ b. cond b (Some e.1) (newest_at (take i q) a)) (eq-eqb e.0 a here))

pub newest_at-take_other : (q : Pending) (i a : ℕ) (d : ℕ × ℕ) → i < length q → (slice_index_or q i d).0 ≢ a →
    newest_at (take i q) a ≡ newest_at (take (i + 1) q) a
newest_at-take_other q i a d below other =
    let e = slice_index_or q i d in
    sym (newest_at-take q i a d below ∙ ap (λ b. cond b (Some e.1) (newest_at (take i q) a)) (ne_eqb e.0 a other))

-- replacing the address of an existing entry in the list is the same as `with_address`
pub set-with_address : (q : Pending) (i v : ℕ) (e : ℕ × ℕ) → i < length q → e ≡ slice_index_or q i e →
    slice_set q i (v, e.1) ≡ with_address q i v
unfolding with_address
set-with_address [] i v e below is = absurd (omega arith)
set-with_address (f ∷ q) zero v e below is = ap (λ (x : ℕ × ℕ). (v, x.1) ∷ q) is
set-with_address (f ∷ q) (suc i) v e below is = ap (λ r. f ∷ r) (set-with_address q i v e (omega arith) is)

-- replacing the value of an existing entry in the list is the same as `with_value`
pub set-with_value : (q : Pending) (i v : ℕ) (e : ℕ × ℕ) → i < length q → e ≡ slice_index_or q i e →
    slice_set q i (e.0, v) ≡ with_value q i v
unfolding with_value
set-with_value [] i v e below is = absurd (omega arith)
set-with_value (f ∷ q) zero v e below is = ap (λ (x : ℕ × ℕ). (x.0, v) ∷ q) is
set-with_value (f ∷ q) (suc i) v e below is = ap (λ r. f ∷ r) (set-with_value q i v e (omega arith) is)

-- replacing the address or the value of an entry that does not exist changes nothing
pub with_address-beyond : (q : Pending) (i v : ℕ) → length q ≤ i → with_address q i v ≡ q
unfolding with_address
with_address-beyond [] i v beyond = refl
with_address-beyond (f ∷ q) zero v beyond = absurd (omega arith)
with_address-beyond (f ∷ q) (suc i) v beyond = ap (λ r. f ∷ r) (with_address-beyond q i v (omega arith))

pub with_value-beyond : (q : Pending) (i v : ℕ) → length q ≤ i → with_value q i v ≡ q
unfolding with_value
with_value-beyond [] i v beyond = refl
with_value-beyond (f ∷ q) zero v beyond = absurd (omega arith)
with_value-beyond (f ∷ q) (suc i) v beyond = ap (λ r. f ∷ r) (with_value-beyond q i v (omega arith))

-- if entry i has the address, it is the newest with that address among the first i + 1
pub newest_now : (q : Pending) (i a : ℕ) (e : ℕ × ℕ) → i < length q → slice_get q i ≡ Some e → e.0 ≡ a → Some e.1
    ≡ newest_at (take (i + 1) q) a
newest_now q i a e below h here =
    let g = get_or_from_slice_get q i e (0, 0) h in
    ap (λ (x : ℕ × ℕ). Some x.1) (sym g) ∙ newest_at-take_here q i a (0, 0) below (ap (λ (x : ℕ × ℕ). x.0) g ∙ here)

-- if entry i has another address, the newest with the address among the first i + 1 entries is among the first i
pub newest_before : (q : Pending) (i a : ℕ) (e : ℕ × ℕ) → i < length q → slice_get q i ≡ Some e → e.0 ≢ a →
    newest_at (take i q) a ≡ newest_at (take (i + 1) q) a
newest_before q i a e below h other =
    let g = get_or_from_slice_get q i e (0, 0) h in
    newest_at-take_other q i a (0, 0) below (λ is. other (ap (λ (x : ℕ × ℕ). x.0) (sym g) ∙ is))

-- replacing the address of an entry that was found is the same as `with_address`
pub address_put : (q : Pending) (i v : ℕ) (e : ℕ × ℕ) → Some e ≡ slice_get q i → slice_set q i (v, e.1)
    ≡ with_address q i v
unfolding with_address
address_put [] i v e h = absurd (cc)
address_put (f ∷ q) zero v e h = let same : e ≡ f = cc in ap (λ (x : ℕ × ℕ). (v, x.1) ∷ q) same
address_put (f ∷ q) (suc i) v e h = ap (λ r. f ∷ r) (address_put q i v e h)

-- replacing the value of an entry that was found is the same as `with_value`
pub value_put : (q : Pending) (i v : ℕ) (e : ℕ × ℕ) → Some e ≡ slice_get q i → slice_set q i (e.0, v) ≡ with_value q i v
unfolding with_value
value_put [] i v e h = absurd (cc)
value_put (f ∷ q) zero v e h = let same : e ≡ f = cc in ap (λ (x : ℕ × ℕ). (x.0, v) ∷ q) same
value_put (f ∷ q) (suc i) v e h = ap (λ r. f ∷ r) (value_put q i v e h)

-- if no entry was found, replacing its address or its value changes nothing
pub address_none : (q : Pending) (i v : ℕ) → None ≡ slice_get q i → q ≡ with_address q i v
unfolding with_address
address_none [] i v h = refl
address_none (f ∷ q) zero v h = absurd (cc)
address_none (f ∷ q) (suc i) v h = ap (λ r. f ∷ r) (address_none q i v h)

pub value_none : (q : Pending) (i v : ℕ) → None ≡ slice_get q i → q ≡ with_value q i v
unfolding with_value
value_none [] i v h = refl
value_none (f ∷ q) zero v h = absurd (cc)
value_none (f ∷ q) (suc i) v h = ap (λ r. f ∷ r) (value_none q i v h)

-- copying a queue of at most eight pairs in two parts into an empty queue copies all of it
pub refilled : (xs ys zs : Pending) (n m : ℕ) → length zs ≤ 8 → xs ++ ys ≡ zs → n ≡ min (length xs) 8 → m
    ≡ min (length ys) (8 - length (take n xs)) → take n xs ++ take m ys ≡ zs
refilled xs ys zs n m few is first second =
    let sum : length xs + length ys ≡ length zs = sym (length-append xs ys) ∙ ap length is in
    let n_is : n ≡ length xs = omega (arith, sum) in
    let all : take n xs ≡ xs = ap (λ k. take k xs) n_is ∙ take-length xs in
    let room : 8 - length (take n xs) ≡ 8 - length xs = ap (λ t. 8 - length t) all in
    let m_is : m ≡ length ys = omega (arith, sum, room) in
    ap (λ t. t ++ take m ys) all ∙ ap (λ k. xs ++ take k ys) m_is ∙ ap (λ t. xs ++ t) (take-length ys) ∙ is
