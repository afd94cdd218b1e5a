-- Counting blocks, and places in them.
use Rattle.std.proofs.Common.{◌≡◌, ℕ, zero, suc, ◌+◌, ◌-◌, ◌≤◌, Bool, true, false, List, [], ◌++◌, length, take, Some}
use Rattle.std.proofs.Common.{decimal, codes, nat_lt, nat_eq, refl, ap, sym, ◌∙◌, arith}
use Rattle.std.specs.Prelude.{count_by, slice_get, if◌then◌else◌}
use Rattle.std.proofs.lemmas.Bool.{lt-ltb}
use Rattle.std.proofs.lemmas.Bool.Decides.{eqb_tells}
use Rattle.std.proofs.lemmas.List.Sums.{count_by_more_yes, count_by_more_no}
use Rattle.std.proofs.lemmas.Option.{get_or_from_slice_get, slice_get_within}
use Rattle.ft_types.specs.declared.object.Object.{Object}
use Rattle.ft_types.specs.Objects.{block_start}
use Rattle.ft_debug.specs.Sessions.{block_of, block_text, counters_text}

-- the next element is counted if it passes the test, and not otherwise
pub counted_yes : {X : Type 0} (p : X → Bool) (xs : List X) (i n : ℕ) (x : X) → slice_get xs i ≡ Some x → p x ≡ true → n
    ≡ count_by p (take i xs) → n + 1 ≡ count_by p (take (i + 1) xs)
counted_yes p xs i n x e t h = ap (λ m. m + 1) h ∙ sym
    (count_by_more_yes p xs i x (slice_get_within xs i x e) (ap p (get_or_from_slice_get xs i x x e) ∙ t))

pub counted_no : {X : Type 0} (p : X → Bool) (xs : List X) (i n : ℕ) (x : X) → slice_get xs i ≡ Some x → p x ≡ false → n
    ≡ count_by p (take i xs) → n ≡ count_by p (take (i + 1) xs)
counted_no p xs i n x e t h = h ∙ sym (count_by_more_no p xs i x (slice_get_within xs i x e)
    (ap p (get_or_from_slice_get xs i x x e) ∙ t))

-- if the counters are equal and in the code, their text is that of the place there
pub counters_in_code : (o : Object) (green blue i b x : ℕ) → green ≡ blue → ¬ (green ≡ 0) → green ≤ length o.instrs → i
    ≡ green - 1 → b ≡ block_of o i → x ≡ i - block_start o (block_of o i) → codes " block " ++ decimal b
    ++ codes " index " ++ decimal x ≡ counters_text o green blue
counters_in_code o zero blue i b x e ne le ei eb ex = absurd (ne refl)
counters_in_code o (suc k) blue i b x e ne le ei eb ex =
    let place : i ≡ k = omega arith in
    let inside : nat_lt k (length o.instrs) ≡ true = lt-ltb k (length o.instrs) (omega arith) in
    let same : nat_eq (suc k) blue ≡ true = grind (arith, eqb_tells (suc k) blue) in
    ap (λ n. codes " block " ++ decimal n ++ codes " index " ++ decimal x) eb
    ∙ ap (λ n. codes " block " ++ decimal (block_of o i) ++ codes " index " ++ decimal n) ex
    ∙ ap (λ j. block_text o j (block_of o j)) place
    ∙ ap (λ t. if t then block_text o k (block_of o k) else []) (sym inside)
    ∙ ap (λ t. if t then (if nat_lt k (length o.instrs) then block_text o k (block_of o k) else []) else []) (sym same)
