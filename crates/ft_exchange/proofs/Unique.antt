-- An object has at most one schedule.
use Rattle.std.proofs.Common.{◌≡◌, ◌⊎◌, inl, inr, ⊎_elim, ℕ, zero, suc, ◌+◌, ◌-◌, ◌<◌, ◌≤◌, Bool, true, cond, not, ◌&&◌}
use Rattle.std.proofs.Common.{false, List, [], ◌∷◌, length, take, Some, slice_get, refl, sym, ap, ◌∙◌, subst, arith}
use Rattle.std.specs.List.{count_by}
use Rattle.std.proofs.lemmas.Bool.{cases_eq, cases_lt}
use Rattle.std.proofs.lemmas.Option.{slice_get_cases}
use Rattle.ft_isa.specs.declared.instr.Instr.{Instr}
use Rattle.ft_types.specs.declared.object.Object.{Object}
use Rattle.ft_types.specs.declared.object.Block.{Block}
use Rattle.ft_types.specs.Objects.{queue_rows, block_type, block_start, block_instrs}
use Rattle.ft_types.specs.Spellable.{IsSpellable}
use Rattle.ft_isa.specs.Instructions.{is_fixed, is_leading, is_green_store, is_blue_store}
use Rattle.ft_exchange.specs.Exchange.{is_trailing, queue_after, may_exchange, IsPermitted, exchanged, with_instrs}
use Rattle.ft_exchange.specs.Exchange.{after_exchange}
use Rattle.ft_exchange.specs.Scheduled.{ComesFrom, itself, exchange, IsScheduled}
use Rattle.ft_exchange.proofs.Lists.{take_around, take_before, get_other}
use Rattle.ft_exchange.proofs.BlockRanges.{placed, same_block, other_block, ends_before, start_is}
use Rattle.ft_exchange.proofs.Permits.{permits}
use Rattle.ft_exchange.proofs.Accepted.{spellable_exchanged}
use Rattle.ft_exchange.proofs.QueueLengths.{count_cons}

-- LISTS

-- two exchanges apart from each other may be made in either order
exchanged_apart : (is : List Instr) (n m : ℕ) → n + 2 ≤ m → exchanged (exchanged is n) m ≡ exchanged (exchanged is m) n
exchanged_apart [] n m h = refl
exchanged_apart (i ∷ is) n zero h = absurd (omega arith)
exchanged_apart (i ∷ is) (suc n) (suc m) h = ap (λ z. i ∷ z) (exchanged_apart is n m (omega arith))
exchanged_apart (i ∷ []) zero (suc m) h = refl
exchanged_apart (i ∷ j ∷ is) zero (suc zero) h = absurd (omega arith)
exchanged_apart (i ∷ j ∷ is) zero (suc (suc m)) h = refl

count_exchanged : (test : Instr → Bool) (is : List Instr) (n : ℕ) → count_by test (exchanged is n) ≡ count_by test is
count_exchanged test [] n = refl
count_exchanged test (i ∷ is) (suc n) = count_cons test i (exchanged is n)
    ∙ ap (λ z. cond (test i) 1 0 + z) (count_exchanged test is n) ∙ sym (count_cons test i is)
count_exchanged test (i ∷ []) zero = refl
count_exchanged test (i ∷ j ∷ is) zero =
    let a = count_cons test j (i ∷ is) in
    let b = count_cons test i is in
    let c = count_cons test i (j ∷ is) in
    let d = count_cons test j is in
    omega (arith, a, b, c, d)

queue_exchanged : (rows : ℕ) (is : List Instr) (n : ℕ) → queue_after rows (exchanged is n) ≡ queue_after rows is
queue_exchanged rows is n = λ i. rows + count_exchanged is_green_store is n i - count_exchanged is_blue_store is n i

-- PLACES

-- two places that are neither equal nor neighbours
abbrev Apart : ℕ → ℕ → Type 0
Apart n m = (n + 2 ≤ m) ⊎ (m + 2 ≤ n)

-- no instruction both trails and leads
pub not_both : (i : Instr) → is_trailing i ≡ true → is_leading i ≡ true → ⊥
not_both i t l = (let n : is_trailing i ≡ false = ap (λ b. not (is_fixed i) && not b) l
    ∙ and_false (not (is_fixed i)) in cc)
  where
    and_false : (b : Bool) → (b && false) ≡ false
    and_false true = refl
    and_false false = refl

-- so two exchanges at neighbouring places are not both permitted
not_next : (o : Object) (b k l : ℕ) → IsPermitted o b k → IsPermitted o b l → l ≡ suc k → ⊥
not_next o b k l p q e =
    let both : Some p.second ≡ Some q.first = sym p.second_there ∙ ap (slice_get (block_instrs o b)) (sym e)
    ∙ q.first_there in
    let same : p.second ≡ q.first = cc in
    not_both q.first (permits _ q.first q.second q.may).first_trails (ap is_leading (sym same)
    ∙ (permits _ p.first p.second p.may).second_leads)

-- there is a block for each number below the number of blocks
block_there : (o : Object) (b : ℕ) → b < length o.blocks → (y : Block) × (slice_get o.blocks b ≡ Some y)
block_there o b h = elim (slice_get_cases o.blocks b).1 [
  | inl y ↦ (y.0, y.2)
  | inr n ↦ (let m = n.0 in absurd (omega arith))
]

-- an exchange in an earlier block lies before one in a later block
blocks_apart : (o : Object) (b k c l : ℕ) → IsSpellable o → IsPermitted o b k → IsPermitted o c l → b < c →
    block_start o b + k + 2 ≤ block_start o c + l
blocks_apart o b k c l spelled p q h =
    let y = block_there o c q.block in
    let e = ends_before o b c y.0 spelled y.1 h in
    let s = start_is o c y.0 y.1 in
    let i = (placed o b k p).inside in
    omega arith

-- two permitted exchanges are the same, or apart
one_or_apart : (o : Object) (b k c l : ℕ) → IsSpellable o → IsPermitted o b k → IsPermitted o c l →
    ((b ≡ c) × (k ≡ l)) ⊎ Apart (block_start o b + k) (block_start o c + l)
one_or_apart o b k c l spelled p q =
    ⊎_elim
    (λ (bc : b < c). inr (inl (blocks_apart o b k c l spelled p q bc)))
    (λ (cb : c ≤ b). ⊎_elim
    (λ (lt : c < b). inr (inr (blocks_apart o c l b k spelled q p lt)))
    (λ (bc : b ≤ c).
    let same : b ≡ c = omega arith in
    let p' : IsPermitted o c k = subst (λ j. IsPermitted o j k) same p in
    let starts : block_start o b ≡ block_start o c = ap (block_start o) same in
    ⊎_elim
    (λ (e : k ≡ l). inl (same, e))
    (λ (ne : k ≡ l → ⊥). ⊎_elim
    (λ (lt : k < l). ⊎_elim
    (λ (e : l ≡ suc k). absurd (not_next o c k l p' q e))
    (λ (n : l ≡ suc k → ⊥). inr (inl (beyond k l lt n (block_start o b) (block_start o c) starts)))
    (cases_eq l (suc k)))
    (λ (ge : l ≤ k). ⊎_elim
    (λ (e : k ≡ suc l). absurd (not_next o c l k q p' e))
    (λ (n : k ≡ suc l → ⊥). inr (inr (beyond l k (below l k ge (λ e. ne (sym e))) n (block_start o c) (block_start o b)
    (sym starts))))
    (cases_eq k (suc l)))
    (cases_lt k l))
    (cases_eq k l))
    (cases_lt c b))
    (cases_lt b c)
  where
    below : (l k : ℕ) → l ≤ k → (l ≡ k → ⊥) → l < k
    below l k h ne = ⊎_elim (λ (lt : l < k). lt) (λ (ge : k ≤ l). let e : l ≡ k = omega arith in
        absurd (ne e)) (cases_lt l k)

    beyond : (k l : ℕ) → k < l → (l ≡ suc k → ⊥) → (a b : ℕ) → a ≡ b → a + k + 2 ≤ b + l
    beyond k l h ne a b e = (let m = below (suc k) l h (λ f. ne (sym f)) in omega arith)

-- STILL PERMITTED

-- an exchange in another block stays permitted
still_elsewhere : (o : Object) (b k c l : ℕ) → IsSpellable o → IsPermitted o b k → IsPermitted o c l → (c ≡ b → ⊥) →
    IsPermitted (after_exchange o b k) c l
still_elsewhere o b k c l spelled p q ne =
    let y = block_there o c q.block in
    let same = other_block o b k c y.0 spelled p y.1 ne in
    record {
      first = q.first;
      second = q.second;
      block = q.block;
      first_there = ap (λ (z : List Instr). slice_get z l) same ∙ q.first_there;
      second_there = ap (λ (z : List Instr). slice_get z (suc l)) same ∙ q.second_there;
      may = subst (λ (z : List Instr). may_exchange (queue_after (length (queue_rows o (block_type o c))) (take l z))
          q.first q.second ≡ true) (sym same) q.may;
    }

-- an exchange apart from a place does not change the length of the static queue before that place
queue_apart : (rows : ℕ) (is : List Instr) (k l : ℕ) → Apart k l → queue_after rows (take l (exchanged is k))
    ≡ queue_after rows (take l is)
queue_apart rows is k l (inl h) = ap (queue_after rows) (take_around l is k h) ∙ queue_exchanged rows (take l is) k
queue_apart rows is k l (inr h) = ap (queue_after rows) (take_before l is k (omega arith))

apart_other : (k l : ℕ) → Apart k l → (l ≡ k → ⊥) × (l ≡ suc k → ⊥) × (suc l ≡ k → ⊥) × (suc l ≡ suc k → ⊥)
apart_other k l (inl h) = (λ e. omega arith, λ e. omega arith, λ e. omega arith, λ e. omega arith)
apart_other k l (inr h) = (λ e. omega arith, λ e. omega arith, λ e. omega arith, λ e. omega arith)

-- an exchange apart from another in the same block stays permitted
still_here : (o : Object) (b k l : ℕ) → IsPermitted o b k → IsPermitted o b l → Apart k l →
    IsPermitted (after_exchange o b k) b l
still_here o b k l p q a =
    let is = block_instrs o b in
    let same = same_block o b k p in
    let other = apart_other k l a in
    record {
      first = q.first;
      second = q.second;
      block = q.block;
      first_there = ap (λ (z : List Instr). slice_get z l) same ∙ get_other is k l other.0 other.1 ∙ q.first_there;
      second_there = ap (λ (z : List Instr). slice_get z (suc l)) same ∙ get_other is k (suc l) other.2 other.3
          ∙ q.second_there;
      may = ap (λ n. may_exchange n q.first q.second)
          (ap (λ (z : List Instr). queue_after (length (queue_rows o (block_type o b))) (take l z)) same
          ∙ queue_apart (length (queue_rows o (block_type o b))) is k l a) ∙ q.may;
    }

apart_in : (a b k l : ℕ) → a ≡ b → Apart (a + k) (b + l) → Apart k l
apart_in a b k l e (inl h) = inl (omega arith)
apart_in a b k l e (inr h) = inr (omega arith)

-- an exchange apart from another stays permitted after it
still : (o : Object) (b k c l : ℕ) → IsSpellable o → IsPermitted o b k → IsPermitted o c l →
    Apart (block_start o b + k) (block_start o c + l) → IsPermitted (after_exchange o b k) c l
still o b k c l spelled p q a =
    ⊎_elim
    (λ (e : c ≡ b).
    let q' : IsPermitted o b l = subst (λ j. IsPermitted o j l) e q in
    let starts : block_start o b ≡ block_start o c = ap (block_start o) (sym e) in
    subst (λ j. IsPermitted (after_exchange o b k) j l) (sym e)
    (still_here o b k l p q' (apart_in (block_start o b) (block_start o c) k l starts a)))
    (λ (ne : c ≡ b → ⊥). still_elsewhere o b k c l spelled p q ne)
    (cases_eq c b)

turned : (n m : ℕ) → Apart n m → Apart m n
turned n m (inl h) = inr h
turned n m (inr h) = inl h

-- two exchanges apart from each other lead to the same object in either order
both_ways : (o : Object) (b k c l : ℕ) → Apart (block_start o b + k) (block_start o c + l) →
    after_exchange (after_exchange o b k) c l ≡ after_exchange (after_exchange o c l) b k
both_ways o b k c l (inl h) = ap (with_instrs o) (exchanged_apart o.instrs (block_start o b + k) (block_start o c + l)
    h)
both_ways o b k c l (inr h) = ap (with_instrs o) (sym
    (exchanged_apart o.instrs (block_start o c + l) (block_start o b + k) h))

-- CHAINS

-- permitted exchanges, in order, that lead from an object to t
data Chain (t : Object) : Object → Type 0 where
  done : Chain t t
  then_on : {o : Object} (b k : ℕ) → IsPermitted o b k → Chain t (after_exchange o b k) → Chain t o

longer : (s : Object) (b k : ℕ) (o : Object) → Chain s o → IsPermitted s b k → Chain (after_exchange s b k) o
longer s b k _ done p = then_on b k p done
longer s b k o (then_on c l q x) p = then_on c l q (longer s b k (after_exchange o c l) x p)

chain_of : (o t : Object) → ComesFrom o t → Chain t o
chain_of o _ itself = done
chain_of o _ (exchange {s = s} b k h p) = longer s b k o (chain_of o s h) p

-- if a chain leads to an object with no permitted exchange left, a chain also leads there after any permitted exchange
leads_there : (t : Object) (b k : ℕ) → ((c l : ℕ) → IsPermitted t c l → ⊥) → (o : Object) → IsSpellable o → Chain t o →
    IsPermitted o b k → Chain t (after_exchange o b k)
leads_there t b k none _ spelled done p = absurd (none b k p)
leads_there t b k none o spelled (then_on c l q x) p =
    ⊎_elim
    (λ (e : (b ≡ c) × (k ≡ l)). subst (λ (z : ℕ × ℕ). Chain t (after_exchange o z.0 z.1)) (λ i.
    (sym e.0 i, sym e.1 i)) x)
    (λ (a : Apart (block_start o b + k) (block_start o c + l)).
    let p' = still o c l b k spelled q p (turned (block_start o b + k) (block_start o c + l) a) in
    let q' = still o b k c l spelled p q a in
    let y = leads_there t b k none (after_exchange o c l) (spellable_exchanged o c l spelled q) x p' in
    then_on c l q' (subst (Chain t) (sym (both_ways o b k c l a)) y))
    (one_or_apart o b k c l spelled p q)

one_end : (s t : Object) → ((c l : ℕ) → IsPermitted s c l → ⊥) → ((c l : ℕ) → IsPermitted t c l → ⊥) → (o : Object) →
    IsSpellable o → Chain s o → Chain t o → s ≡ t
one_end s _ ns nt _ spelled done done = refl
one_end s t ns nt _ spelled done (then_on b k p y) = absurd (ns b k p)
one_end s t ns nt o spelled (then_on b k p x) y = one_end s t ns nt (after_exchange o b k)
    (spellable_exchanged o b k spelled p) x (leads_there t b k nt o spelled y p)

pub one_schedule : (o s t : Object) → IsSpellable o → IsScheduled o s → IsScheduled o t → s ≡ t
one_schedule o s t spelled x y = one_end s t x.none_left y.none_left o spelled (chain_of o s x.comes)
    (chain_of o t y.comes)
