-- The walk, advanced by one instruction or one block, and the arrays that represent finite maps.
use Rattle.std.proofs.Common.{◌≡◌, ℕ, zero, suc, ◌+◌, ◌-◌, ◌<◌, ◌≤◌, true, false, cond, ◌==◌, ◌&&◌, List, [], ◌∷◌}
use Rattle.std.proofs.Common.{length, take, drop, slice_get, Option, Some, None, refl, sym, ap, ◌∙◌, arith}
use Rattle.std.specs.Prelude.{slice_range, if◌then◌else◌}
use Rattle.std.specs.List.{list_all}
use Rattle.std.specs.Option.{option_map, option_or}
use Rattle.std.specs.FinMap as finite
use Rattle.std.specs.Ordering.{nat_cmp}
use Rattle.std.proofs.Common.{⊎_elim}
use Rattle.std.proofs.Math.ListN.{replicate, set}
use Rattle.std.proofs.lemmas.Bool.Decides.{eqb_tells}
use Rattle.std.proofs.lemmas.List.{get_or-replicate, length-replicate, drop_all}
use Rattle.std.proofs.lemmas.Option.{slice_get_within, slice_get-get_or}
use Rattle.ft_isa.specs.declared.instr.Instr.{Instr}
use Rattle.ft_isa.proofs.Lists.{there_below, drop_there, range_past}
use Rattle.ft_types.specs.declared.object.Object.{Object}
use Rattle.ft_types.specs.declared.object.Block.{Block}
use Rattle.ft_types.specs.declared.object.RegType.{RegType}
use Rattle.ft_types.specs.Objects.{block_end, block_instrs, block_start}
use Rattle.ft_modules.specs.CodeWalk.{Entered, are_free, code_walk, entered_after, entered_with, is_free, is_traced}
use Rattle.ft_modules.specs.LinkRefusals.{first_walk_fault}
use Rattle.ft_linker.specs.Stands.{Stands}
use Rattle.ft_linker.specs.declared.traced.Traced.{Traced}
use Rattle.ft_modules.proofs.LinkedContexts.{entered_get}

-- LISTS

-- a slice, split at its first element
take_one : {X : Type 0} (n : ℕ) (x : X) (xs : List X) → take (suc n) (x ∷ xs) ≡ x ∷ take n xs
take_one n x xs = refl

pub range_one : {X : Type 0} (xs : List X) (i past : ℕ) (x : X) → slice_get xs i ≡ Some x → i < past →
    slice_range xs i past ≡ x ∷ slice_range xs (suc i) past
range_one xs i past x e lt =
    let n : past - i ≡ suc (past - suc i) = omega (arith, lt) in
    (λ j. take (n j) (drop_there xs i x e j)) ∙ take_one (past - suc i) x (drop (suc i) xs)

-- ROWS

-- the test for rows of entered registers, one row at a time
pub free_more : (e : Entered) (rows : List RegType) (j : ℕ) (r : RegType) → slice_get rows j ≡ Some r →
    are_free e (drop j rows) ≡ (is_free e r.reg && are_free e (drop (suc j) rows))
free_more e rows j r f = ap (list_all (λ (q : RegType). is_free e q.reg)) (drop_there rows j r f)

pub free_goes : (e : Entered) (rows : List RegType) (j : ℕ) (r : RegType) → slice_get rows j ≡ Some r → is_free e r.reg
    ≡ true → are_free e (drop j rows) ≡ are_free e (drop (j + 1) rows)
free_goes e rows j r f t = free_more e rows j r f ∙ ap (λ b. b && are_free e (drop (suc j) rows)) t
    ∙ (let n : suc j ≡ j + 1 = omega arith in ap (λ k. are_free e (drop k rows)) n)

pub free_stops : (e : Entered) (rows : List RegType) (j : ℕ) (r : RegType) → slice_get rows j ≡ Some r → is_free e r.reg
    ≡ false → are_free e (drop j rows) ≡ false
free_stops e rows j r f t = free_more e rows j r f ∙ ap (λ b. b && are_free e (drop (suc j) rows)) t

pub free_ends : (e : Entered) (rows : List RegType) (j : ℕ) → length rows ≤ j → are_free e (drop j rows) ≡ true
free_ends e rows j le = ap (list_all (λ (q : RegType). is_free e q.reg)) (drop_all j rows le)

-- ARRAYS

-- an array after one element is set
set_same : {X : Type 0} (xs : List X) (i : ℕ) (v : X) → i < length xs → slice_get (set xs i v) i ≡ Some v
set_same [] i v lt = absurd (omega (arith, lt))
set_same (x ∷ xs) zero v lt = refl
set_same (x ∷ xs) (suc i) v lt = set_same xs i v (omega (arith, lt))

set_other : {X : Type 0} (xs : List X) (i j : ℕ) (v : X) → (j ≡ i → ⊥) → slice_get (set xs i v) j ≡ slice_get xs j
set_other [] i j v h = refl
set_other (x ∷ xs) zero zero v h = absurd (h refl)
set_other (x ∷ xs) zero (suc j) v h = refl
set_other (x ∷ xs) (suc i) zero v h = refl
set_other (x ∷ xs) (suc i) (suc j) v h = set_other xs i j v (λ e. h (ap suc e))

stands_at : (xs : List (Option ℕ)) (e : Entered) (r : ℕ) (v : Option ℕ) (q : ℕ) → r < length xs → slice_get xs q
    ≡ Some (finite.get e q) → slice_get (set xs r v) q ≡ Some (finite.get (entered_with r v e) q)
stands_at xs e r v q lt h =
    ⊎_elim
    (λ (t : ((q == r) ≡ true) × (q ≡ r)).
    (λ i. slice_get (set xs r v) (t.1 i)) ∙ set_same xs r v lt
    ∙ ap Some (sym (entered_get e r v q ∙ ap (λ b. cond b v (finite.get e q)) t.0)))
    (λ (t : ((q == r) ≡ false) × (q ≡ r → ⊥)).
    set_other xs r q v t.1 ∙ h ∙ ap Some (sym (entered_get e r v q ∙ ap (λ b. cond b v (finite.get e q)) t.0)))
    (eqb_tells q r)

pub stands_with : (a : Traced) (e : Entered) (r s : ℕ) (v : Option ℕ) → s ≡ r → r < 64 → Stands a e →
    Stands (record { types = set a.types s v }) (entered_with r v e)
stands_with a e r s v same lt h = record {
  each = λ q l. ap (λ i. slice_get (set a.types i v) q) same
      ∙ stands_at a.types e r v q (slice_get_within a.types r (finite.get e r) (h.each r lt)) (h.each q l);
}

pub stands_none : Stands (record { types = replicate 64 None }) finite.empty
stands_none = record {
  each = λ r lt.
      slice_get-get_or (replicate 64 None) r None (let l = length-replicate 64 (let n : Option ℕ = None in n) in
      omega (arith, l, lt))
      ∙ ap Some (get_or-replicate 64 r None None lt ∙ sym (finite.get-empty nat_cmp r));
}

-- THE WALK

pub walk_fails : (o : Object) (e : Entered) (k : ℕ) (i : Instr) (is : List Instr) → is_traced o e i ≡ false →
    code_walk o e k (i ∷ is) ≡ Some k
unfolding code_walk
walk_fails o e k i is f = ap (λ b. if b then code_walk o (entered_after i e) (suc k) is else Some k) f

pub walk_goes : (o : Object) (e : Entered) (k : ℕ) (i : Instr) (is : List Instr) → is_traced o e i ≡ true →
    code_walk o e k (i ∷ is) ≡ code_walk o (entered_after i e) (suc k) is
unfolding code_walk
walk_goes o e k i is f = ap (λ b. if b then code_walk o (entered_after i e) (suc k) is else Some k) f

pub walk_ends : (o : Object) (e : Entered) (k : ℕ) → code_walk o e k [] ≡ None
unfolding code_walk
walk_ends o e k = refl

-- BLOCKS

pub fault_here : (o : Object) (b : ℕ) (y : Block) (ys : List Block) (i : ℕ) →
    code_walk o finite.empty 0 (block_instrs o b) ≡ Some i → first_walk_fault o b (y ∷ ys) ≡ Some (b, i)
fault_here o b y ys i e = ap (λ z. option_or (option_map (λ j. (b, j)) z) (first_walk_fault o (suc b) ys)) e

pub fault_later : (o : Object) (b : ℕ) (y : Block) (ys : List Block) → code_walk o finite.empty 0 (block_instrs o b)
    ≡ None → first_walk_fault o b (y ∷ ys) ≡ first_walk_fault o (suc b) ys
fault_later o b y ys e = ap (λ z. option_or (option_map (λ j. (b, j)) z) (first_walk_fault o (suc b) ys)) e

-- the walk of a block, one instruction at a time
pub walk_next : (o : Object) (e : Entered) (first i past : ℕ) (x : Instr) → slice_get o.instrs i ≡ Some x → i < past →
    first ≤ i → is_traced o e x ≡ true → code_walk o e (i - first) (slice_range o.instrs i past)
    ≡ code_walk o (entered_after x e) ((i + 1) - first) (slice_range o.instrs (i + 1) past)
walk_next o e first i past x f lt le t =
    let n : suc (i - first) ≡ (i + 1) - first = omega (arith, le) in
    let m : suc i ≡ i + 1 = omega arith in
    ap (code_walk o e (i - first)) (range_one o.instrs i past x f lt)
    ∙ walk_goes o e (i - first) x (slice_range o.instrs (suc i) past) t
    ∙ (λ j. code_walk o (entered_after x e) (n j) (slice_range o.instrs (m j) past))

pub walk_stop : (o : Object) (e : Entered) (k i past : ℕ) (x : Instr) → slice_get o.instrs i ≡ Some x → i < past →
    is_traced o e x ≡ false → code_walk o e k (slice_range o.instrs i past) ≡ Some k
walk_stop o e k i past x f lt t = ap (code_walk o e k) (range_one o.instrs i past x f lt)
    ∙ walk_fails o e k x (slice_range o.instrs (suc i) past) t

pub walk_over : (o : Object) (e : Entered) (k i past : ℕ) → past ≤ i → code_walk o e k (slice_range o.instrs i past)
    ≡ None
walk_over o e k i past le = ap (code_walk o e k) (range_past o.instrs i past le) ∙ walk_ends o e k

-- the walk of an object, one block at a time
pub block_next_fault : (o : Object) (b first past : ℕ) → b < length o.blocks → first ≡ block_start o b → past
    ≡ block_end o b → code_walk o finite.empty 0 (slice_range o.instrs first past) ≡ None →
    first_walk_fault o b (drop b o.blocks) ≡ first_walk_fault o (b + 1) (drop (b + 1) o.blocks)
block_next_fault o b first past lt e f w =
    let y = there_below o.blocks b lt in
    let n : suc b ≡ b + 1 = omega arith in
    let none : code_walk o finite.empty 0 (block_instrs o b)
    ≡ None = sym (λ i. code_walk o finite.empty 0 (slice_range o.instrs (e i) (f i))) ∙ w in
    ap (first_walk_fault o b) (drop_there o.blocks b y.0 y.1) ∙ fault_later o b y.0 (drop (suc b) o.blocks) none
    ∙ (λ i. first_walk_fault o (n i) (drop (n i) o.blocks))

pub block_fault : (o : Object) (b first past k : ℕ) → b < length o.blocks → first ≡ block_start o b → past
    ≡ block_end o b → code_walk o finite.empty 0 (slice_range o.instrs first past) ≡ Some k →
    first_walk_fault o b (drop b o.blocks) ≡ Some (b, k)
block_fault o b first past k lt e f w =
    let y = there_below o.blocks b lt in
    let some : code_walk o finite.empty 0 (block_instrs o b)
    ≡ Some k = sym (λ i. code_walk o finite.empty 0 (slice_range o.instrs (e i) (f i))) ∙ w in
    ap (first_walk_fault o b) (drop_there o.blocks b y.0 y.1) ∙ fault_here o b y.0 (drop (suc b) o.blocks) k some

pub no_block_fault : (o : Object) (b : ℕ) → length o.blocks ≤ b → first_walk_fault o b (drop b o.blocks) ≡ None
no_block_fault o b le = ap (first_walk_fault o b) (drop_all b o.blocks le)
