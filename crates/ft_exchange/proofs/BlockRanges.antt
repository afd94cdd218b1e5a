-- Blocks of an object with two neighbours exchanged.
use Rattle.std.proofs.Common.{◌≡◌, ℕ, suc, ◌+◌, ◌<◌, ◌≤◌, length, Some, slice_get, refl, ap, ◌∙◌, subst, arith, inl}
use Rattle.std.proofs.Common.{inr, ⊎_elim}
use Rattle.std.specs.Option.{option_map, unwrap_or}
use Rattle.std.specs.List.{slice_range}
use Rattle.std.proofs.lemmas.Bool.{cases_lt}
use Rattle.std.proofs.lemmas.Option.{slice_get_cases, slice_get_within}
use Rattle.ft_isa.specs.declared.instr.Instr.{Instr}
use Rattle.ft_types.specs.declared.object.Object.{Object}
use Rattle.ft_types.specs.declared.object.Block.{Block}
use Rattle.ft_types.specs.Objects.{start_of, block_start, block_end, block_instrs}
use Rattle.ft_types.specs.Spellable.{IsSpellable}
use Rattle.ft_types.proofs.BlockStarts.{rises}
use Rattle.ft_exchange.specs.Exchange.{IsPermitted, exchanged, with_instrs, after_exchange}
use Rattle.ft_exchange.proofs.Lists.{length-exchanged, range_around, range_before, range_after, get-range}

-- WHERE BLOCKS BEGIN

-- a block does not begin before an earlier one
pub starts_rise : (o : Object) (i j : ℕ) (x y : Block) → IsSpellable o → slice_get o.blocks i ≡ Some x →
    slice_get o.blocks j ≡ Some y → i ≤ j → x.start ≤ y.start
starts_rise o i j x y spelled ex ey l =
    ⊎_elim
    (λ (lt : i < j). let h = rises (length o.instrs) 0 o.blocks i j x y spelled.blocks ex ey lt in omega arith)
    (λ (ge : j ≤ i). let e : i ≡ j = omega arith in
    let same : x ≡ y = (let f = subst (λ k. slice_get o.blocks k ≡ Some x) e ex in cc) in let s = ap start_of same in
    omega arith)
    (cases_lt i j)

-- an earlier block ends before a later one begins
pub ends_before : (o : Object) (i j : ℕ) (y : Block) → IsSpellable o → slice_get o.blocks j ≡ Some y → i < j →
    block_end o i ≤ y.start
ends_before o i j y spelled ey lt = elim (slice_get_cases o.blocks (suc i)).1 [
  | inl z ↦ (let s : block_end o i ≡ z.0.start = ap (λ u. unwrap_or (option_map start_of u) (length o.instrs)) z.2 in
      let h = starts_rise o (suc i) j z.0 y spelled z.2 ey lt in omega arith)
  | inr e ↦ (let h = slice_get_within o.blocks j y ey in let g = e.0 in absurd (omega arith))
]

pub start_is : (o : Object) (b : ℕ) (x : Block) → slice_get o.blocks b ≡ Some x → block_start o b ≡ x.start
start_is o b x e = ap (λ u. unwrap_or (option_map start_of u) 0) e

-- THE EXCHANGE

-- the place of an exchange in the code, and the two instructions there
pub record Placed (o : Object) (b k : ℕ) (first second : Instr) : Type 0 where
  pub first_there : slice_get o.instrs (block_start o b + k) ≡ Some first
  pub second_there : slice_get o.instrs (suc (block_start o b + k)) ≡ Some second
  pub inside : block_start o b + k + 2 ≤ block_end o b

pub placed : (o : Object) (b k : ℕ) (h : IsPermitted o b k) → Placed o b k h.first h.second
placed o b k h =
    let f = get-range o.instrs (block_start o b) (block_end o b) k h.first h.first_there in
    let g = get-range o.instrs (block_start o b) (block_end o b) (suc k) h.second h.second_there in
    let e : block_start o b + suc k ≡ suc (block_start o b + k) = omega arith in
    let l = g.0 in
    record {
      first_there = f.1;
      second_there = subst (λ j. slice_get o.instrs j ≡ Some h.second) e g.1;
      inside = omega arith;
    }

-- blocks end where they did
end_same : (o : Object) (n b : ℕ) → block_end (with_instrs o (exchanged o.instrs n)) b ≡ block_end o b
end_same o n b = ap (unwrap_or (option_map start_of (slice_get o.blocks (suc b)))) (length-exchanged o.instrs n)

-- in the block that contains the exchange, the two instructions are swapped
pub same_block : (o : Object) (b k : ℕ) → IsPermitted o b k → block_instrs (after_exchange o b k) b
    ≡ exchanged (block_instrs o b) k
same_block o b k h =
    let n = block_start o b + k in
    ap (slice_range (exchanged o.instrs n) (block_start o b)) (end_same o n b)
    ∙ range_around o.instrs n k (block_start o b) (block_end o b) refl (placed o b k h).inside

-- no block begins between the two instructions
pub no_start : (o : Object) (b k j : ℕ) (y : Block) → IsSpellable o → IsPermitted o b k → slice_get o.blocks j
    ≡ Some y → y.start ≡ suc (block_start o b + k) → ⊥
no_start o b k j y spelled h ey e = elim (slice_get_cases o.blocks b).1 [
  | inl x ↦ ⊎_elim
      (λ (lt : b < j). let l = ends_before o b j y spelled ey lt in let i = (placed o b k h).inside in
      absurd (omega arith))
      (λ (ge : j ≤ b). let l = starts_rise o j b y x.0 spelled ey x.2 ge in let s = start_is o b x.0 x.2 in
      absurd (omega arith))
      (cases_lt b j)
  | inr n ↦ (let l = h.block in let m = n.0 in absurd (omega arith))
]

-- another block is unchanged
pub other_block : (o : Object) (b k j : ℕ) (y : Block) → IsSpellable o → IsPermitted o b k → slice_get o.blocks j
    ≡ Some y → (j ≡ b → ⊥) → block_instrs (after_exchange o b k) j ≡ block_instrs o j
other_block o b k j y spelled h ey ne =
    let n = block_start o b + k in
    let s = start_is o j y ey in
    ap (slice_range (exchanged o.instrs n) (block_start o j)) (end_same o n j) ∙ elim (slice_get_cases o.blocks b).1 [
      | inl x ↦ ⊎_elim
          (λ (lt : b < j). let l = ends_before o b j y spelled ey lt in let i = (placed o b k h).inside in
          range_after o.instrs n (block_start o j) (block_end o j) (omega arith))
          (λ (ge : j ≤ b).
          let below : j < b = ⊎_elim (λ (l : j < b). l) (λ (g : b ≤ j). let e : j ≡ b = omega arith in
          absurd (ne e)) (cases_lt j b) in
          let l = ends_before o j b x.0 spelled x.2 below in
          let t = start_is o b x.0 x.2 in
          let r = starts_rise o j b y x.0 spelled ey x.2 ge in
          range_before o.instrs n (block_start o j) (block_end o j) (omega arith) (omega arith))
          (cases_lt b j)
      | inr n ↦ (let l = h.block in let m = n.0 in absurd (omega arith))
    ]
