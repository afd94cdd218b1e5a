-- Blocks and places: a block has one number, and none begins inside another.
use Rattle.std.proofs.Common.{◌≡◌, ◌⊎◌, inl, inr, ⊎_elim, ℕ, zero, suc, ◌-◌, ◌<◌, ◌≤◌, List, [], ◌∷◌, take, drop}
use Rattle.std.proofs.Common.{slice_get, Option, Some, sym, ap, ◌∙◌, subst, arith, length}
use Rattle.std.specs.Prelude.{slice_range}
use Rattle.std.specs.Option.{option_map, unwrap_or}
use Rattle.std.proofs.lemmas.Bool.{cases_eq, cases_lt}
use Rattle.std.proofs.lemmas.Option.{slice_get_within, same_Some}
use Rattle.ft_isa.specs.Words.{code_address}
use Rattle.ft_isa.specs.declared.instr.Instr.{Instr}
use Rattle.ft_isa.proofs.Lists.{there_below}
use Rattle.ft_types.specs.declared.object.Object.{Object}
use Rattle.ft_types.specs.declared.object.Block.{Block}
use Rattle.ft_types.specs.Objects.{start_of, block_start, block_end}
use Rattle.ft_types.specs.Spellable.{AreBlocks, IsSpellable}
use Rattle.ft_types.proofs.BlockStarts.{rises}
use Rattle.ft_typing.specs.Accepted.{IsAccepted}
use Rattle.ft_tolerance.specs.TypedState.{Place, instr_number, IsPlace}
use Rattle.ft_tolerance.proofs.AcceptedSteps.{here}

-- the index of one of the first k elements is below k
take_length : {X : Type 0} (xs : List X) (k n : ℕ) (x : X) → slice_get (take k xs) n ≡ Some x → n < k
take_length [] zero n x e = cc
take_length [] (suc k) n x e = cc
take_length (y ∷ xs) zero n x e = cc
take_length (y ∷ xs) (suc k) zero x e = omega arith
take_length (y ∷ xs) (suc k) (suc n) x e = omega (arith, take_length xs k n x e)

-- a block begins at or after the least place, and before the end
pub within_blocks : (end least : ℕ) (bs : List Block) (n : ℕ) (y : Block) → AreBlocks end least bs → slice_get bs n
    ≡ Some y → (least ≤ y.start) × (y.start < end)
within_blocks end least [] n y h e = cc
within_blocks end least (b ∷ bs) zero y h e = let same : b ≡ y = cc in
    subst (λ (z : Block). (least ≤ z.start) × (z.start < end)) same (h.0, h.1)
within_blocks end least (b ∷ bs) (suc n) y h e = let w = within_blocks end (suc b.start) bs n y h.2 e in
    (omega (arith, h.0, w.0), w.1)

-- blocks that begin at the same place have the same number
pub one_number : (end least : ℕ) (bs : List Block) (n m : ℕ) (y z : Block) → AreBlocks end least bs → slice_get bs n
    ≡ Some y → slice_get bs m ≡ Some z → y.start ≡ z.start → n ≡ m
one_number end least bs n m y z h e f s =
    ⊎_elim
    (λ (lt : n < m). absurd (omega (arith, rises end least bs n m y z h e f lt, s)))
    (λ (le : m ≤ n). ⊎_elim (λ (gt : m < n). absurd (omega (arith, rises end least bs m n z y h f e gt, s)))
    (λ (ge : n ≤ m). omega (arith, le, ge)) (cases_lt m n))
    (cases_lt n m)

-- a block that begins later has a larger number
number_less : (end least : ℕ) (bs : List Block) (n m : ℕ) (y z : Block) → AreBlocks end least bs → slice_get bs n
    ≡ Some y → slice_get bs m ≡ Some z → y.start < z.start → n < m
number_less end least bs n m y z h e f s =
    ⊎_elim
    (λ (lt : n < m). lt)
    (λ (le : m ≤ n). ⊎_elim
    (λ (gt : m < n). absurd (omega (arith, rises end least bs m n z y h f e gt, s)))
    (λ (ge : n ≤ m). let number : n ≡ m = omega (arith, le, ge) in
    let same : y ≡ z = same_Some y z (sym e ∙ ap (slice_get bs) number ∙ f) in
    absurd (omega (arith, ap (λ (k : Block). k.start) same, s)))
    (cases_lt m n))
    (cases_lt n m)

-- a block ends at or before the start of any later block
end_least : (end least : ℕ) (bs : List Block) (n m : ℕ) (y z : Block) (e : ℕ) → AreBlocks end least bs → slice_get bs n
    ≡ Some y → slice_get bs m ≡ Some z → n < m → unwrap_or (option_map start_of (slice_get bs (suc n))) e ≤ z.start
end_least end least bs n m y z e h f g lt =
    let below = slice_get_within bs m z g in
    let x = there_below bs (suc n) (omega (arith, lt, below)) in
    subst (λ (u : Option Block). unwrap_or (option_map start_of u) e ≤ z.start) (sym x.1)
    (by_next x.0 x.1 (cases_eq (suc n) m))
  where
    by_next : (w : Block) → slice_get bs (suc n) ≡ Some w → (suc n ≡ m) ⊎ (suc n ≡ m → ⊥) → w.start ≤ z.start
    by_next w i (inl s) = (let same : w ≡ z = same_Some w z (sym i ∙ ap (slice_get bs) s ∙ g) in
        subst (λ (k : Block). w.start ≤ k.start) same (omega arith))
    by_next w i (inr ne) = (let r = rises end least bs (suc n) m w z h i g (omega (arith, lt, ne)) in omega (arith, r))

-- an index in a slice is below the slice's length
range_length : (is : List Instr) (a b n : ℕ) (i : Instr) → slice_get (slice_range is a b) n ≡ Some i → n < b - a
range_length is a b n i e = take_length (drop a is) (b - a) n i e

-- no block begins at an instruction that is not the first of its block
pub no_block_inside : (o : Object) (p : Place) (j m : ℕ) (z : Block) → IsSpellable o → IsAccepted o →
    (at : IsPlace o p) → p.index ≡ suc j → slice_get o.blocks m ≡ Some z → code_address (instr_number p)
    ≡ code_address z.start → ⊥
no_block_inside o p j m z spelled acc at index there same =
    let h = here o p acc at in
    let start : block_start o at.number ≡ p.block.start = ap (λ (x : Option Block). unwrap_or (option_map start_of x) 0)
    at.block in
    let long = range_length o.instrs (block_start o at.number) (block_end o at.number) p.index h.instr h.in_block in
    let after : p.block.start < z.start = omega arith in
    let later : at.number < m = number_less (length o.instrs) 0 o.blocks at.number m p.block z spelled.blocks at.block
    there after in
    let le = end_least (length o.instrs) 0 o.blocks at.number m p.block z (length o.instrs) spelled.blocks at.block
    there later in
    omega arith
