-- Code addresses of blocks: each block is found at its own address.
use Rattle.std.proofs.Common.{◌≡◌, ◌⊎◌, inl, inr, ⊎_elim, ℕ, zero, suc, ◌-◌, ◌<◌, ◌≤◌, Bool, true, false, cond, ◌==◌}
use Rattle.std.proofs.Common.{List, [], ◌∷◌, length, map, take, drop, slice_get, Option, Some, refl, sym, ap, ◌∙◌}
use Rattle.std.proofs.Common.{subst, arith, eq-eqb, ne_eqb}
use Rattle.std.specs.Prelude.{find, slice_range}
use Rattle.std.specs.Option.{option_map, unwrap_or}
use Rattle.std.proofs.lemmas.Bool.{cases_eq, cases_lt}
use Rattle.std.proofs.lemmas.Option.{slice_get_within, same_Some}
use Rattle.ft_isa.specs.Words.{code_address}
use Rattle.ft_isa.specs.declared.instr.Instr.{Instr}
use Rattle.ft_isa.proofs.Lists.{there_below}
use Rattle.ft_types.specs.declared.object.Object.{Object}
use Rattle.ft_types.specs.declared.object.Block.{Block}
use Rattle.ft_typing.specs.Accepted.{IsAccepted}
use Rattle.ft_types.specs.Objects.{start_of, block_start, block_end}
use Rattle.ft_types.specs.Spellable.{AreBlocks, IsSpellable}
use Rattle.ft_types.proofs.BlockStarts.{rises}
use Rattle.ft_typing.specs.TypedWord.{block_at}
use Rattle.ft_tolerance.specs.TypedState.{Place, instr_number, IsPlace}
use Rattle.ft_tolerance.proofs.BlockPlaces.{within_blocks}

-- FINDING

-- searches whose tests agree on the elements of the list find the same element
pub find_same : {X : Type 0} (p q : X → Bool) (xs : List X) → ((n : ℕ) (x : X) → slice_get xs n ≡ Some x → p x ≡ q x) →
    find p xs ≡ find q xs
find_same p q [] h = refl
find_same p q (x ∷ xs) h = λ i. cond (h 0 x refl i) (Some x) (find_same p q xs (λ n y e. h (suc n) y e) i)

-- a search in a mapped list finds the image of what a search in the list itself finds
pub find_mapped : {X Y : Type 0} (p : Y → Bool) (f : X → Y) (xs : List X) → find p (map f xs)
    ≡ option_map f (find (λ x. p (f x)) xs)
find_mapped p f [] = refl
find_mapped p f (x ∷ xs) = ap (cond (p (f x)) (Some (f x))) (find_mapped p f xs) ∙ by_test (p (f x))
  where
    by_test : (b : Bool) → cond b (Some (f x)) (option_map f (find (λ z. p (f z)) xs))
        ≡ option_map f (cond b (Some x) (find (λ z. p (f z)) xs))
    by_test true = refl
    by_test false = refl

-- two tests are equal if each passes whenever the other does
pub same_tests : (a b : Bool) → (a ≡ true → b ≡ true) → (b ≡ true → a ≡ true) → a ≡ b
same_tests true b h k = sym (h refl)
same_tests false true h k = k refl
same_tests false false h k = refl

-- BLOCKS

-- a search in a list of blocks for a block's own address finds this block
find_start : (end least : ℕ) (bs : List Block) (n : ℕ) (y : Block) → AreBlocks end least bs → slice_get bs n ≡ Some y →
    find (λ (b : Block). code_address y.start == code_address b.start) bs ≡ Some y
find_start end least [] n y h e = cc
find_start end least (b ∷ bs) zero y h e =
    let same : b ≡ y = cc in
    ap (λ t. cond t (Some b) (find (λ (z : Block). code_address y.start == code_address z.start) bs))
    (eq-eqb (code_address y.start) (code_address b.start) (ap (λ (z : Block). code_address z.start) (sym same)))
    ∙ ap Some same
find_start end least (b ∷ bs) (suc n) y h e =
    let w = within_blocks end (suc b.start) bs n y h.2 e in
    ap (λ t. cond t (Some b) (find (λ (z : Block). code_address y.start == code_address z.start) bs))
    (ne_eqb (code_address y.start) (code_address b.start) (λ i. omega (arith, i, w.0)))
    ∙ find_start end (suc b.start) bs n y h.2 e

-- looking up a block's own address in an object finds this block
pub block_at_own : (o : Object) (n : ℕ) (y : Block) → IsSpellable o → slice_get o.blocks n ≡ Some y →
    block_at o (code_address y.start) ≡ Some y
unfolding block_at
block_at_own o n y spelled e = find_start (length o.instrs) 0 o.blocks n y spelled.blocks e
