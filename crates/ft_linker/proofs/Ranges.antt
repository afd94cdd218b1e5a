-- Where blocks begin and end.
use Rattle.std.proofs.Common.{◌≡◌, ℕ, zero, suc, ◌<◌, ◌≤◌, List, [], ◌∷◌, length, slice_get, Option, Some, sym, ap}
use Rattle.std.proofs.Common.{subst, arith}
use Rattle.std.specs.Option.{option_map, unwrap_or}
use Rattle.std.proofs.lemmas.Option.{slice_get_past}
use Rattle.ft_types.specs.declared.object.Object.{Object}
use Rattle.ft_types.specs.declared.object.Block.{Block}
use Rattle.ft_types.specs.Objects.{start_of, block_start, block_end}
use Rattle.ft_types.specs.Spellable.{AreBlocks}

-- a block begins before the next one
pub block_next : (end least : ℕ) (bs : List Block) (n : ℕ) (y z : Block) → AreBlocks end least bs → slice_get bs n
    ≡ Some y → slice_get bs (suc n) ≡ Some z → y.start < z.start
block_next end least [] n y z h e f = cc
block_next end least (b ∷ []) zero y z h e f = cc
block_next end least (b ∷ c ∷ bs) zero y z h e f =
    let one : b ≡ y = cc in
    let other : c ≡ z = cc in
    subst (λ (x : Block). x.start < z.start) one (subst (λ (x : Block). b.start < x.start) other (let l = h.2.0 in
    omega (arith, l)))
block_next end least (b ∷ bs) (suc n) y z h e f = block_next end (suc b.start) bs n y z h.2 e f

pub starts_at : (o : Object) (b : ℕ) (y : Block) → slice_get o.blocks b ≡ Some y → y.start ≡ block_start o b
starts_at o b y e = sym (ap (λ (z : Option Block). unwrap_or (option_map start_of z) 0) e)

pub ends_at : (o : Object) (b : ℕ) (z : Block) → slice_get o.blocks (suc b) ≡ Some z → z.start ≡ block_end o b
ends_at o b z e = sym (ap (λ (x : Option Block). unwrap_or (option_map start_of x) (length o.instrs)) e)

pub ends_last : (o : Object) (b : ℕ) → length o.blocks ≤ suc b → length o.instrs ≡ block_end o b
ends_last o b le = sym (ap (λ (x : Option Block). unwrap_or (option_map start_of x) (length o.instrs))
    (slice_get_past o.blocks (suc b) le))
