-- Loops over lists: one turn, and the end.
use Rattle.std.proofs.Common.{◌≡◌, ◌+◌, ◌≤◌, ℕ, zero, suc, Bool, true, false, cond, ◌&&◌, ◌||◌, List, [], ◌∷◌, length}
use Rattle.std.proofs.Common.{drop}
use Rattle.std.proofs.Common.{slice_get, Some, None, refl, sym, ap, ◌∙◌, arith}
use Rattle.std.specs.Prelude.{find}
use Rattle.std.specs.List.{list_all, list_any}
use Rattle.std.proofs.Common.{◌<◌, ◌==◌, eq-eqb, ne_eqb}
use Rattle.ft_isa.proofs.Lists.{drop_next, all_there}
use Rattle.ft_isa.specs.Words.{code_address}
use Rattle.ft_types.specs.declared.object.Object.{Object}
use Rattle.ft_types.specs.declared.object.Block.{Block}
use Rattle.ft_types.specs.Spellable.{HasCodeType, IsSpellable}
use Rattle.ft_typing.specs.TypedWord.{block_at}
use Rattle.ft_tolerance.proofs.Transfers.{block_there}

-- nothing is left past the end
drop_past : {X : Type 0} (xs : List X) (k : ℕ) → length xs ≤ k → drop k xs ≡ []
drop_past [] zero le = refl
drop_past [] (suc k) le = refl
drop_past (x ∷ xs) zero le = absurd (omega arith)
drop_past (x ∷ xs) (suc k) le = drop_past xs k (omega arith)

module _ {X : Type 0} (p : X → Bool) (xs : List X) (k : ℕ) where
  -- the first element left passes the test
  pub any_here : (x : X) → slice_get xs k ≡ Some x → p x ≡ true → list_any p (drop k xs) ≡ true
  any_here x e h = ap (list_any p) (drop_next xs k x e) ∙ ap (λ b. b || list_any p (drop (k + 1) xs)) h

  -- it fails it
  pub any_later : (x : X) → slice_get xs k ≡ Some x → p x ≡ false → list_any p (drop k xs)
      ≡ list_any p (drop (k + 1) xs)
  any_later x e h = ap (list_any p) (drop_next xs k x e) ∙ ap (λ b. b || list_any p (drop (k + 1) xs)) h

  -- none is left
  pub any_none : length xs ≤ k → list_any p (drop k xs) ≡ false
  any_none le = ap (list_any p) (drop_past xs k le)

  pub all_here : (x : X) → slice_get xs k ≡ Some x → p x ≡ false → list_all p (drop k xs) ≡ false
  all_here x e h = ap (list_all p) (drop_next xs k x e) ∙ ap (λ b. b && list_all p (drop (k + 1) xs)) h

  pub all_later : (x : X) → slice_get xs k ≡ Some x → p x ≡ true → list_all p (drop k xs)
      ≡ list_all p (drop (k + 1) xs)
  all_later x e h = ap (list_all p) (drop_next xs k x e) ∙ ap (λ b. b && list_all p (drop (k + 1) xs)) h

  pub all_none : length xs ≤ k → list_all p (drop k xs) ≡ true
  all_none le = ap (list_all p) (drop_past xs k le)

  pub find_here : (x : X) → slice_get xs k ≡ Some x → p x ≡ true → find p (drop k xs) ≡ Some x
  find_here x e h = ap (find p) (drop_next xs k x e) ∙ ap (λ b. cond b (Some x) (find p (drop (k + 1) xs))) h

  pub find_later : (x : X) → slice_get xs k ≡ Some x → p x ≡ false → find p (drop k xs) ≡ find p (drop (k + 1) xs)
  find_later x e h = ap (find p) (drop_next xs k x e) ∙ ap (λ b. cond b (Some x) (find p (drop (k + 1) xs))) h

  pub find_none : length xs ≤ k → find p (drop k xs) ≡ None
  find_none le = ap (find p) (drop_past xs k le)

-- BLOCKS

-- the search for a block begins with all blocks
pub search_begins : (o : Object) (address : ℕ) → find (λ (x : Block). address == code_address x.start) (drop 0 o.blocks)
    ≡ block_at o address
unfolding block_at
search_begins o address = refl

-- the block at an address is found here
pub block_here : (o : Object) (address k : ℕ) (b : Block) → slice_get o.blocks k ≡ Some b → b.start + 1 ≡ address →
    find (λ (x : Block). address == code_address x.start) (drop k o.blocks) ≡ Some b
block_here o address k b e h = find_here (λ (x : Block). address == code_address x.start) o.blocks k b e
    (eq-eqb address (1 + b.start) (omega (arith, h)))

-- or later
pub block_later : (o : Object) (address k : ℕ) (b : Block) → slice_get o.blocks k ≡ Some b →
    (b.start + 1 ≡ address → ⊥) →
    find (λ (x : Block). address == code_address x.start) (drop k o.blocks)
    ≡ find (λ (x : Block). address == code_address x.start) (drop (k + 1) o.blocks)
block_later o address k b e h = find_later (λ (x : Block). address == code_address x.start) o.blocks k b e
    (ne_eqb address (1 + b.start) (λ q. h (omega (arith, q))))

-- a block that is found has one of the code types
pub type_there : (o : Object) (address : ℕ) (b : Block) → IsSpellable o → Some b ≡ block_at o address →
    b.code_type < length o.types
type_there o address b spelled e =
    let f = block_there o address b (sym e) in
    all_there (HasCodeType (length o.types)) o.blocks f.number b spelled.block_types f.there
