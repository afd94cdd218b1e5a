-- Where blocks begin, and the shape of well-formed blocks.
use Rattle.std.proofs.Common.{◌≡◌, ℕ, zero, suc, ◌+◌, ◌<◌, List, [], ◌∷◌, ◌++◌, length, slice_index, get_or, refl}
use Rattle.std.proofs.Common.{sym, ap, ◌∙◌, subst, arith}
use Rattle.std.specs.List.{All}
use Rattle.std.proofs.lemmas.List.Elements.{All-head, All-tail, All-cons, All-nil, All-from_get_or}
use Rattle.ft_lower.specs.declared.step3.Step3.{Step3}
use Rattle.ft_lower.specs.declared.step3.Step3.TheVariants.{Put, Copy, Op, Load, Store, LoadAt, StoreAt, Exit, Go, Stop}
use Rattle.ft_lower.specs.Flow.{Blocks, block_of}
use Rattle.ft_lower.specs.Size.{row_size}
use Rattle.ft_lower.specs.Well.{Known, StepFits, RowIsWell, known_after, known_first, IsWell}
use Rattle.ft_dup.specs.Shape.{HasTarget, HasShape}
use Rattle.ft_dup.specs.Images.{image, row_images, blocks_images, starts, starts_from, start_of, doubled}

-- THE STARTS

-- there are as many starts as blocks
pub starts_length : (n : ℕ) (bs : Blocks) → length (starts_from n bs) ≡ length bs
starts_length n [] = refl
starts_length n (b ∷ bs) = ap suc (starts_length (n + row_size b) bs)

-- element b of the list of starts is the start of block b, if the block exists
pub start_at : (n : ℕ) (bs : Blocks) (b : ℕ) → b < length bs → slice_index (starts_from n bs) b ≡ n + start_of bs b
start_at n [] b h = absurd (omega arith)
start_at n (x ∷ bs) zero h = omega arith
start_at n (x ∷ bs) (suc b) h =
    let lt : b < length bs = omega arith in
    start_at (n + row_size x) bs b lt ∙ omega arith

-- the first block begins at 0
pub first_start : (bs : Blocks) → start_of bs 0 ≡ 0
first_start [] = refl
first_start (x ∷ bs) = refl

-- IMAGES FROM THE STARTS

module _ (f g : ℕ → ℕ) (n : ℕ) (same : (b : ℕ) → b < n → f b ≡ g b) where
  -- the image of a step depends only on its target's start
  image_same : (i : Step3) → HasTarget n i → image f i ≡ image g i
  image_same (Put p w) h = refl
  image_same (Copy p q) h = refl
  image_same (Op o p q s) h = refl
  image_same (Load p c) h = refl
  image_same (Store c q spare) h = refl
  image_same (LoadAt p q first m) h = refl
  image_same (StoreAt first m i q spare) h = refl
  image_same (Exit q spare to) h = ap (λ t. image (λ b. t) (Exit q spare to)) (same to h.there)
  image_same (Go spare to) h = ap (λ t. image (λ b. t) (Go spare to)) (same to h.there)
  image_same Stop h = refl

  -- so do the images of a row
  row_same : (is : List Step3) → All (HasTarget n) is → row_images f is ≡ row_images g is
  row_same [] h = refl
  row_same (i ∷ is) h =
      ap (λ l. l ++ row_images f is) (image_same i (All-head (HasTarget n) i is h))
      ∙ ap (λ l. image g i ++ l) (row_same is (All-tail (HasTarget n) i is h))

  -- blocks have the same images if their targets have the same starts
  pub blocks_same : (bs : Blocks) → All (All (HasTarget n)) bs → blocks_images f bs ≡ blocks_images g bs
  blocks_same [] h = refl
  blocks_same (b ∷ bs) h =
      ap (λ l. l ++ blocks_images f bs) (row_same b (All-head (All (HasTarget n)) b bs h))
      ∙ ap (λ l. row_images g b ++ l) (blocks_same bs (All-tail (All (HasTarget n)) b bs h))

-- if the starts are as defined, each target has one
pub targets_there : (ss : List ℕ) (bs : Blocks) → ss ≡ starts bs → All (All (HasTarget (length bs))) bs →
    All (All (HasTarget (length ss))) bs
targets_there ss bs e h = subst (λ n. All (All (HasTarget n)) bs) (sym (ap length e ∙ starts_length 0 bs)) h

-- and the images computed from them are the doubled blocks
pub images_there : (ss : List ℕ) (bs : Blocks) → ss ≡ starts bs → All (All (HasTarget (length bs))) bs →
    blocks_images (slice_index ss) bs ≡ doubled bs
images_there ss bs e h = blocks_same (slice_index ss) (start_of bs) (length bs) (λ b lt. ap (λ l. slice_index l b) e
    ∙ start_at 0 bs b lt ∙ omega arith) bs h

-- THE SHAPE

-- the target of a step that fits exists
target_of : (cells blocks : ℕ) (i : Step3) → StepFits cells blocks i → HasTarget blocks i
target_of cells blocks (Put p w) h = tt
target_of cells blocks (Copy p q) h = tt
target_of cells blocks (Op o p q s) h = tt
target_of cells blocks (Load p c) h = tt
target_of cells blocks (Store c q spare) h = tt
target_of cells blocks (LoadAt p q first m) h = tt
target_of cells blocks (StoreAt first m i q spare) h = tt
target_of cells blocks (Exit q spare to) h = h
target_of cells blocks (Go spare to) h = h
target_of cells blocks Stop h = tt

-- the targets of the steps of a well-formed row exist
row_targets : (vars cells blocks : ℕ) (k : Known) (is : List Step3) → RowIsWell vars cells blocks k is →
    All (HasTarget blocks) is
row_targets vars cells blocks k [] h = All-nil (HasTarget blocks)
row_targets vars cells blocks k (i ∷ is) h = All-cons (HasTarget blocks) i is (target_of cells blocks i h.0)
    (row_targets vars cells blocks (known_after i k) is h.2)

-- block b is element b of the list
pub block_is : (bs : Blocks) (b : ℕ) → b < length bs → block_of bs b ≡ get_or bs b []
block_is [] b h = absurd (omega arith)
block_is (x ∷ bs) zero h = refl
block_is (x ∷ bs) (suc b) h = block_is bs b (omega arith)

-- well-formed blocks have the shape that can be doubled
pub shape_of_well : (vars cells : ℕ) (bs : Blocks) → IsWell vars cells bs → HasShape bs
shape_of_well vars cells bs h = record {
  pairs = h.pairs;
  targets = All-from_get_or (All (HasTarget (length bs))) bs [] (λ b lt.
      subst (All (HasTarget (length bs))) (block_is bs b lt)
      (row_targets vars cells (length bs) (known_first vars b) (block_of bs b) (h.rows b lt)));
  ended = h.ended;
  short = h.short;
}
