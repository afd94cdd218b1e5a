-- Where a row of steps is cut.
use Rattle.std.proofs.Common.{◌≡◌, ℕ, ◌+◌, ◌<◌, ◌≤◌, Bool, true, false, List, [], ◌∷◌, ◌++◌, length, get_or, take, drop}
use Rattle.std.proofs.Common.{refl, sym, ap, ◌∙◌, subst, append_assoc}
use Rattle.std.specs.List.{All, flat_map}
use Rattle.std.proofs.lemmas.List.{drop_all, drop_more, take_more}
use Rattle.std.proofs.lemmas.List.Elements.{All-nil, All-head, All-tail, All-append}
use Rattle.ft_lower.specs.declared.step3.Step3.{Step3}
use Rattle.ft_lower.specs.Flow.{Blocks}
use Rattle.ft_lower.specs.Well.{is_last}
use Rattle.ft_lower.specs.Cutting.{blocks_onto}

-- the blocks of a row, if these steps of its open block come first, and the last of them ends it or not
abbrev after_step : List Step3 → List Step3 → Bool → Blocks
after_step o is b = elim b as (λ b. Blocks) [ true ↦ o ∷ blocks_onto [] is | false ↦ blocks_onto o is ]

-- an open block ends if nothing follows its last step
onto_end : (o : List Step3) (i : Step3) → blocks_onto (o ++ i ∷ []) [] ≡ (o ++ i ∷ []) ∷ []
onto_end [] i = refl
onto_end (x ∷ o) i = refl

-- the next step is put to the open block
cut_next : (row : List Step3) (n : ℕ) (d : Step3) (b : Bool) → n < length row → is_last (get_or row n d) ≡ b →
    blocks_onto (take n row) (drop n row) ≡ after_step (take (n + 1) row) (drop (n + 1) row) b
cut_next row n d b h e =
    ap (blocks_onto (take n row)) (drop_more row n d h)
    ∙ ap (after_step (take n row ++ get_or row n d ∷ []) (drop (n + 1) row)) e
    ∙ ap (λ o. after_step o (drop (n + 1) row) b) (sym (take_more row n d h))

-- the block stays open after a step that ends no block
pub cut_on : (row : List Step3) (n : ℕ) (d : Step3) → n < length row → is_last (get_or row n d) ≡ false →
    blocks_onto (take n row) (drop n row) ≡ blocks_onto (take (n + 1) row) (drop (n + 1) row)
cut_on row n d = cut_next row n d false

-- a step that ends a block is the last one of the open block
pub cut_here : (row : List Step3) (n : ℕ) (d : Step3) → n < length row → is_last (get_or row n d) ≡ true →
    blocks_onto (take n row) (drop n row) ≡ take (n + 1) row ∷ blocks_onto [] (drop (n + 1) row)
cut_here row n d = cut_next row n d true

-- so is the last step of the row
pub cut_end : (row : List Step3) (n : ℕ) (d : Step3) → n < length row → length row ≤ n + 1 →
    blocks_onto (take n row) (drop n row) ≡ take (n + 1) row ∷ blocks_onto [] (drop (n + 1) row)
cut_end row n d h e = by (is_last (get_or row n d)) refl
  where
    nothing : drop (n + 1) row ≡ []
    nothing = drop_all (n + 1) row e

    by : (b : Bool) → is_last (get_or row n d) ≡ b →
        blocks_onto (take n row) (drop n row) ≡ take (n + 1) row ∷ blocks_onto [] (drop (n + 1) row)
    by true is = cut_here row n d h is
    by false is =
        cut_on row n d h is
        ∙ ap (blocks_onto (take (n + 1) row)) nothing
        ∙ ap (λ o. blocks_onto o []) (take_more row n d h)
        ∙ onto_end (take n row) (get_or row n d)
        ∙ ap (λ o. o ∷ []) (sym (take_more row n d h))
        ∙ ap (λ l. take (n + 1) row ∷ blocks_onto [] l) (sym nothing)

-- cutting a row into blocks loses no step
pub steps_onto : (o is : List Step3) → flat_map (λ b. b) (blocks_onto o is) ≡ o ++ is
steps_onto [] [] = refl
steps_onto (x ∷ o) [] = refl
steps_onto o (i ∷ is) = by (is_last i) (steps_onto [] is) (steps_onto (o ++ i ∷ []) is)
  where
    by : (b : Bool) → flat_map (λ b. b) (blocks_onto [] is) ≡ is → flat_map (λ b. b) (blocks_onto (o ++ i ∷ []) is)
        ≡ (o ++ i ∷ []) ++ is → flat_map (λ b. b) (after_step (o ++ i ∷ []) is b)
        ≡ o ++ i ∷ is
    by true p q = ap (λ l. (o ++ i ∷ []) ++ l) p ∙ append_assoc o (i ∷ []) is
    by false p q = q ∙ append_assoc o (i ∷ []) is

-- what holds of all steps of all blocks holds of all their steps in sequence
all_of_blocks : (P : Step3 → Type 0) (bs : Blocks) → All (All P) bs → All P (flat_map (λ b. b) bs)
all_of_blocks P [] h = All-nil P
all_of_blocks P (b ∷ bs) h =
    All-append P b (flat_map (λ b. b) bs) (All-head (All P) b bs h)
    (all_of_blocks P bs (All-tail (All P) b bs h))

-- what holds of all steps of all blocks holds of all steps of the row
pub all_of_row : (P : Step3 → Type 0) (is : List Step3) → All (All P) (blocks_onto [] is) → All P is
all_of_row P is h = subst (All P) (steps_onto [] is) (all_of_blocks P (blocks_onto [] is) h)
