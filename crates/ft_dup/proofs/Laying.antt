-- Where the instructions of a step are.
use Rattle.std.proofs.Common.{◌≡◌, ℕ, zero, suc, ◌+◌, ◌<◌, ◌≤◌, List, [], ◌∷◌, ◌++◌, length, map}
use Rattle.std.proofs.Common.{Some, refl, sym, ap}
use Rattle.std.proofs.Common.{◌∙◌, subst, arith, append_assoc, length-append}
use Rattle.std.specs.List.{flat_map}
use Rattle.std.proofs.Math.Seq.{get_or-append_seam}
use Rattle.std.proofs.lemmas.Option.{slice_get-get_or}
use Rattle.std.proofs.lemmas.List.{length-map}
use Rattle.ft_isa.specs.declared.instr.Instr.{Instr}
use Rattle.ft_lower.specs.declared.step3.Step3.{Step3}
use Rattle.ft_lower.specs.declared.step3.Step3.TheVariants.{Put, Copy, Op, Load, Store, LoadAt, StoreAt, Exit, Go, Stop}
use Rattle.ft_lower.specs.Flow.{Blocks, block_of}
use Rattle.ft_lower.specs.Size.{size, row_size, blocks_size}
use Rattle.ft_lower.specs.Cutting.{blocks_onto}
use Rattle.ft_lower.proofs.Cuts.{steps_onto}
use Rattle.ft_dup.specs.Images.{image, row_images, blocks_images, start_of, doubled}
use Rattle.ft_dup.specs.Doubles.{bare}
use Rattle.ft_dup.proofs.FlowSteps.{HasInstrs}

-- the image of two rows in sequence is that of the first, followed by that of the second
row_images-append : (start : ℕ → ℕ) (a b : List Step3) → row_images start (a ++ b) ≡ row_images start a
    ++ row_images start b
row_images-append start [] b = refl
row_images-append start (i ∷ a) b = ap (λ l. image start i ++ l) (row_images-append start a b)
    ∙ sym (append_assoc (image start i) (row_images start a) (row_images start b))

-- the images of blocks are those of their steps in sequence
images_of_blocks : (start : ℕ → ℕ) (bs : Blocks) → blocks_images start bs ≡ row_images start (flat_map (λ b. b) bs)
images_of_blocks start [] = refl
images_of_blocks start (b ∷ bs) = ap (λ l. row_images start b ++ l) (images_of_blocks start bs)
    ∙ sym (row_images-append start b (flat_map (λ b. b) bs))

-- cutting into blocks changes no image
pub images_onto : (start : ℕ → ℕ) (is : List Step3) → blocks_images start (blocks_onto [] is) ≡ row_images start is
images_onto start is = images_of_blocks start (blocks_onto [] is) ∙ ap (row_images start) (steps_onto [] is)

-- HOW MANY INSTRUCTIONS

-- the length of an image is the size of its step
image_length : (start : ℕ → ℕ) (i : Step3) → length (image start i) ≡ size i
image_length start (Put p w) = refl
image_length start (Copy p q) = refl
image_length start (Op o p q s) = refl
image_length start (Load p c) = refl
image_length start (Store c q s) = refl
image_length start (LoadAt p q first m) = refl
image_length start (StoreAt first m i q s) = refl
image_length start (Exit q s to) = refl
image_length start (Go s to) = refl
image_length start Stop = refl

-- the length of a row's images is the size of the row
row_length : (start : ℕ → ℕ) (is : List Step3) → length (row_images start is) ≡ row_size is
row_length start [] = refl
row_length start (i ∷ is) = length-append (image start i) (row_images start is)
    ∙ omega (arith, image_length start i, row_length start is)

-- the length of the blocks' images is the size of the blocks
pub blocks_length : (start : ℕ → ℕ) (bs : Blocks) → length (blocks_images start bs) ≡ blocks_size bs
blocks_length start [] = refl
blocks_length start (b ∷ bs) = length-append (row_images start b) (blocks_images start bs)
    ∙ omega (arith, row_length start b, blocks_length start bs)

-- THE INSTRUCTIONS OF A STEP

-- the image of a step, and how many instructions come before it
record Among (start : ℕ → ℕ) (bs : Blocks) (b : ℕ) (front : List Step3) (s : Step3) : Type 0 where
  before : List Instr
  behind : List Instr
  is : blocks_images start bs ≡ before ++ (image start s ++ behind)
  long : length before ≡ start_of bs b + row_size front

-- each step of a block has its image among those of all blocks
among : (start : ℕ → ℕ) (bs : Blocks) (b : ℕ) (front rest : List Step3) (s : Step3) → b < length bs → block_of bs b
    ≡ front ++ s ∷ rest → Among start bs b front s
among start [] b front rest s h e = absurd (omega arith)
among start (x ∷ bs) zero front rest s h e =
    let post = blocks_images start bs in
    let pre = row_images start front in
    let mid = image start s in
    let end = row_images start rest in
    record {
      before = pre;
      behind = end ++ post;
      is =
          ap (λ l. row_images start l ++ post) e
          ∙ ap (λ l. l ++ post) (row_images-append start front (s ∷ rest))
          ∙ append_assoc pre (mid ++ end) post
          ∙ ap (λ l. pre ++ l) (append_assoc mid end post);
      long = row_length start front ∙ omega arith;
    }
among start (x ∷ bs) (suc b) front rest s h e =
    let A = among start bs b front rest s (omega arith) e in
    let row = row_images start x in
    record {
      before = row ++ A.before;
      behind = A.behind;
      is = ap (λ l. row ++ l) A.is ∙ sym (append_assoc row A.before (image start s ++ A.behind));
      long = length-append row A.before ∙ omega (arith, row_length start x, A.long);
    }

-- removing claims and substitutions from two lists in sequence removes them from each
map_append : (a b : List Instr) → map bare (a ++ b) ≡ map bare a ++ map bare b
map_append [] b = refl
map_append (x ∷ a) b = ap (λ l. bare x ∷ l) (map_append a b)

-- the instructions of a list are in the code from where the list before them ends
has_here : (js : List Instr) (A C : List Instr) → HasInstrs (A ++ (map bare js ++ C)) (length A) js
has_here [] A C = tt
has_here (J ∷ js) A C =
    let all = A ++ bare J ∷ (map bare js ++ C) in
    let within : length A < length all = omega (arith, length-append A (bare J ∷ (map bare js ++ C))) in
    let n : length (A ++ bare J ∷ []) ≡ suc (length A) = omega (arith, length-append A (bare J ∷ [])) in
    let rest = subst (λ l. HasInstrs l (length (A ++ bare J ∷ [])) js) (append_assoc A (bare J ∷ []) (map bare js ++ C))
    (has_here js (A ++ bare J ∷ []) C) in (
      slice_get-get_or all (length A) (bare J) within
          ∙ ap Some (get_or-append_seam A (bare J) (map bare js ++ C) (bare J)),
      subst (λ m. HasInstrs all m js) n rest,
    )

-- the image of a step is in the code, and ends within it
pub record Laid (code : List Instr) (i : ℕ) (start : ℕ → ℕ) (s : Step3) : Type 0 where
  pub has : HasInstrs code i (image start s)
  pub short : i + size s ≤ length code

-- each step of a block is laid where the steps before it end
pub laid : (bs : Blocks) (code : List Instr) (b : ℕ) (front rest : List Step3) (s : Step3) → code
    ≡ map bare (doubled bs) → b < length bs → block_of bs b ≡ front ++ s ∷ rest →
    Laid code (start_of bs b + row_size front) (start_of bs) s
laid bs code b front rest s c h e =
    let start = start_of bs in
    let A = among start bs b front rest s h e in
    let two = ap (map bare) A.is ∙ map_append A.before (image start s ++ A.behind)
    ∙ ap (λ l. map bare A.before ++ l) (map_append (image start s) A.behind) in
    let n : length (map bare A.before) ≡ start_of bs b + row_size front = length-map A.before bare ∙ A.long in
    let m : length code ≡ length A.before + (length (image start s) + length A.behind) = ap length c
    ∙ length-map (doubled bs) bare ∙ ap length A.is ∙ length-append A.before (image start s ++ A.behind)
    ∙ ap (λ x. length A.before + x) (length-append (image start s) A.behind) in
    record {
      has = subst (λ i. HasInstrs code i (image start s)) n
          (subst (λ l. HasInstrs l (length (map bare A.before)) (image start s)) (sym (c ∙ two))
          (has_here (image start s) (map bare A.before) (map bare A.behind)));
      short = omega (arith, image_length start s, A.long);
    }
