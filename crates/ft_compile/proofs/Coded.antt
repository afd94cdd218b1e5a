-- The instructions of each block, with its substitutions in place.
use Rattle.std.proofs.Common.{◌≡◌, ℕ, zero, suc, ◌+◌, ◌-◌, List, [], ◌∷◌, ◌++◌, length, Some, refl, sym, ap, ◌∙◌, subst}
use Rattle.std.proofs.Common.{arith, slice_get, take, drop, map, append_assoc, length-append}
use Rattle.std.specs.Prelude.{slice_range}
use Rattle.std.specs.Option.{unwrap_or}
use Rattle.std.proofs.lemmas.List.{append-nil}
use Rattle.std.proofs.Math.Seq.{drop-append_seam, take-append_seam}
use Rattle.ft_isa.specs.declared.instr.Subst.{Subst}
use Rattle.ft_isa.specs.declared.instr.Instr.{Instr}
use Rattle.ft_lower.specs.declared.step3.Step3.{Step3}
use Rattle.ft_lower.specs.declared.step3.Step3.TheVariants.{Put, Copy, Op, Load, Store, LoadAt, StoreAt, Exit, Go, Stop}
use Rattle.ft_lower.specs.Flow.{Blocks}
use Rattle.ft_lower.specs.Size.{size, row_size, blocks_size}
use Rattle.ft_dup.specs.Images.{image, row_images, blocks_images, starts_from}
use Rattle.ft_compile.specs.Noted.{Noted, jump_subst, step_noted, row_noted, begun, scope_of_block, blocks_noted}
use Rattle.ft_compile.specs.Emitted.{with_subst, placed}
use Rattle.ft_compile.proofs.Walked.{block_noted}

-- an instruction with this substitution, if it takes one
abbrev pub with_this : Subst → Instr → Instr
with_this u i = with_subst i (u ∷ [])

-- the instructions of a step, with this substitution in place
abbrev pub coded_step : (ℕ → ℕ) → Subst → Step3 → List Instr
coded_step start u i = map (with_this u) (image start i)

module _ (vars : ℕ) (start : ℕ → ℕ) where
  -- the substitution that a step adds
  abbrev pub step_added : Noted → Step3 → List Subst
  step_added w (Put p v) = []
  step_added w (Copy p q) = []
  step_added w (Op o p q r) = []
  step_added w (Load p c) = []
  step_added w (Store c q spare) = []
  step_added w (LoadAt p q begin many) = []
  step_added w (StoreAt begin many i q spare) = []
  step_added w (Exit q spare to) = jump_subst vars w ∷ []
  step_added w (Go spare to) = jump_subst vars w ∷ []
  step_added w Stop = []

  -- the instructions of a row, with its substitutions in place
  abbrev pub row_coded : ℕ → Noted → List Step3 → List Instr
  row_coded scope w [] = []
  row_coded scope w (i ∷ is) = coded_step start (jump_subst vars w) i ++ row_coded scope (step_noted vars scope w i) is

  -- the substitutions that a row adds
  abbrev pub row_added : ℕ → Noted → List Step3 → List Subst
  row_added scope w [] = []
  row_added scope w (i ∷ is) = step_added w i ++ row_added scope (step_noted vars scope w i) is

  -- the instructions of each block, with its substitutions in place
  abbrev pub rows_coded : ℕ → Noted → Blocks → List (List Instr)
  rows_coded b w [] = []
  rows_coded b w (x ∷ xs) = row_coded (scope_of_block vars b) (begun w) x ∷ rows_coded (suc b) (block_noted vars b w x)
      xs

  -- the substitutions that blocks add
  abbrev pub blocks_added : ℕ → Noted → Blocks → List Subst
  blocks_added b w [] = []
  blocks_added b w (x ∷ xs) = row_added (scope_of_block vars b) (begun w) x
      ++ blocks_added (suc b) (block_noted vars b w x) xs

  -- these rows, concatenated
  abbrev pub joined : List (List Instr) → List Instr
  joined [] = []
  joined (x ∷ xs) = x ++ joined xs

  -- ADDED SUBSTITUTIONS

  -- a step appends its substitution to the notes
  added_step : (scope : ℕ) (w : Noted) (i : Step3) → (step_noted vars scope w i).substs ≡ w.substs ++ step_added w i
  added_step scope w (Put p v) = sym (append-nil w.substs)
  added_step scope w (Copy p q) = sym (append-nil w.substs)
  added_step scope w (Op o p q r) = sym (append-nil w.substs)
  added_step scope w (Load p c) = sym (append-nil w.substs)
  added_step scope w (Store c q spare) = sym (append-nil w.substs)
  added_step scope w (LoadAt p q begin many) = sym (append-nil w.substs)
  added_step scope w (StoreAt begin many i q spare) = sym (append-nil w.substs)
  added_step scope w (Exit q spare to) = refl
  added_step scope w (Go spare to) = refl
  added_step scope w Stop = sym (append-nil w.substs)

  -- a row appends the substitutions of its steps to the notes
  added_row : (scope : ℕ) (w : Noted) (is : List Step3) → (row_noted vars scope w is).substs ≡ w.substs
      ++ row_added scope w is
  added_row scope w [] = sym (append-nil w.substs)
  added_row scope w (i ∷ is) =
      let v = step_noted vars scope w i in
      added_row scope v is ∙ ap (λ l. l ++ row_added scope v is) (added_step scope w i)
      ∙ append_assoc w.substs (step_added w i) (row_added scope v is)

  -- blocks append the substitutions of their rows to the notes
  pub added_blocks : (b : ℕ) (w : Noted) (xs : Blocks) → (blocks_noted vars b w xs).substs ≡ w.substs
      ++ blocks_added b w xs
  added_blocks b w [] = sym (append-nil w.substs)
  added_blocks b w (x ∷ xs) =
      let v = block_noted vars b w x in
      let a = row_added (scope_of_block vars b) (begun w) x in
      added_blocks (suc b) v xs ∙ ap (λ l. l ++ blocks_added (suc b) v xs)
      (added_row (scope_of_block vars b) (begun w) x) ∙ append_assoc w.substs a (blocks_added (suc b) v xs)

  -- PLACED SUBSTITUTIONS

  -- a step's substitution is placed in the step's instructions
  placed_step : (w : Noted) (i : Step3) (us : List Subst) (more : List Instr) →
      placed (step_added w i ++ us) (image start i ++ more) ≡ coded_step start (jump_subst vars w) i ++ placed us more
  placed_step w (Put p v) us more = refl
  placed_step w (Copy p q) us more = refl
  placed_step w (Op o p q r) us more = refl
  placed_step w (Load p c) us more = refl
  placed_step w (Store c q spare) us more = refl
  placed_step w (LoadAt p q begin many) us more = refl
  placed_step w (StoreAt begin many i q spare) us more = refl
  placed_step w (Exit q spare to) us more = refl
  placed_step w (Go spare to) us more = refl
  placed_step w Stop us more = refl

  -- a row's substitutions are placed in the row's instructions
  placed_row : (scope : ℕ) (w : Noted) (is : List Step3) (us : List Subst) (more : List Instr) →
      placed (row_added scope w is ++ us) (row_images start is ++ more) ≡ row_coded scope w is ++ placed us more
  placed_row scope w [] us more = refl
  placed_row scope w (i ∷ is) us more =
      let v = step_noted vars scope w i in
      ap (λ l. placed l ((image start i ++ row_images start is) ++ more))
      (append_assoc (step_added w i) (row_added scope v is) us)
      ∙ ap (placed (step_added w i ++ (row_added scope v is ++ us)))
      (append_assoc (image start i) (row_images start is) more)
      ∙ placed_step w i (row_added scope v is ++ us) (row_images start is ++ more)
      ∙ ap (λ l. coded_step start (jump_subst vars w) i ++ l) (placed_row scope v is us more)
      ∙ sym (append_assoc (coded_step start (jump_subst vars w) i) (row_coded scope v is) (placed us more))

  -- so the substitutions of all blocks are placed in the instructions to which they belong
  pub placed_blocks : (b : ℕ) (w : Noted) (xs : Blocks) → placed (blocks_added b w xs) (blocks_images start xs)
      ≡ joined (rows_coded b w xs)
  placed_blocks b w [] = refl
  placed_blocks b w (x ∷ xs) =
      let v = block_noted vars b w x in
      placed_row (scope_of_block vars b) (begun w) x (blocks_added (suc b) v xs) (blocks_images start xs)
      ∙ ap (λ l. row_coded (scope_of_block vars b) (begun w) x ++ l) (placed_blocks (suc b) v xs)

  -- LENGTHS

  -- a step, with its substitution in place, has as many instructions as its size says
  step_length : (u : Subst) (i : Step3) → length (coded_step start u i) ≡ size i
  step_length u (Put p v) = refl
  step_length u (Copy p q) = refl
  step_length u (Op o p q r) = refl
  step_length u (Load p c) = refl
  step_length u (Store c q spare) = refl
  step_length u (LoadAt p q begin many) = refl
  step_length u (StoreAt begin many i q spare) = refl
  step_length u (Exit q spare to) = refl
  step_length u (Go spare to) = refl
  step_length u Stop = refl

  -- a row, with its substitutions in place, has as many instructions as its size says
  row_length : (scope : ℕ) (w : Noted) (is : List Step3) → length (row_coded scope w is) ≡ row_size is
  row_length scope w [] = refl
  row_length scope w (i ∷ is) =
      let v = step_noted vars scope w i in
      length-append (coded_step start (jump_subst vars w) i) (row_coded scope v is)
      ∙ ap (λ n. n + length (row_coded scope v is)) (step_length (jump_subst vars w) i)
      ∙ ap (λ n. size i + n) (row_length scope v is)

  -- all blocks, with their substitutions in place, have as many instructions as their sizes say
  pub joined_length : (b : ℕ) (w : Noted) (xs : Blocks) → length (joined (rows_coded b w xs)) ≡ blocks_size xs
  joined_length b w [] = refl
  joined_length b w (x ∷ xs) =
      let v = block_noted vars b w x in
      let r = row_coded (scope_of_block vars b) (begun w) x in
      length-append r (joined (rows_coded (suc b) v xs))
      ∙ ap (λ n. n + length (joined (rows_coded (suc b) v xs))) (row_length (scope_of_block vars b) (begun w) x)
      ∙ ap (λ n. row_size x + n) (joined_length (suc b) v xs)

  -- where the rows begin if the first begins at n
  abbrev pub offsets : ℕ → List (List Instr) → List ℕ
  offsets n [] = []
  offsets n (r ∷ rs) = n ∷ offsets (n + length r) rs

  -- the rows begin where the blocks do
  pub offsets_are_starts : (n b : ℕ) (w : Noted) (xs : Blocks) → offsets n (rows_coded b w xs) ≡ starts_from n xs
  offsets_are_starts n b w [] = refl
  offsets_are_starts n b w (x ∷ xs) =
      let v = block_noted vars b w x in
      ap (λ m. n ∷ offsets (n + m) (rows_coded (suc b) v xs)) (row_length (scope_of_block vars b) (begun w) x)
      ∙ ap (λ l. n ∷ l) (offsets_are_starts (n + row_size x) (suc b) v xs)

  -- THE PLACE OF EACH BLOCK

  -- where row b ends: where the next one begins, or after all rows
  abbrev row_end : ℕ → List (List Instr) → ℕ → ℕ → ℕ
  row_end n rs b whole = unwrap_or (slice_get (offsets n rs) (suc b)) whole

  -- where row b begins
  abbrev row_start : ℕ → List (List Instr) → ℕ → ℕ
  row_start n rs b = unwrap_or (slice_get (offsets n rs) b) 0

  -- the slice that begins where a row begins and is as long as the row is the row itself
  cut_first : (front r rest : List Instr) (n e : ℕ) → n ≡ length front → e ≡ n + length r →
      slice_range (front ++ (r ++ rest)) n e ≡ r
  cut_first front r rest n e p q =
      let z : e - n ≡ length r = omega arith in
      ap (λ k. take k (drop n (front ++ (r ++ rest)))) z
      ∙ ap (λ k. take (length r) (drop k (front ++ (r ++ rest)))) p
      ∙ ap (take (length r)) (drop-append_seam front (r ++ rest))
      ∙ take-append_seam r rest

  -- row b is the slice from its place to that of the next row, even if other instructions come before all rows
  cut_from : (front : List Instr) (rs : List (List Instr)) (n b whole : ℕ) (r : List Instr) → n ≡ length front → whole
      ≡ length (front ++ joined rs) → slice_get rs b ≡ Some r →
      slice_range (front ++ joined rs) (row_start n rs b) (row_end n rs b whole) ≡ r
  cut_from front [] n b whole r p q e = cc
  cut_from front (x ∷ []) n zero whole r p q e =
      let f : x ≡ r = cc in
      let l = length-append front (x ++ []) in
      let m = ap length (append-nil x) in
      cut_first front x [] n whole p (omega arith) ∙ f
  cut_from front (x ∷ (y ∷ ys)) n zero whole r p q e =
      let f : x ≡ r = cc in
      cut_first front x (y ++ joined ys) n (n + length x) p refl ∙ f
  cut_from front (x ∷ xs) n (suc b) whole r p q e =
      let a = append_assoc front x (joined xs) in
      let l = length-append front x in
      subst (λ t. slice_range t (row_start (n + length x) xs b) (row_end (n + length x) xs b whole) ≡ r) a
      (cut_from (front ++ x) xs (n + length x) b whole r (omega arith) (q ∙ ap length (sym a)) e)

  -- row b is the slice from its place to that of the next row
  pub cut_out : (rs : List (List Instr)) (b : ℕ) (r : List Instr) → slice_get rs b ≡ Some r →
      slice_range (joined rs) (unwrap_or (slice_get (offsets 0 rs) b) 0)
      (unwrap_or (slice_get (offsets 0 rs) (suc b)) (length (joined rs))) ≡ r
  cut_out rs b r e = cut_from [] rs 0 b (length (joined rs)) r refl refl e
