-- The walk that traces code addresses passes each block of an object of well-formed blocks, so the object is a module.
use Rattle.std.proofs.Common.{◌≡◌, ◌≢◌, ℕ, zero, suc, ◌<◌, ◌≤◌, Bool, true, false, cond, not, ◌==◌, List, [], ◌∷◌, ◌++◌}
use Rattle.std.proofs.Common.{length, ◌⊎◌, inl, inr, Option, Some, None, is_some, refl, sym, ap, ◌∙◌, subst, arith}
use Rattle.std.proofs.Common.{slice_get, map}
use Rattle.std.specs.Prelude.{All}
use Rattle.std.specs.List.{range_with_len, zip}
use Rattle.std.specs.FinMap as finite
use Rattle.std.specs.Ordering.{nat_cmp}
use Rattle.std.proofs.lemmas.Bool.{and_from, cases_eq, eq-eqb, ltb-true, ne_eqb}
use Rattle.std.proofs.lemmas.List.Elements.{All-nil, All-cons}
use Rattle.ft_isa.specs.declared.instr.Instr.{Instr}
use Rattle.ft_isa.specs.declared.instr.Subst.{Subst}
use Rattle.ft_types.specs.declared.object.Object.{Object}
use Rattle.ft_types.specs.declared.object.RegType.{RegType}
use Rattle.ft_types.specs.Objects.{reg_rows, block_instrs}
use Rattle.ft_modules.specs.CodeWalk.{Entered, entered_with, entered_after, is_free, is_free_target, is_traced}
use Rattle.ft_modules.specs.CodeWalk.{are_free, code_walk}
use Rattle.ft_modules.specs.Linkable.{HasPlainCell, HasPlainRow, HasPlainRows, IsModule}
use Rattle.ft_modules.proofs.LinkedContexts.{entered_get}
use Rattle.ft_modules.proofs.ExchangedWalk.{walk_on, modules_exchanged}
use Rattle.ft_exchange.specs.Scheduled.{ComesFrom}
use Rattle.ft_scope.specs.Outcome.{IsProgramOf}
use Rattle.ft_scope.specs.Resolved.{Program}
use Rattle.ft_lower.specs.declared.step3.Step3.{Step3}
use Rattle.ft_lower.specs.declared.step3.Step3.TheVariants.{Put, Copy, Op, Load, Store, LoadAt, StoreAt, Exit, Go, Stop}
use Rattle.ft_lower.specs.Flow.{Blocks}
use Rattle.ft_lower.specs.Size.{pairs_of}
use Rattle.ft_lower.specs.Well.{Known, learn, forget, known_after, known_first, KeepsVariables, ReadsKnown, RowIsWell}
use Rattle.ft_lower.specs.Well.{IsWell}
use Rattle.ft_dup.specs.Images.{green, blue, loads, stores, start_of}
use Rattle.ft_dup.proofs.Pairs.{learned, forgotten, greens_differ, blues_differ}
use Rattle.ft_compile.specs.Cells.{AreCells}
use Rattle.ft_compile.specs.Emitted.{green_row, blue_row}
use Rattle.ft_compile.specs.Noted.{Noted, jump_subst, step_noted, begun, scope_of_block}
use Rattle.ft_compile.specs.Emitted.{entry_type, variables_type, cell_from, at_first, emitted, IsEmitted}
use Rattle.ft_compile.proofs.Walked.{block_noted, RowsAreFine, well_rows}
use Rattle.ft_compile.proofs.Coded.{coded_step, row_coded, rows_coded}
use Rattle.ft_compile.proofs.KnownPairs.{green_is_not_blue, blue_is_not_green}
use Rattle.ft_compile.proofs.BlockTypes.{AreRows, type_rows}
use Rattle.ft_compile.proofs.Objects.{emission, row_of_block, block_is_row, block_count}
use Rattle.ft_compile.proofs.Names.{program_cells}

-- ENTERED REGISTERS

-- no register of a known pair is entered
pub record AreUnentered (k : Known) (e : Entered) : Type 0 where
  pub below : (q : ℕ) → k q ≡ true → q < 32
  pub green_out : (q : ℕ) → k q ≡ true → finite.get e (green q).number ≡ None
  pub blue_out : (q : ℕ) → k q ≡ true → finite.get e (blue q).number ≡ None

-- a register that is not entered is still not entered after one is removed
out_stays : (e : Entered) (r q : ℕ) → finite.get e q ≡ None → finite.get (entered_with r None e) q ≡ None
out_stays e r q h = entered_get e r None q ∙ either (q == r) (finite.get e q) h
  where
    either : (b : Bool) (u : Option ℕ) → u ≡ None → cond b None u ≡ None
    either true u g = refl
    either false u g = g

-- after a register is entered or removed, it has the new entry or none, respectively
taken_out : (e : Entered) (r : ℕ) (v : Option ℕ) → finite.get (entered_with r v e) r ≡ v
taken_out e r v = entered_get e r v r ∙ ap (λ b. cond b v (finite.get e r)) (eq-eqb r r refl)

-- entering or removing a register leaves any other register unchanged
other_stays : (e : Entered) (r q : ℕ) (v : Option ℕ) → q ≢ r → finite.get (entered_with r v e) q ≡ finite.get e q
other_stays e r q v ne = entered_get e r v q ∙ ap (λ b. cond b v (finite.get e q)) (ne_eqb q r ne)

-- a register that is not entered is free
free_of : (e : Entered) (r : ℕ) → finite.get e r ≡ None → not (is_some (finite.get e r)) ≡ true
free_of e r h = ap (λ u. not (is_some u)) h

-- enters or removes both registers of a pair
abbrev two : ℕ → Option ℕ → Entered → Entered
two p v e = entered_with (blue p).number v (entered_with (green p).number v e)

-- the known pairs are unentered after one more pair gets an integer and becomes known
unentered_learn : (k : Known) (e : Entered) (p : ℕ) → p < 32 → AreUnentered k e →
    AreUnentered (learn p k) (two p None e)
unentered_learn k e p lt h = record {
  below = λ q known. elim (cases_eq q p) [
    | inl f ↦ subst (λ n. n < 32) (sym f) lt
    | inr ne ↦ h.below q (learned k p q ne known)
  ];
  green_out = λ q known. elim (cases_eq q p) [
    | inl f ↦ out_stays (entered_with (green p).number None e) (blue p).number (green q).number
        (subst (λ n. finite.get (entered_with (green p).number None e) (green n).number
        ≡ None) (sym f) (taken_out e (green p).number None))
    | inr ne ↦ out_stays (entered_with (green p).number None e) (blue p).number (green q).number
        (out_stays e (green p).number (green q).number (h.green_out q (learned k p q ne known)))
  ];
  blue_out = λ q known. elim (cases_eq q p) [
    | inl f ↦ subst (λ n. finite.get (two p None e) (blue n).number
        ≡ None) (sym f) (taken_out (entered_with (green p).number None e) (blue p).number None)
    | inr ne ↦ out_stays (entered_with (green p).number None e) (blue p).number (blue q).number
        (out_stays e (green p).number (blue q).number (h.blue_out q (learned k p q ne known)))
  ];
}

-- known pairs stay unentered when both registers of a pair are removed
unentered_again : (k : Known) (e : Entered) (p : ℕ) → AreUnentered k e → AreUnentered k (two p None e)
unentered_again k e p h = record {
  below = h.below;
  green_out = λ q known. out_stays (entered_with (green p).number None e) (blue p).number (green q).number
      (out_stays e (green p).number (green q).number (h.green_out q known));
  blue_out = λ q known. out_stays (entered_with (green p).number None e) (blue p).number (blue q).number
      (out_stays e (green p).number (blue q).number (h.blue_out q known));
}

-- the other known pairs stay unentered, whatever a pair gets
unentered_forget : (k : Known) (e : Entered) (p : ℕ) (v : Option ℕ) → p < 32 → AreUnentered k e →
    AreUnentered (forget p k) (two p v e)
unentered_forget k e p v lt h = record {
  below = λ q known. h.below q (forgotten k p q known).1;
  green_out = λ q known.
      let u = forgotten k p q known in
      let l = h.below q u.1 in
      other_stays (entered_with (green p).number v e) (blue p).number (green q).number v (green_is_not_blue p q lt l)
      ∙ other_stays e (green p).number (green q).number v (greens_differ p q lt l u.0) ∙ h.green_out q u.1;
  blue_out = λ q known.
      let u = forgotten k p q known in
      let l = h.below q u.1 in
      other_stays (entered_with (green p).number v e) (blue p).number (blue q).number v (blues_differ p q lt l u.0)
      ∙ other_stays e (green p).number (blue q).number v (blue_is_not_green p q lt l) ∙ h.blue_out q u.1;
}

-- a known pair stays known when another one is forgotten
still_known : (k : Known) (p q : ℕ) → q ≢ p → k q ≡ true → forget p k q ≡ true
still_known k p q ne h = ap (λ b. cond b false (k q)) (ne_eqb q p ne) ∙ h

-- after both registers of a pair are entered or removed, the green one has the new entry or none, respectively
entered_green : (e : Entered) (p : ℕ) (v : Option ℕ) → p < 32 → finite.get (two p v e) (green p).number ≡ v
entered_green e p v lt = other_stays (entered_with (green p).number v e) (blue p).number (green p).number v
    (green_is_not_blue p p lt lt) ∙ taken_out e (green p).number v

-- likewise for the blue one
entered_blue : (e : Entered) (p : ℕ) (v : Option ℕ) → finite.get (two p v e) (blue p).number ≡ v
entered_blue e p v = taken_out (entered_with (green p).number v e) (blue p).number v

-- TARGETS

-- the registers of variables are free if the variables' pairs are known and unentered
rows_free : (vars : ℕ) (k : Known) (e : Entered) (xs : List RegType) → AreUnentered k e →
    ((x : ℕ) → x < vars → k x ≡ true) → AreRows vars xs → are_free e xs ≡ true
rows_free vars k e [] h known r = refl
rows_free vars k e (x ∷ xs) h known r = and_from (is_free e x.reg) (are_free e xs) (here r.0.2)
    (rows_free vars k e xs h known r.1)
  where
    here : (x ≡ green_row r.0.0) ⊎ (x ≡ blue_row r.0.0) → is_free e x.reg ≡ true
    here (inl f) = subst (λ (z : RegType). is_free e z.reg
        ≡ true) (sym f) (free_of e (green r.0.0).number (h.green_out r.0.0 (known r.0.0 r.0.1)))
    here (inr f) = subst (λ (z : RegType). is_free e z.reg
        ≡ true) (sym f) (free_of e (blue r.0.0).number (h.blue_out r.0.0 (known r.0.0 r.0.1)))

module _ (o : Object) (vars : ℕ) (rows_are : reg_rows o 1 ≡ map green_row (range_with_len 0 vars)
    ++ map blue_row (range_with_len 0 vars)) (start : ℕ → ℕ) where
  -- the code type of a jump's blue target has no row for an entered register
  target_free : (k : Known) (e : Entered) (spare : ℕ) → AreUnentered (forget spare k) (two spare (Some 1) e) →
      KeepsVariables vars k spare → is_free_target o (two spare (Some 1) e)
      (finite.get (two spare (Some 1) e) (blue spare).number) ≡ true
  target_free k e spare h keeps =
      let known : (x : ℕ) → x < vars → forget spare k x ≡ true = λ x lt.
      still_known k spare x (λ f. let n = keeps.free in omega arith) (keeps.known x lt) in
      ap (is_free_target o (two spare (Some 1) e)) (entered_blue e spare (Some 1))
      ∙ ap (are_free (two spare (Some 1) e)) rows_are
      ∙ rows_free vars (forget spare k) (two spare (Some 1) e) (map green_row (range_with_len 0 vars)
      ++ map blue_row (range_with_len 0 vars)) h known (type_rows vars)

  -- STEPS

  -- the walk passes these instructions wherever no known pair is entered
  abbrev WalksOn : Known → List Instr → Type 0
  WalksOn k rest = (f : Entered) → AreUnentered k f → (m : ℕ) → code_walk o f m rest ≡ None

  -- the walk passes two instructions
  walk_two : (e : Entered) (n : ℕ) (i j : Instr) (rest : List Instr) → is_traced o e i ≡ true →
      is_traced o (entered_after i e) j ≡ true → code_walk o (entered_after j (entered_after i e)) (suc (suc n)) rest
      ≡ None → code_walk o e n (i ∷ j ∷ rest) ≡ None
  walk_two e n i j rest a b h = walk_on o e n i (j ∷ rest) a (walk_on o (entered_after i e) (suc n) j rest b h)

  -- the walk passes loads from the addresses in both registers of a pair
  loads_walk : (k : Known) (p : ℕ) (rest : List Instr) → WalksOn k rest → (e : Entered) → AreUnentered k e →
      finite.get e (green p).number ≡ None → finite.get e (blue p).number ≡ None → (n : ℕ) →
      code_walk o e n (loads p ++ rest) ≡ None
  loads_walk k p rest next e h g b n =
      walk_two e n _ _ rest (free_of e (green p).number g)
      (free_of (entered_with (green p).number None e) (blue p).number
      (out_stays e (green p).number (blue p).number b))
      (next (two p None e) (unentered_again k e p h) (suc (suc n)))

  -- the walk passes stores to the addresses in both registers of a pair
  stores_walk : (k : Known) (p q : ℕ) (rest : List Instr) → k q ≡ true → WalksOn k rest → (e : Entered) →
      AreUnentered k e → finite.get e (green p).number ≡ None → finite.get e (blue p).number ≡ None → (n : ℕ) →
      code_walk o e n (stores p q ++ rest) ≡ None
  stores_walk k p q rest known next e h g b n =
      walk_two e n _ _ rest (and_from _ _ (free_of e (green p).number g)
      (free_of e (green q).number (h.green_out q known)))
      (and_from _ _ (free_of e (blue p).number b) (free_of e (blue q).number (h.blue_out q known)))
      (next e h (suc (suc n)))

  -- the walk passes the instructions of a step
  step_walks : (k : Known) (u : Subst) (i : Step3) (rest : List Instr) → All (λ p. p < 32) (pairs_of i) →
      ReadsKnown vars k i → WalksOn (known_after i k) rest → WalksOn k (coded_step start u i ++ rest)
  step_walks k u (Put p w) rest ps reads next e h n =
      walk_two e n _ _ rest refl refl (next (two p None e) (unentered_learn k e p (ps 0 0 (omega arith)) h)
      (suc (suc n)))
  step_walks k u (Copy p q) rest ps reads next e h n =
      walk_two e n _ _ rest (free_of e (green q).number (h.green_out q reads))
      (free_of (entered_with (green p).number None e) (blue q).number
      (out_stays e (green p).number (blue q).number (h.blue_out q reads)))
      (next (two p None e) (unentered_learn k e p (ps 0 0 (omega arith)) h) (suc (suc n)))
  step_walks k u (Op op p q s) rest ps reads next e h n =
      let e1 = entered_with (green p).number None e in
      walk_two e n _ _ rest
      (and_from _ _ (free_of e (green q).number (h.green_out q reads.0))
      (free_of e (green s).number (h.green_out s reads.1)))
      (and_from _ _ (free_of e1 (blue q).number (out_stays e (green p).number (blue q).number (h.blue_out q reads.0)))
      (free_of e1 (blue s).number (out_stays e (green p).number (blue s).number (h.blue_out s reads.1))))
      (next (two p None e) (unentered_learn k e p (ps 0 0 (omega arith)) h) (suc (suc n)))
  step_walks k u (Load p c) rest ps reads next e h n =
      let lt = ps 0 0 (omega arith) in
      walk_two e n _ _ _ refl refl (loads_walk (learn p k) p rest next (two p None e) (unentered_learn k e p lt h)
      (entered_green e p None lt) (entered_blue e p None) (suc (suc n)))
  step_walks k u (Store c q spare) rest ps reads next e h n =
      let lt = ps 1 0 (omega arith) in
      walk_two e n _ _ _ refl refl (stores_walk (forget spare k) spare q rest (still_known k spare q reads.1 reads.0)
      next (two spare None e) (unentered_forget k e spare None lt h) (entered_green e spare None lt)
      (entered_blue e spare None) (suc (suc n)))
  step_walks k u (LoadAt p q begin many) rest ps reads next e h n =
      let lt = ps 0 0 (omega arith) in
      walk_two e n _ _ _ (free_of e (green q).number (h.green_out q reads))
      (free_of (entered_with (green p).number None e) (blue q).number
      (out_stays e (green p).number (blue q).number (h.blue_out q reads)))
      (loads_walk (learn p k) p rest next (two p None e) (unentered_learn k e p lt h) (entered_green e p None lt)
      (entered_blue e p None) (suc (suc n)))
  step_walks k u (StoreAt begin many i q spare) rest ps reads next e h n =
      let lt = ps 2 0 (omega arith) in
      walk_two e n _ _ _ (free_of e (green i).number (h.green_out i reads.0))
      (free_of (entered_with (green spare).number None e) (blue i).number
      (out_stays e (green spare).number (blue i).number (h.blue_out i reads.0)))
      (stores_walk (forget spare k) spare q rest (still_known k spare q reads.3 reads.1) next (two spare None e)
      (unentered_forget k e spare None lt h) (entered_green e spare None lt) (entered_blue e spare None)
      (suc (suc n)))
  step_walks k u (Exit q spare to) rest ps reads next e h n =
      let lt = ps 1 0 (omega arith) in
      let e2 = two spare (Some 1) e in
      let g = unentered_forget k e spare (Some 1) lt h in
      let known = still_known k spare q reads.1 reads.0 in
      walk_two e n _ _ _ refl refl
      (walk_two e2 (suc (suc n)) _ _ rest
      (and_from _ _ (free_of e2 (green q).number (g.green_out q known))
      (ap is_some (entered_green e spare (Some 1) lt)))
      (and_from _ _ (free_of e2 (blue q).number (g.blue_out q known)) (target_free k e spare g reads.2))
      (next e2 g (suc (suc (suc (suc n))))))
  step_walks k u (Go spare to) rest ps reads next e h n =
      let lt = ps 0 0 (omega arith) in
      let e2 = two spare (Some 1) e in
      let g = unentered_forget k e spare (Some 1) lt h in
      walk_two e n _ _ _ refl refl
      (walk_two e2 (suc (suc n)) _ _ rest (ap is_some (entered_green e spare (Some 1) lt))
      (target_free k e spare g reads) (next e2 g (suc (suc (suc (suc n))))))
  step_walks k u Stop rest ps reads next e h n = walk_on o e n _ rest refl (next e h (suc n))

  -- ROWS

  -- the walk passes the instructions of a row
  row_walks : (cells blocks scope : ℕ) (k : Known) (w : Noted) (is : List Step3) → RowIsWell vars cells blocks k is →
      All (λ i. All (λ p. p < 32) (pairs_of i)) is → WalksOn k (row_coded vars start scope w is)
  unfolding code_walk
  row_walks cells blocks scope k w [] W ps e h n = refl
  row_walks cells blocks scope k w (i ∷ is) W ps e h n =
      step_walks k (jump_subst vars w) i (row_coded vars start scope (step_noted vars scope w i) is)
      (ps 0 i (omega arith)) W.1
      (row_walks cells blocks scope (known_after i k) (step_noted vars scope w i) is W.2 (λ j d lt.
      ps (suc j) d (omega arith))) e h n

-- where a block begins, no register is entered
unentered_first : (vars b : ℕ) → vars ≤ 32 → AreUnentered (known_first vars b) finite.empty
unentered_first vars zero few = record {
  below = λ q known. absurd (no known);
  green_out = λ q known. absurd (no known);
  blue_out = λ q known. absurd (no known);
}
  where
    no : false ≡ true → ⊥
    no e = cc
unentered_first vars (suc b) few = record {
  below = λ q known. let lt : q < vars = ltb-true q vars known in omega arith;
  green_out = λ q known. finite.get-empty nat_cmp (green q).number;
  blue_out = λ q known. finite.get-empty nat_cmp (blue q).number;
}

-- TABLES

-- cells of type `int` are plain
plain_cells : (xs : List (List ℕ × ℕ)) → All HasPlainCell (map cell_from xs)
plain_cells [] = All-nil HasPlainCell
plain_cells (x ∷ xs) = All-cons HasPlainCell (cell_from x) (map cell_from xs) refl (plain_cells xs)

-- the rows of variables are plain
plain_rows : (vars : ℕ) (xs : List RegType) → AreRows vars xs → All HasPlainRow xs
plain_rows vars [] r = All-nil HasPlainRow
plain_rows vars (x ∷ xs) r = All-cons HasPlainRow x xs (here r.0.2) (plain_rows vars xs r.1)
  where
    here : (x ≡ green_row r.0.0) ⊎ (x ≡ blue_row r.0.0) → HasPlainRow x
    here (inl f) = subst HasPlainRow (sym f) refl
    here (inr f) = subst HasPlainRow (sym f) refl

-- THE OBJECT

module _ (names : List (List ℕ)) (inits : List ℕ) (vars : ℕ) (bs : Blocks) (C : AreCells names inits) (F : vars ≤ 32)
    (W : IsWell vars (length inits) bs) where
  -- the object of these blocks
  abbrev o : Object
  o = emitted names inits vars bs

  -- the walk passes the instructions of each row
  rows_walk : (b : ℕ) (w : Noted) (xs : Blocks) → RowsAreFine vars (length inits) (length bs) b xs →
      (j : ℕ) (r : List Instr) → slice_get (rows_coded vars (start_of bs) b w xs) j ≡ Some r →
      code_walk o finite.empty 0 r ≡ None
  rows_walk b w [] f j r e = cc
  rows_walk b w (x ∷ xs) f zero r e =
      let q : row_coded vars (start_of bs) (scope_of_block vars b) (begun w) x ≡ r = cc in
      subst (λ l. code_walk o finite.empty 0 l ≡ None) q
      (row_walks o vars refl (start_of bs) (length inits) (length bs) (scope_of_block vars b) (known_first vars b)
      (begun w) x f.0.well f.0.pairs finite.empty (unentered_first vars b F) 0)
  rows_walk b w (x ∷ xs) f (suc j) r e = rows_walk (suc b) (block_noted vars b w x) xs f.1 j r e

  -- the walk passes the instructions of each block
  blocks_walked : (b : ℕ) → b < length o.blocks → code_walk o finite.empty 0 (block_instrs o b) ≡ None
  blocks_walked b lt =
      let here : b < length bs = let c = block_count names inits vars bs C F W in omega (arith, lt) in
      let R = row_of_block names inits vars bs C F W 0 (at_first vars) bs b here in
      subst (λ l. code_walk o finite.empty 0 l ≡ None) (sym (block_is_row names inits vars bs C F W b R.0 R.1))
      (rows_walk 0 (at_first vars) bs (well_rows vars (length inits) bs W) b R.0 R.1)

  -- the object is a module
  pub module_of_blocks : IsModule o.cells o
  module_of_blocks =
      let E = emission names inits vars bs C F W in
      record {
        spelled = E.spellable;
        accepted = E.accepted;
        same_cells = refl;
        plain_cells = plain_cells (zip names inits);
        plain_rows = All-cons HasPlainRows entry_type (variables_type vars ∷ []) (All-nil HasPlainRow)
            (All-cons HasPlainRows (variables_type vars) [] (plain_rows vars (map green_row (range_with_len 0 vars)
            ++ map blue_row (range_with_len 0 vars)) (type_rows vars)) (All-nil HasPlainRows));
        walked = blocks_walked;
      }

-- the object of a flow of a program, over its cells, is a module
pub module_of_flow : (p : Program) (o : Object) → AreCells p.names p.inits → IsEmitted p o → IsModule o.cells o
module_of_flow p o C h = subst (λ (x : Object). IsModule x.cells x) (sym h.object)
    (module_of_blocks p.names p.inits p.vars h.flow C h.few h.well)

-- the object of a text's program is a module
pub compiled_module : (text : List ℕ) (p : Program) (o : Object) → IsProgramOf text p → IsEmitted p o →
    IsModule o.cells o
compiled_module text p o h e = module_of_flow p o (program_cells text p h) e

-- so is any object that comes from this object by exchanges
pub scheduled_module : (text : List ℕ) (p : Program) (o s : Object) → IsProgramOf text p → IsEmitted p o →
    ComesFrom o s → IsModule s.cells s
scheduled_module text p o s h e c =
    let m = modules_exchanged o.cells o s (compiled_module text p o h e) c in
    subst (λ cells. IsModule cells s) (sym m.same_cells) m
