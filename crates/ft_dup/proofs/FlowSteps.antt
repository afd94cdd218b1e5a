-- Each flow step, as its instructions execute it.
use Rattle.std.proofs.Common.{◌≡◌, ◌≢◌, ℕ, suc, ◌+◌, ◌<◌, true, List, [], ◌∷◌, length, map, Some, refl, ap, ◌∙◌, subst}
use Rattle.std.proofs.Common.{arith, slice_get, slice_index}
use Rattle.std.specs.List.{All}
use Rattle.std.proofs.lemmas.List.Elements.{All-head, All-tail}
use Rattle.ft_isa.specs.BasicTypes.{int}
use Rattle.ft_isa.specs.Words.{IsWord, apply, cell_address, cell_in_run, code_address}
use Rattle.ft_isa.specs.declared.colour.Colour.TheVariants.{Green, Blue}
use Rattle.ft_isa.specs.declared.op.Op.{Op as Operation}
use Rattle.ft_isa.specs.declared.op.Op.TheVariants as op
use Rattle.ft_isa.specs.declared.output.Output.{Output}
use Rattle.ft_isa.specs.declared.plan.Wild.{Wild}
use Rattle.ft_isa.specs.declared.instr.Instr.{Instr}
use Rattle.ft_isa.specs.declared.instr.Instr.TheVariants as instr
use Rattle.ft_types.specs.declared.object.Object.{Object}
use Rattle.ft_semantics.specs.State.{Registers, Cells, held, with_held, with_cell}
use Rattle.ft_meaning.specs.Meaning.{cell_of_run}
use Rattle.ft_lower.specs.declared.step3.Step3.TheVariants.{Put, Copy, Op, Load, Store, LoadAt, StoreAt, Exit, Go}
use Rattle.ft_lower.specs.Flow.{FlowState, goes_on, goes_to, with_pair}
use Rattle.ft_lower.specs.Flow as flow
use Rattle.ft_lower.specs.Size.{pairs_of}
use Rattle.ft_lower.specs.Well.{Known, learn, forget}
use Rattle.ft_dup.specs.Images.{green, blue, loads, stores, image}
use Rattle.ft_dup.specs.Doubles.{bare}
use Rattle.ft_dup.proofs.Stretches.{Leads, lead_on, spot, col, mov, op_reg, op_word, index, load, store_green}
use Rattle.ft_dup.proofs.Stretches.{store_blue, jump_green, jump_blue, branch_green_zero, branch_green_other}
use Rattle.ft_dup.proofs.Stretches.{branch_blue_zero, branch_blue_other}
use Rattle.ft_isa.proofs.Operations.{apply_is_word}
use Rattle.ft_dup.proofs.Pairs.{add_nothing, PairsHeld, two_held, green_read, blue_read, blue_left, pair_kept}
use Rattle.ft_dup.proofs.Pairs.{holds_learn, holds_forget, CellsHold, cell_there, cells_set}

-- the code has these instructions from index i on
abbrev pub HasInstrs : List Instr → ℕ → List Instr → Type 0
HasInstrs code i [] = Unit {0}
HasInstrs code i (J ∷ js) = (slice_get code i ≡ Some (bare J)) × HasInstrs code (suc i) js

-- all these pairs are below 32
abbrev pub Below : List ℕ → Type 0
Below ps = All (λ q. q < 32) ps

-- the first pair that a step names is below 32
first_pair : (p : ℕ) (ps : List ℕ) → Below (p ∷ ps) → p < 32
first_pair p ps h = All-head (λ q. q < 32) p ps h

-- the second pair that a step names is below 32
second_pair : (p q : ℕ) (ps : List ℕ) → Below (p ∷ q ∷ ps) → q < 32
second_pair p q ps h = first_pair q ps (All-tail (λ q. q < 32) p (q ∷ ps) h)

module _ (o : Object) (w : List Wild) where
  -- j steps of the machine lead from instruction i to instruction t, and from state f of the flow to state g
  pub record Row (k : Known) (j i t : ℕ) (m : Registers) (c : Cells) (f g : FlowState) : Type 0 where
    pub regs : Registers
    pub cells : Cells
    pub leads : Leads o j (spot i m 0 [] c w f.out) (spot t regs 0 [] cells w g.out)
    pub holds : PairsHeld k regs g.pairs
    pub memory : CellsHold cells g.cells

  -- two moves put a word into both registers of a pair
  two_moves : (i p v : ℕ) (m : Registers) (c : Cells) (os : List Output) → i + 2 < 65537 →
      slice_get (map bare o.instrs) i ≡ Some (instr.Mov (green p) int (col Green v)) →
      slice_get (map bare o.instrs) (suc i) ≡ Some (instr.Mov (blue p) int (col Blue v)) →
      Leads o 4 (spot i m 0 [] c w os) (spot (suc (suc i)) (two_held m p (col Green v) (col Blue v)) 0 [] c w os)
  two_moves i p v m c os short a b = lead_on o 2 2 _ _ _ (mov o w i (omega arith) m c os (green p) (col Green v) a)
      (mov o w (suc i) (omega arith) (with_held m (green p).number (col Green v)) c os (blue p) (col Blue v) b)

  -- the two instructions of `Put` have its effect
  pub put_row : (k : Known) (i p v : ℕ) (m : Registers) (c : Cells) (f : FlowState) (start : ℕ → ℕ) → i + 2 < 65537 →
      HasInstrs (map bare o.instrs) i (image start (Put p v)) → Below (pairs_of (Put p v)) → IsWord v →
      PairsHeld k m f.pairs → CellsHold c f.cells → Row (learn p k) 4 i (suc (suc i)) m c f (goes_on (with_pair p v f))
  put_row k i p v m c f start short has pairs word h cells = record {
    regs = two_held m p (col Green v) (col Blue v);
    cells = c;
    leads = two_moves i p v m c f.out short has.0 has.1.0;
    holds = holds_learn k m f p v (first_pair p [] pairs) word (λ q ne known. h q known);
    memory = cells;
  }

  -- the two instructions of `Copy` have its effect
  pub copy_row : (k : Known) (i p q : ℕ) (m : Registers) (c : Cells) (f : FlowState) (start : ℕ → ℕ) → i + 2 < 65537 →
      HasInstrs (map bare o.instrs) i (image start (Copy p q)) → Below (pairs_of (Copy p q)) → k q ≡ true →
      PairsHeld k m f.pairs → CellsHold c f.cells → Row (learn p k) 4 i (suc (suc i)) m c f
      (goes_on (with_pair p (f.pairs q) f))
  copy_row k i p q m c f start short has pairs known h cells =
      let v = f.pairs q in
      let lt = first_pair p (q ∷ []) pairs in
      let P = h q known in
      let e = add_nothing v P.word in
      let m1 = with_held m (green p).number (col Green v) in
      let a1 = subst (λ x. Leads o 2 (spot i m 0 [] c w f.out)
      (spot (suc i) (with_held m (green p).number (col Green x)) 0 [] c w f.out)) e
      (op_word o w i (omega arith) m c f.out op.Add (green p) (green q) v 0 Green has.0 P.green) in
      let a2 = subst (λ x. Leads o 2 (spot (suc i) m1 0 [] c w f.out)
      (spot (suc (suc i)) (with_held m1 (blue p).number (col Blue x)) 0 [] c w f.out)) e
      (op_word o w (suc i) (omega arith) m1 c f.out op.Add (blue p) (blue q) v 0 Blue has.1.0
      (blue_left m p q (col Green v) lt P.below ∙ P.blue)) in
      record {
        regs = two_held m p (col Green v) (col Blue v);
        cells = c;
        leads = lead_on o 2 2 _ _ _ a1 a2;
        holds = holds_learn k m f p v lt P.word (λ q ne known. h q known);
        memory = cells;
      }

  -- the two instructions of `Op` have its effect
  pub op_row : (k : Known) (i p q s : ℕ) (x : Operation) (m : Registers) (c : Cells) (f : FlowState) (start : ℕ → ℕ) →
      i + 2 < 65537 → HasInstrs (map bare o.instrs) i (image start (Op x p q s)) → Below (pairs_of (Op x p q s)) →
      (k q ≡ true) × (k s ≡ true) → PairsHeld k m f.pairs → CellsHold c f.cells →
      Row (learn p k) 4 i (suc (suc i)) m c f (goes_on (with_pair p (apply x (f.pairs q) (f.pairs s)) f))
  op_row k i p q s x m c f start short has pairs known h cells =
      let v = apply x (f.pairs q) (f.pairs s) in
      let lt = first_pair p (q ∷ s ∷ []) pairs in
      let P = h q known.0 in
      let S = h s known.1 in
      let g = col Green v in
      let m1 = with_held m (green p).number g in
      record {
        regs = two_held m p g (col Blue v);
        cells = c;
        leads = lead_on o 2 2 _ _ _ (op_reg o w i (omega arith) m c f.out x (green p) (green q) (green s) (f.pairs q)
            (f.pairs s) Green has.0 P.green S.green) (op_reg o w (suc i) (omega arith) m1 c f.out x (blue p) (blue q)
            (blue s) (f.pairs q) (f.pairs s) Blue has.1.0 (blue_left m p q g lt P.below
            ∙ P.blue) (blue_left m p s g lt S.below ∙ S.blue));
        holds = holds_learn k m f p v lt (apply_is_word x (f.pairs q) (f.pairs s) P.word S.word) (λ q ne known.
            h q known);
        memory = cells;
      }

  -- two instructions that leave a cell's address in both registers of a pair, followed by two loads, load the cell
  loads_row : (k : Known) (i p n : ℕ) (m : Registers) (c : Cells) (f : FlowState) → i + 4 < 65537 → p < 32 →
      Leads o 4 (spot i m 0 [] c w f.out) (spot (suc (suc i))
      (two_held m p (col Green (cell_address n)) (col Blue (cell_address n))) 0 [] c w f.out) →
      HasInstrs (map bare o.instrs) (suc (suc i)) (loads p) → n < length f.cells → IsWord (slice_index f.cells n) →
      PairsHeld k m f.pairs → CellsHold c f.cells → Row (learn p k) 8 i (suc (suc (suc (suc i)))) m c f
      (goes_on (with_pair p (slice_index f.cells n) f))
  loads_row k i p n m c f short lt before has there word h cells =
      let a = cell_address n in
      let v = slice_index f.cells n in
      let at = cell_there c f.cells n cells there in
      let m2 = two_held m p (col Green a) (col Blue a) in
      let m3 = with_held m2 (green p).number (col Green v) in
      record {
        regs = two_held m2 p (col Green v) (col Blue v);
        cells = c;
        leads =
            lead_on o 4 4 _ _ _ before
            (lead_on o 2 2 _ _ _
            (load o w (suc (suc i)) (omega arith) m2 c f.out (green p) (green p) a v Green has.0
            (green_read m p (col Green a) (col Blue a) lt) at)
            (load o w (suc (suc (suc i))) (omega arith) m3 c f.out (blue p) (blue p) a v Blue has.1.0
            (blue_left m2 p p (col Green v) lt lt ∙ blue_read m p (col Green a) (col Blue a)) at));
        holds = holds_learn k m2 f p v lt word (λ q ne known.
            pair_kept m f.pairs f.pairs p q (col Green a) (col Blue a) lt ne refl (h q known));
        memory = cells;
      }

  -- two instructions that leave a cell's address in both registers of the spare pair, followed by two stores, store
  -- into the cell
  stores_row : (k : Known) (i n q s : ℕ) (m : Registers) (c : Cells) (f : FlowState) → i + 4 < 65537 → s < 32 →
      Leads o 4 (spot i m 0 [] c w f.out) (spot (suc (suc i))
      (two_held m s (col Green (cell_address n)) (col Blue (cell_address n))) 0 [] c w f.out) →
      HasInstrs (map bare o.instrs) (suc (suc i)) (stores s q) → n < length f.cells → k q ≡ true → q ≢ s →
      PairsHeld k m f.pairs → CellsHold c f.cells → Row (forget s k) 8 i (suc (suc (suc (suc i)))) m c f
      (goes_on (with_pair s 0 (flow.with_cell n (f.pairs q) f)))
  stores_row k i n q s m c f short lt before has there known ne h cells =
      let a = cell_address n in
      let v = f.pairs q in
      let K = pair_kept m f.pairs f.pairs s q (col Green a) (col Blue a) lt ne refl (h q known) in
      let m2 = two_held m s (col Green a) (col Blue a) in
      record {
        regs = m2;
        cells = with_cell c a v;
        leads =
            lead_on o 4 4 _ _ _ before
            (lead_on o 2 2 _ _ _
            (store_green o w (suc (suc i)) (omega arith) m2 c f.out (green s) (green q) a v has.0
            (green_read m s (col Green a) (col Blue a) lt) K.green)
            (store_blue o w (suc (suc (suc i))) (omega arith) m2 c f.out (blue s) (blue q) a v (slice_index f.cells n)
            has.1.0 (blue_read m s (col Green a) (col Blue a)) K.blue (cell_there c f.cells n cells there)));
        holds = holds_forget k m f s 0 (col Green a) (col Blue a) lt h;
        memory = cells_set c f.cells n v there cells;
      }

  -- the four instructions of `Load` have its effect
  pub load_row : (k : Known) (i p n : ℕ) (m : Registers) (c : Cells) (f : FlowState) (start : ℕ → ℕ) → i + 4 < 65537 →
      HasInstrs (map bare o.instrs) i (image start (Load p n)) → Below (pairs_of (Load p n)) → n < length f.cells →
      IsWord (slice_index f.cells n) → PairsHeld k m f.pairs → CellsHold c f.cells →
      Row (learn p k) 8 i (suc (suc (suc (suc i)))) m c f (goes_on (with_pair p (slice_index f.cells n) f))
  load_row k i p n m c f start short has pairs there word h cells =
      loads_row k i p n m c f short (first_pair p [] pairs)
      (two_moves i p (cell_address n) m c f.out (omega arith) has.0 has.1.0) has.1.1 there word h cells

  -- the four instructions of `Store` have its effect
  pub store_row : (k : Known) (i n q s : ℕ) (m : Registers) (c : Cells) (f : FlowState) (start : ℕ → ℕ) →
      i + 4 < 65537 → HasInstrs (map bare o.instrs) i (image start (Store n q s)) → Below (pairs_of (Store n q s)) →
      n < length f.cells → (k q ≡ true) × (q ≢ s) → PairsHeld k m f.pairs → CellsHold c f.cells →
      Row (forget s k) 8 i (suc (suc (suc (suc i)))) m c f (goes_on (with_pair s 0 (flow.with_cell n (f.pairs q) f)))
  store_row k i n q s m c f start short has pairs there reads h cells =
      stores_row k i n q s m c f short (second_pair q s [] pairs)
      (two_moves i s (cell_address n) m c f.out (omega arith) has.0 has.1.0) has.1.1 there reads.0 reads.1 h cells

  -- two `idx` put the address of the array cell that pair q selects into both registers of pair p; p may equal q
  two_indexes : (i p q x first n : ℕ) (m : Registers) (c : Cells) (os : List Output) → i + 2 < 65537 → p < 32 → q < 32 →
      slice_get (map bare o.instrs) i ≡ Some (instr.Idx (green p) (green q) first n) →
      slice_get (map bare o.instrs) (suc i) ≡ Some (instr.Idx (blue p) (blue q) first n) → held m (green q).number
      ≡ col Green x → held m (blue q).number ≡ col Blue x →
      Leads o 4 (spot i m 0 [] c w os) (spot (suc (suc i))
      (two_held m p (col Green (cell_in_run first n x)) (col Blue (cell_in_run first n x))) 0 [] c w os)
  two_indexes i p q x first n m c os short lp lq a b green_word blue_word =
      let v = col Green (cell_in_run first n x) in
      lead_on o 2 2 _ _ _ (index o w i (omega arith) m c os (green p) (green q) first n x Green a green_word)
      (index o w (suc i) (omega arith) (with_held m (green p).number v) c os (blue p) (blue q) first n x Blue b
      (blue_left m p q v lp lq ∙ blue_word))

  -- the four instructions of `LoadAt` have its effect
  pub load_at_row : (k : Known) (i p q first n : ℕ) (m : Registers) (c : Cells) (f : FlowState) (start : ℕ → ℕ) →
      i + 4 < 65537 → HasInstrs (map bare o.instrs) i (image start (LoadAt p q first n)) →
      Below (pairs_of (LoadAt p q first n)) → cell_of_run first n (f.pairs q) < length f.cells →
      IsWord (slice_index f.cells (cell_of_run first n (f.pairs q))) → k q ≡ true → PairsHeld k m f.pairs →
      CellsHold c f.cells → Row (learn p k) 8 i (suc (suc (suc (suc i)))) m c f
      (goes_on (with_pair p (slice_index f.cells (cell_of_run first n (f.pairs q))) f))
  load_at_row k i p q first n m c f start short has pairs there word known h cells =
      let Q = h q known in
      let lt = first_pair p (q ∷ []) pairs in
      loads_row k i p (cell_of_run first n (f.pairs q)) m c f short lt
      (two_indexes i p q (f.pairs q) first n m c f.out (omega arith) lt Q.below has.0 has.1.0 Q.green Q.blue) has.1.1
      there word h cells

  -- the four instructions of `StoreAt` have its effect
  pub store_at_row : (k : Known) (i first n x q s : ℕ) (m : Registers) (c : Cells) (f : FlowState) (start : ℕ → ℕ) →
      i + 4 < 65537 → HasInstrs (map bare o.instrs) i (image start (StoreAt first n x q s)) →
      Below (pairs_of (StoreAt first n x q s)) → cell_of_run first n (f.pairs x) < length f.cells → k x ≡ true → k q
      ≡ true → q ≢ s → PairsHeld k m f.pairs → CellsHold c f.cells →
      Row (forget s k) 8 i (suc (suc (suc (suc i)))) m c f
      (goes_on (with_pair s 0 (flow.with_cell (cell_of_run first n (f.pairs x)) (f.pairs q) f)))
  store_at_row k i first n x q s m c f start short has pairs there named known ne h cells =
      let X = h x named in
      let lt = second_pair q s [] (All-tail (λ q. q < 32) x (q ∷ s ∷ []) pairs) in
      stores_row k i (cell_of_run first n (f.pairs x)) q s m c f short lt
      (two_indexes i s x (f.pairs x) first n m c f.out (omega arith) lt X.below has.0 has.1.0 X.green X.blue) has.1.1
      there known ne h cells

  -- two moves leave the target's code address in both registers of the spare pair
  to_spare : (i s t : ℕ) (m : Registers) (c : Cells) (os : List Output) → i + 2 < 65537 →
      slice_get (map bare o.instrs) i ≡ Some (instr.Mov (green s) int (col Green (code_address t))) →
      slice_get (map bare o.instrs) (suc i) ≡ Some (instr.Mov (blue s) int (col Blue (code_address t))) →
      Leads o 4 (spot i m 0 [] c w os) (spot (suc (suc i)) (two_held m s (col Green (suc t)) (col Blue (suc t))) 0 [] c
      w
      os)
  to_spare i s t m c os short a b =
      let e : code_address t ≡ suc t = omega arith in
      subst (λ v. Leads o 4 (spot i m 0 [] c w os) (spot (suc (suc i)) (two_held m s (col Green v) (col Blue v)) 0 [] c
      w os)) e (two_moves i s (code_address t) m c os short a b)

  -- the four instructions of `Go` have its effect
  pub go_row : (k : Known) (i s to : ℕ) (m : Registers) (c : Cells) (f : FlowState) (start : ℕ → ℕ) → i + 4 < 65537 →
      HasInstrs (map bare o.instrs) i (image start (Go s to)) → Below (pairs_of (Go s to)) → PairsHeld k m f.pairs →
      CellsHold c f.cells → Row (forget s k) 8 i (start to) m c f (goes_to to (with_pair s 0 f))
  go_row k i s to m c f start short has pairs h cells =
      let t = start to in
      let lt = first_pair s [] pairs in
      let g = col Green (suc t) in
      let b = col Blue (suc t) in
      let m2 = two_held m s g b in
      record {
        regs = m2;
        cells = c;
        leads =
            lead_on o 4 4 _ _ _ (to_spare i s t m c f.out (omega arith) has.0 has.1.0)
            (lead_on o 2 2 _ _ _ (jump_green o w (suc (suc i)) (omega arith) m2 c f.out (green s) (suc t) has.1.1.0
            (green_read m s g b lt)) (jump_blue o w (suc (suc (suc i))) (omega arith) m2 c f.out (blue s) t
            has.1.1.1.0 (blue_read m s g b)));
        holds = holds_forget k m f s 0 g b lt h;
        memory = cells;
      }

  -- the four instructions of `Exit` have its effect if the pair holds 0
  pub exit_zero_row : (k : Known) (i q s to : ℕ) (m : Registers) (c : Cells) (f : FlowState) (start : ℕ → ℕ) →
      i + 4 < 65537 → HasInstrs (map bare o.instrs) i (image start (Exit q s to)) → Below (pairs_of (Exit q s to)) → k q
      ≡ true → q ≢ s → f.pairs q ≡ 0 → PairsHeld k m f.pairs → CellsHold c f.cells →
      Row (forget s k) 8 i (start to) m c f (goes_to to (with_pair s 0 f))
  exit_zero_row k i q s to m c f start short has pairs known ne z h cells =
      let t = start to in
      let lt = second_pair q s [] pairs in
      let g = col Green (suc t) in
      let b = col Blue (suc t) in
      let m2 = two_held m s g b in
      let K = pair_kept m f.pairs f.pairs s q g b lt ne refl (h q known) in
      record {
        regs = m2;
        cells = c;
        leads =
            lead_on o 4 4 _ _ _ (to_spare i s t m c f.out (omega arith) has.0 has.1.0)
            (lead_on o 2 2 _ _ _ (branch_green_zero o w (suc (suc i)) (omega arith) m2 c f.out (green q) (green s)
            (suc t) has.1.1.0 (K.green ∙ ap (col Green) z) (green_read m s g b lt))
            (branch_blue_zero o w (suc (suc (suc i))) (omega arith) m2 c f.out (blue q) (blue s) t has.1.1.1.0 (K.blue
            ∙ ap (col Blue) z) (blue_read m s g b)));
        holds = holds_forget k m f s 0 g b lt h;
        memory = cells;
      }

  -- the four instructions of `Exit` have its effect if the pair does not hold 0
  pub exit_other_row : (k : Known) (i q s to x : ℕ) (m : Registers) (c : Cells) (f : FlowState) (start : ℕ → ℕ) →
      i + 4 < 65537 → HasInstrs (map bare o.instrs) i (image start (Exit q s to)) → Below (pairs_of (Exit q s to)) → k q
      ≡ true → q ≢ s → f.pairs q ≡ suc x → PairsHeld k m f.pairs → CellsHold c f.cells →
      Row (forget s k) 8 i (suc (suc (suc (suc i)))) m c f (goes_on (with_pair s 0 f))
  exit_other_row k i q s to x m c f start short has pairs known ne z h cells =
      let t = start to in
      let lt = second_pair q s [] pairs in
      let g = col Green (suc t) in
      let b = col Blue (suc t) in
      let m2 = two_held m s g b in
      let K = pair_kept m f.pairs f.pairs s q g b lt ne refl (h q known) in
      record {
        regs = m2;
        cells = c;
        leads =
            lead_on o 4 4 _ _ _ (to_spare i s t m c f.out (omega arith) has.0 has.1.0)
            (lead_on o 2 2 _ _ _ (branch_green_other o w (suc (suc i)) (omega arith) m2 c f.out (green q) (green s) x
            has.1.1.0 (K.green ∙ ap (col Green) z)) (branch_blue_other o w (suc (suc (suc i))) (omega arith) m2 c
            f.out (blue q) (blue s) x has.1.1.1.0 (K.blue ∙ ap (col Blue) z)));
        holds = holds_forget k m f s 0 g b lt h;
        memory = cells;
      }
