-- The blocks of a program are well formed.
use Rattle.std.proofs.Common.{◌≡◌, ◌≢◌, ℕ, zero, suc, ◌+◌, ◌<◌, ◌≤◌, Bool, true, false, cond, List, [], ◌∷◌, ◌++◌}
use Rattle.std.proofs.Common.{length, ◌==◌, inl, inr, refl, sym, ap, ◌∙◌, subst, arith, append_assoc}
use Rattle.std.proofs.lemmas.Bool.{ne_eqb, eq-eqb, cases_eq, lt-ltb}
use Rattle.ft_syntax.specs.Plain.{Expression, literal, name, indexed, operation, StatementList, none, assign, assign_at}
use Rattle.ft_syntax.specs.Plain.{loop, choose}
use Rattle.ft_scope.specs.declared.slot.Slot.{Slot}
use Rattle.ft_scope.specs.declared.slot.Slot.TheVariants.{Cell, Var, Run}
use Rattle.ft_scope.specs.Size.{SlotFits, RunFits, ExpressionFits, StatementsFit}
use Rattle.ft_scope.specs.Resolved.{Program}
use Rattle.ft_lower.specs.declared.step3.Step3.{Step3}
use Rattle.ft_lower.specs.declared.step3.Step3.TheVariants.{Put, Op, LoadAt, Exit, Go, Stop}
use Rattle.ft_lower.specs.Flow.{Blocks, Place, on, first, block_of}
use Rattle.ft_lower.specs.Well.{is_last, IsBlock, IsTarget, StepFits, Known, no_pair, pairs_below, learn, forget}
use Rattle.ft_lower.specs.Well.{known_after, KeepsVariables, ReadsKnown, RowIsWell, known_first, row_known, IsWell}
use Rattle.ft_lower.specs.Lowered.{expression_steps, write, block_count, statement_steps, zeros, program_steps}
use Rattle.ft_lower.specs.Lowered.{lowered}
use Rattle.ft_lower.specs.Cutting.{blocks_onto}
use Rattle.ft_lower.proofs.Runs.{next, after}
use Rattle.ft_lower.proofs.EndBlocks.{zeros_block, statements_block, block_append}
use Rattle.ft_lower.proofs.Sizes.{lowered_size}
use Rattle.ft_lower.proofs.Pairs.{lowered_below}
use Rattle.ft_lower.proofs.Whole.{IsResolved}

-- HOW MANY BLOCKS

-- the steps before the last one end all blocks but the last
blocks_many : (o is : List Step3) (p : Place) → p.block + length (blocks_onto o (is ++ Stop ∷ []))
    ≡ suc (after p is).block
blocks_many o [] p = omega arith
blocks_many o (i ∷ is) p = by (is_last i) (blocks_many [] is (first (suc p.block)))
    (blocks_many (o ++ i ∷ []) is (on p))
  where
    by : (b : Bool) → suc p.block + length (blocks_onto [] (is ++ Stop ∷ []))
        ≡ suc (after (first (suc p.block)) is).block → p.block + length (blocks_onto (o ++ i ∷ []) (is ++ Stop ∷ []))
        ≡ suc (after (on p) is).block → p.block + length
        (elim b as (λ b. Blocks) [
          | true ↦ (o ++ i ∷ []) ∷ blocks_onto [] (is ++ Stop ∷ [])
          | false ↦ blocks_onto (o ++ i ∷ []) (is ++ Stop ∷ [])
        ])
        ≡ suc (after (cond b (first (suc p.block)) (on p)) is).block
    by true x y = omega arith
    by false x y = y

-- KNOWN PAIRS

-- a known pair stays known when another is learnt
learn_keeps : (p : ℕ) (k : Known) (q : ℕ) → k q ≡ true → learn p k q ≡ true
learn_keeps p k q h = by (q == p)
  where
    by : (b : Bool) → cond b true (k q) ≡ true
    by true = refl
    by false = h

-- a pair is known once it is learnt
learn_same : (p : ℕ) (k : Known) → learn p k p ≡ true
learn_same p k = ap (λ b. cond b true (k p)) (eq-eqb p p refl)

-- learning a pair does not change the others
learn_other : (p : ℕ) (k : Known) (q : ℕ) → q ≢ p → learn p k q ≡ k q
learn_other p k q ne = ap (λ b. cond b true (k q)) (ne_eqb q p ne)

-- forgetting a pair does not change the others
forget_other : (p : ℕ) (k : Known) (q : ℕ) → q ≢ p → forget p k q ≡ k q
forget_other p k q ne = ap (λ b. cond b false (k q)) (ne_eqb q p ne)

-- the first n pairs are known
abbrev Knows : ℕ → Known → Type 0
Knows n k = (x : ℕ) → x < n → k x ≡ true

-- STEPS IN A ROW

-- for flows over n variables and m cells, with this many blocks
module _ (n m : ℕ) (blocks : ℕ) where
  -- a step is well formed, given what is known
  abbrev StepIsWell : Known → Step3 → Type 0
  StepIsWell k i = StepFits m blocks i × ReadsKnown n k i

  -- what is known before the next step of the row, which begins a block if this step ends one
  abbrev after_step : Step3 → Known → Known
  after_step i k = cond (is_last i) (pairs_below n) (known_after i k)

  -- what is known after a row
  abbrev walk : Known → List Step3 → Known
  walk k [] = k
  walk k (i ∷ is) = walk (after_step i k) is

  -- each step of the row is well formed
  abbrev FlatIsWell : Known → List Step3 → Type 0
  FlatIsWell k [] = Unit {0}
  FlatIsWell k (i ∷ is) = StepIsWell k i × FlatIsWell (after_step i k) is

  -- what is known after two rows is what is known after the second, begun with what is known after the first
  walk-append : (k : Known) (a b : List Step3) → walk k (a ++ b) ≡ walk (walk k a) b
  walk-append k [] b = refl
  walk-append k (i ∷ a) b = walk-append (after_step i k) a b

  -- two rows are well formed if each is
  flat-append : (k : Known) (a b : List Step3) → FlatIsWell k a → FlatIsWell (walk k a) b → FlatIsWell k (a ++ b)
  flat-append k [] b p q = q
  flat-append k (i ∷ a) b p q = (p.0, flat-append (after_step i k) a b p.1 q)

  -- an expression's steps are well formed, leave the variables and pair t known, and do not change what is known about
  -- the pairs below t
  record FlatExpression (t : ℕ) (k : Known) (e : Expression Slot) : Type 0 where
    well : FlatIsWell k (expression_steps t e)
    knows : Knows n (walk k (expression_steps t e))
    here : walk k (expression_steps t e) t ≡ true
    lower : (q : ℕ) → q < t → walk k (expression_steps t e) q ≡ k q

  -- each expression that fits has such steps
  flat_expression : (e : Expression Slot) (t : ℕ) (k : Known) → n ≤ t → ExpressionFits m n e → Knows n k →
      FlatExpression t k e
  flat_expression (literal w) t k le fits h = record {
    well = ((fits, tt), tt);
    knows = λ x lt. learn_keeps t k x (h x lt);
    here = learn_same t k;
    lower = λ q lt. learn_other t k q (λ e. omega arith);
  }
  flat_expression (name (Var y)) t k le fits h = record {
    well = ((tt, h y fits), tt);
    knows = λ x lt. learn_keeps t k x (h x lt);
    here = learn_same t k;
    lower = λ q lt. learn_other t k q (λ e. omega arith);
  }
  flat_expression (name (Cell c)) t k le fits h = record {
    well = ((fits, tt), tt);
    knows = λ x lt. learn_keeps t k x (h x lt);
    here = learn_same t k;
    lower = λ q lt. learn_other t k q (λ e. omega arith);
  }
  flat_expression (name (Run c l)) t k le fits h = absurd fits
  flat_expression (indexed (Var y) e) t k le fits h = absurd fits.0
  flat_expression (indexed (Cell c) e) t k le fits h = absurd fits.0
  flat_expression (indexed (Run c l) e) t k le fits h =
      let ce = expression_steps t e in
      let i = LoadAt t t c l in
      let E = flat_expression e t k le fits.1 h in
      let k1 = walk k ce in
      let at : walk k (ce ++ i ∷ []) ≡ learn t k1 = walk-append k ce (i ∷ []) in
      record {
        well = flat-append k ce (i ∷ []) E.well ((fits.0, E.here), tt);
        knows = λ x lt. ap (λ (f : Known). f x) at ∙ learn_keeps t k1 x (E.knows x lt);
        here = ap (λ (f : Known). f t) at ∙ learn_same t k1;
        lower = λ q lt. ap (λ (f : Known). f q) at ∙ learn_other t k1 q (λ e. omega arith) ∙ E.lower q lt;
      }
  flat_expression (operation o a b) t k le fits h =
      let ca = expression_steps t a in
      let cb = expression_steps (t + 1) b in
      let i = Op o t t (t + 1) in
      let A = flat_expression a t k le fits.0 h in
      let k1 = walk k ca in
      let B = flat_expression b (t + 1) k1 (omega arith) fits.1 A.knows in
      let k2 = walk k1 cb in
      let at : walk k (ca ++ (cb ++ i ∷ [])) ≡ learn t k2 = walk-append k ca (cb ++ i ∷ [])
      ∙ walk-append k1 cb (i ∷ []) in
      record {
        well = flat-append k ca (cb ++ i ∷ []) A.well
            (flat-append k1 cb (i ∷ []) B.well ((tt, (B.lower t (omega arith) ∙ A.here, B.here)), tt));
        knows = λ x lt. ap (λ (f : Known). f x) at ∙ learn_keeps t k2 x (B.knows x lt);
        here = ap (λ (f : Known). f t) at ∙ learn_same t k2;
        lower = λ q lt. ap (λ (f : Known). f q) at ∙ learn_other t k2 q (λ e. omega arith) ∙ B.lower q (omega arith)
            ∙ A.lower q lt;
      }

  -- if exactly the pairs below n are known, the variables are
  knows_below : Knows n (pairs_below n)
  knows_below x lt = lt-ltb x n lt

  -- the variables stay known when the spare is forgotten
  knows_forget : (k : Known) → Knows n k → Knows n (forget n k)
  knows_forget k h x lt = forget_other n k x (λ e. omega arith) ∙ h x lt

  -- a jump with the spare n keeps the variables
  keeps : (k : Known) → Knows n k → KeepsVariables n k n
  keeps k h = record { known = h; free = omega arith }

  -- an existing block other than the entry is a target
  target : (to : ℕ) → to < blocks → 0 < to → IsTarget blocks to
  target to there entry = record { there = there; no_entry = entry }

  -- a row is well formed and leaves the variables known
  record FlatRow (k : Known) (is : List Step3) : Type 0 where
    well : FlatIsWell k is
    knows : Knows n (walk k is)

  -- a well-formed row followed by a `FlatRow` is a `FlatRow`
  flat_then : (k : Known) (a b : List Step3) → FlatIsWell k a → FlatRow (walk k a) b → FlatRow k (a ++ b)
  flat_then k a b p q = record {
    well = flat-append k a b p q.well;
    knows = subst (λ (f : Known). Knows n f) (sym (walk-append k a b)) q.knows;
  }

  -- a jump followed by a `FlatRow` is a `FlatRow`
  flat_go : (k : Known) (to : ℕ) (is : List Step3) → to < blocks → 0 < to → Knows n k → FlatRow (pairs_below n) is →
      FlatRow k (Go n to ∷ is)
  flat_go k to is there entry h R = record { well = ((target to there entry, keeps k h), R.well); knows = R.knows }

  -- an exit followed by a `FlatRow` is a `FlatRow`
  flat_exit : (k : Known) (to : ℕ) (is : List Step3) → to < blocks → 0 < to → k (n + 1) ≡ true → Knows n k →
      FlatRow (forget n k) is → FlatRow k (Exit (n + 1) n to ∷ is)
  flat_exit k to is there entry here h R = record {
    well =
        ((target to there entry, (here, (λ z. omega arith), keeps k h)), R.well);
    knows = R.knows;
  }

  -- an assignment followed by a `FlatRow` is a `FlatRow`
  flat_write : (to : Slot) (k : Known) (is : List Step3) → SlotFits m n to → k (n + 1) ≡ true → Knows n k →
      ((k1 : Known) → Knows n k1 → FlatRow k1 is) → FlatRow k (write n to ∷ is)
  flat_write (Var x) k is fits here h rest = let R = rest (learn x k) (λ y l. learn_keeps x k y (h y l)) in
      record { well = ((tt, here), R.well); knows = R.knows }
  flat_write (Cell c) k is fits here h rest = let R = rest (forget n k) (knows_forget k h) in
      record { well = ((fits, (here, λ e. omega arith)), R.well); knows = R.knows }
  flat_write (Run c l) k is fits here h rest = absurd fits

  -- an assignment with an index, followed by a `FlatRow`, is a `FlatRow`
  flat_write_at : (to : Slot) (k : Known) (is : List Step3) → RunFits m to → k (n + 1) ≡ true → k (n + 2) ≡ true →
      Knows n k → ((k1 : Known) → Knows n k1 → FlatRow k1 is) → FlatRow k (write n to ∷ is)
  flat_write_at (Var x) k is fits index here h rest = absurd fits
  flat_write_at (Cell c) k is fits index here h rest = absurd fits
  flat_write_at (Run c l) k is fits index here h rest =
      let R = rest (forget n k) (knows_forget k h) in
      record { well = ((fits, (index, here, (λ e. omega arith), λ e. omega arith)), R.well); knows = R.knows }

  -- the steps of statements are well formed and leave the variables known
  flat_statements : (st : StatementList Slot) (b : ℕ) (k : Known) → b + block_count st < blocks → StatementsFit m n st →
      Knows n k → FlatRow k (statement_steps n b st)
  flat_statements none b k lt fits h = record { well = tt; knows = h }
  flat_statements (assign to e rest) b k lt fits h =
      let E = flat_expression e (n + 1) k (omega arith) fits.1 h in
      flat_then k (expression_steps (n + 1) e) (write n to ∷ statement_steps n b rest) E.well
      (flat_write to _ (statement_steps n b rest) fits.0 E.here E.knows (λ k1 h1.
      flat_statements rest b k1 lt fits.2 h1))
  flat_statements (assign_at to i e rest) b k lt fits h =
      let ci = expression_steps (n + 1) i in
      let ce = expression_steps (n + 2) e in
      let cr = statement_steps n b rest in
      let I = flat_expression i (n + 1) k (omega arith) fits.1 h in
      let k1 = walk k ci in
      let E = flat_expression e (n + 2) k1 (omega arith) fits.2 I.knows in
      flat_then k ci (ce ++ (write n to ∷ cr)) I.well
      (flat_then k1 ce (write n to ∷ cr) E.well (flat_write_at to (walk k1 ce) cr fits.0 (E.lower (n + 1) (omega arith)
      ∙ I.here) E.here E.knows (λ k2 h2. flat_statements rest b k2 lt fits.3 h2)))
  flat_statements (loop e body rest) b k lt fits h =
      let out = b + 2 + block_count body in
      let ce = expression_steps (n + 1) e in
      let cb = statement_steps n (b + 1) body in
      let cr = statement_steps n out rest in
      let E = flat_expression e (n + 1) (pairs_below n) (omega arith) fits.0 knows_below in
      let k1 = walk (pairs_below n) ce in
      let k2 = forget n k1 in
      let B = flat_statements body (b + 1) k2 (omega arith) fits.1 (knows_forget k1 E.knows) in
      let R = flat_statements rest out (pairs_below n) (omega arith) fits.2 knows_below in
      let G = flat_go (walk k2 cb) (b + 1) cr (omega arith) (omega arith) B.knows R in
      let X = flat_exit k1 out (cb ++ Go n (b + 1) ∷ cr) (omega arith) (omega arith) E.here E.knows
      (flat_then k2 cb (Go n (b + 1) ∷ cr) B.well G) in
      flat_go k (b + 1) _ (omega arith) (omega arith) h (flat_then (pairs_below n) ce _ E.well X)
  flat_statements (choose e x y rest) b k lt fits h =
      let out = b + 2 + block_count x + block_count y in
      let other = b + 1 + block_count x in
      let ce = expression_steps (n + 1) e in
      let ca = statement_steps n b x in
      let cb = statement_steps n other y in
      let cr = statement_steps n out rest in
      let go = Go n out in
      let E = flat_expression e (n + 1) k (omega arith) fits.0 h in
      let k1 = walk k ce in
      let k2 = forget n k1 in
      let A = flat_statements x b k2 (omega arith) fits.1 (knows_forget k1 E.knows) in
      let B = flat_statements y other (pairs_below n) (omega arith) fits.2 knows_below in
      let R = flat_statements rest out (pairs_below n) (omega arith) fits.3 knows_below in
      let GR = flat_go (walk (pairs_below n) cb) out cr (omega arith) (omega arith) B.knows R in
      let GB = flat_go (walk k2 ca) out (cb ++ go ∷ cr) (omega arith) (omega arith) A.knows
      (flat_then (pairs_below n) cb (go ∷ cr) B.well GR) in
      let X = flat_exit k1 other (ca ++ (go ∷ (cb ++ go ∷ cr))) (omega arith) (omega arith) E.here E.knows
      (flat_then k2 ca (go ∷ (cb ++ go ∷ cr)) A.well GB) in
      flat_then k ce _ E.well X

  -- the zeros at the start are well formed
  flat_zeros : (j : ℕ) → FlatIsWell no_pair (zeros j)
  flat_zeros zero = tt
  flat_zeros (suc j) = flat-append no_pair (zeros j) (Put j 0 ∷ []) (flat_zeros j) ((omega arith, tt), tt)

  -- the zeros at the start leave their pairs known
  zeros_known : (j : ℕ) → Knows j (walk no_pair (zeros j))
  zeros_known zero x lt = absurd (omega arith)
  zeros_known (suc j) x lt =
      ap (λ (f : Known). f x) (walk-append no_pair (zeros j) (Put j 0 ∷ []))
      ∙ elim (cases_eq x j) [
        | inl e ↦ subst (λ z. learn j (walk no_pair (zeros j)) z ≡ true) (sym e) (learn_same j (walk no_pair (zeros j)))
        | inr ne ↦ learn_keeps j (walk no_pair (zeros j)) x (zeros_known j x (omega arith))
      ]

  -- CUTTING INTO BLOCKS

  -- a block ends properly, and its steps are well formed
  record BlockIsWell (k : Known) (is : List Step3) : Type 0 where
    ended : IsBlock is
    well : RowIsWell n m blocks k is

  -- all blocks are well formed: the first given what is known, the others given that only the variables are known
  abbrev AllAreWell : Known → Blocks → Type 0
  AllAreWell k [] = Unit {0}
  AllAreWell k (x ∷ bs) = BlockIsWell k x × AllAreWell (pairs_below n) bs

  -- none of these steps ends a block
  abbrev IsOpen : List Step3 → Type 0
  IsOpen [] = Unit {0}
  IsOpen (i ∷ is) = (is_last i ≡ false) × IsOpen is

  -- an open block stays open when a step that ends no block is appended
  open-append : (o : List Step3) (i : Step3) → IsOpen o → is_last i ≡ false → IsOpen (o ++ i ∷ [])
  open-append [] i h e = (e, tt)
  open-append (x ∷ o) i h e = (h.0, open-append o i h.1 e)

  -- what must follow a step, given whether it ends a block
  abbrev EndIs : Bool → List Step3 → Type 0
  EndIs b is = elim b as (λ b. Type 0) [ true ↦ is ≡ [] | false ↦ IsBlock is ]

  -- a step that ends a block closes an open one
  closed : (o : List Step3) (i : Step3) → IsOpen o → is_last i ≡ true → IsBlock (o ++ i ∷ [])
  closed [] i h e = subst (λ b. EndIs b []) (sym e) refl
  closed (x ∷ o) i h e = subst (λ b. EndIs b (o ++ i ∷ [])) (sym h.0) (closed o i h.1 e)

  -- a row stays well formed when a well-formed step is appended
  row-append : (k : Known) (o : List Step3) (i : Step3) → RowIsWell n m blocks k o → StepIsWell (row_known k o) i →
      RowIsWell n m blocks k (o ++ i ∷ [])
  row-append k [] i h w = (w.0, w.1, tt)
  row-append k (x ∷ o) i h w = (h.0, h.1, row-append (known_after x k) o i h.2 w)

  -- what is known after one more step is what this step leaves known
  row_known-append : (k : Known) (o : List Step3) (i : Step3) → row_known k (o ++ i ∷ [])
      ≡ known_after i (row_known k o)
  row_known-append k [] i = refl
  row_known-append k (x ∷ o) i = row_known-append (known_after x k) o i

  -- the blocks are well formed whether or not the next step ends one
  all_by : (b : Bool) (i : Step3) (is o : List Step3) (k : Known) → is_last i ≡ b →
      ((o1 : List Step3) (k1 : Known) → IsOpen o1 → RowIsWell n m blocks k1 o1 →
      FlatIsWell (row_known k1 o1) (is ++ Stop ∷ []) → AllAreWell k1 (blocks_onto o1 (is ++ Stop ∷ []))) → IsOpen o →
      RowIsWell n m blocks k o → StepIsWell (row_known k o) i →
      FlatIsWell (cond b (pairs_below n) (known_after i (row_known k o))) (is ++ Stop ∷ []) →
      AllAreWell k (elim b as (λ b. Blocks) [
        | true ↦ (o ++ i ∷ []) ∷ blocks_onto [] (is ++ Stop ∷ [])
        | false ↦ blocks_onto (o ++ i ∷ []) (is ++ Stop ∷ [])
      ])
  all_by true i is o k e next op row step flat = (
    record { ended = closed o i op e; well = row-append k o i row step },
    next [] (pairs_below n) tt tt flat,
  )
  all_by false i is o k e next op row step flat =
      next (o ++ i ∷ []) k (open-append o i op e) (row-append k o i row step)
      (subst (λ (f : Known). FlatIsWell f (is ++ Stop ∷ [])) (sym (row_known-append k o i)) flat)

  -- a row that is well formed is cut into blocks that are
  all_onto : (is o : List Step3) (k : Known) → IsOpen o → RowIsWell n m blocks k o →
      FlatIsWell (row_known k o) (is ++ Stop ∷ []) → AllAreWell k (blocks_onto o (is ++ Stop ∷ []))
  all_onto [] o k op row flat = (record { ended = closed o Stop op refl; well = row-append k o Stop row (tt, tt) }, tt)
  all_onto (i ∷ is) o k op row flat = all_by (is_last i) i is o k refl (λ o1 k1. all_onto is o1 k1) op row flat.0 flat.1

  -- a block after the first is well formed
  other_at : (bs : Blocks) (b : ℕ) → AllAreWell (pairs_below n) bs → b < length bs →
      BlockIsWell (pairs_below n) (block_of bs b)
  other_at [] b h lt = absurd (omega arith)
  other_at (x ∷ bs) zero h lt = h.0
  other_at (x ∷ bs) (suc b) h lt = other_at bs b h.1 (omega arith)

  -- each block is well formed
  all_at : (bs : Blocks) (b : ℕ) → AllAreWell no_pair bs → b < length bs → BlockIsWell (known_first n b) (block_of bs b)
  all_at [] b h lt = absurd (omega arith)
  all_at (x ∷ bs) zero h lt = h.0
  all_at (x ∷ bs) (suc b) h lt = other_at bs b h.1 (omega arith)

-- a program's blocks are well formed
pub lowered_is_well : (p : Program) → IsResolved p → IsWell p.vars (length p.inits) (lowered p)
lowered_is_well p ok =
    let n = p.vars in
    let m = length p.inits in
    let cp = statement_steps n 0 p.body in
    let is = zeros n ++ cp in
    let bs = lowered p in
    let same : program_steps p ≡ is ++ Stop ∷ [] = sym (append_assoc (zeros n) cp (Stop ∷ [])) in
    let e : blocks_onto [] (is ++ Stop ∷ []) ≡ bs = ap (blocks_onto []) (sym same) in
    let at = block_append (first 0) (zeros n) cp ∙ statements_block p.body n 0 (after (first 0) (zeros n))
    (zeros_block n (first 0)) in
    let N = length bs in
    let many : N ≡ suc (0 + block_count p.body) = let z = blocks_many [] is (first 0) in
    omega (arith, z, ap length e, at) in
    let F = flat_statements n m N p.body 0 (walk n m N no_pair (zeros n)) (omega arith) ok.names (zeros_known n m N n)
    in
    let S = flat_then n m N no_pair (zeros n) cp (flat_zeros n m N n) F in
    let all = all_onto n m N is [] no_pair tt tt (flat-append n m N no_pair is (Stop ∷ []) S.well ((tt, tt), tt)) in
    let A = subst (AllAreWell n m N no_pair) e all in
    record {
      some = omega arith;
      pairs = lowered_below p ok.names 32 ok.need;
      ended = λ b lt. (all_at n m N bs b A lt).ended;
      rows = λ b lt. (all_at n m N bs b A lt).well;
      short = omega (arith, lowered_size p, ok.weight);
    }
