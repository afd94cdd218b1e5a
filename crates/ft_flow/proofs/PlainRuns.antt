-- A well-formed flow does the same whether or not its stores and jumps set their spares.
use Rattle.std.proofs.Common.{◌≡◌, ℕ, zero, suc, ◌<◌, Bool, true, false, cond, List, [], ◌∷◌, ◌++◌}
use Rattle.std.proofs.Common.{length, ◌==◌, Some, refl, sym, ap, ◌∙◌, subst, arith, append_assoc}
use Rattle.std.proofs.Common.{length-append, rules}
use Rattle.std.specs.Prelude.{slice_index, slice_set}
use Rattle.std.proofs.lemmas.Bool.{ltb-true, ne_eqb}
use Rattle.ft_isa.specs.Words.{apply, cell_address}
use Rattle.ft_meaning.specs.Meaning.{at_zero, cell_of_run}
use Rattle.ft_lower.specs.declared.step3.Step3.{Step3}
use Rattle.ft_lower.specs.declared.step3.Step3.TheVariants.{Put, Copy, Op, Load, Store, LoadAt, StoreAt, Exit, Go, Stop}
use Rattle.ft_lower.specs.Flow.{Blocks, Place, FlowState, on, first, goes_on, goes_to, with_pair, with_cell, block_of}
use Rattle.ft_lower.specs.Flow.{act, act_if, step_at, flow_step, steps, flow_start, flow_run}
use Rattle.ft_lower.specs.Well.{IsBlock, IsTarget, Known, no_pair, learn, forget, known_after, KeepsVariables}
use Rattle.ft_lower.specs.Well.{RowIsWell, known_first, IsWell}
use Rattle.ft_dup.proofs.Following.{there}
use Rattle.ft_flow.specs.Runs.{plain_act, plain_if, plain_step, plain_steps, plain_run}

-- the known pairs hold the same words
abbrev Same : Known → (ℕ → ℕ) → (ℕ → ℕ) → Type 0
Same k a b = (q : ℕ) → k q ≡ true → a q ≡ b q

-- they still do after the same word is put into a pair
same_learn : (k : Known) (a b : ℕ → ℕ) (p v u : ℕ) → v ≡ u → Same k a b →
    Same (learn p k) (λ q. cond (q == p) v (a q)) (λ q. cond (q == p) u (b q))
same_learn k a b p v u e h q known = by (q == p) known
  where
    by : (t : Bool) → cond t true (k q) ≡ true → cond t v (a q) ≡ cond t u (b q)
    by true x = e
    by false x = h q x

-- they still do after a pair is lost
same_forget : (k : Known) (a b : ℕ → ℕ) (p v : ℕ) → Same k a b → Same (forget p k) (λ q. cond (q == p) v (a q)) b
same_forget k a b p v h q known = by (q == p) known
  where
    by : (t : Bool) → cond t false (k q) ≡ true → cond t v (a q) ≡ b q
    by true x = absurd (search (rules, x))
    by false x = h q x

module _ (vars cells : ℕ) (bs : Blocks) (W : IsWell vars cells bs) where
  -- both runs are between the steps `front` and the steps `rest` of the same block
  record At (f g : FlowState) (front rest : List Step3) (known : Known) : Type 0 where
    within : f.place.block < length bs
    is : block_of bs f.place.block ≡ front ++ rest
    index : f.place.index ≡ length front
    ended : IsBlock rest
    well : RowIsWell vars cells (length bs) known rest
    place : g.place ≡ f.place
    memory : f.cells ≡ g.cells
    out : f.out ≡ g.out
    running : f.done ≡ false
    too : g.done ≡ false
    pairs : Same known f.pairs g.pairs

  -- both runs are at the same place, or both are done
  data Beside (f g : FlowState) : Type 0 where
    standing : (front rest : List Step3) (known : Known) → At f g front rest known → Beside f g
    over : f.done ≡ true → g.done ≡ true → f.out ≡ g.out → Beside f g

  -- after a step that continues with the next one
  goes : (f g f1 g1 : FlowState) (s : Step3) (front rest : List Step3) (known : Known) →
      At f g front (s ∷ rest) known → IsBlock rest → f1.place ≡ on f.place → g1.place ≡ on g.place →
      f1.cells ≡ g1.cells → f1.out ≡ g1.out → f1.done ≡ false → g1.done ≡ false →
      Same (known_after s known) f1.pairs g1.pairs → Beside f1 g1
  goes f g f1 g1 s front rest known A ended pf pg cs os df dg same =
      let b : f1.place.block ≡ f.place.block = ap (λ (p : Place). p.block) pf in
      standing (front ++ s ∷ []) rest (known_after s known) (record {
        within = subst (λ k. k < length bs) (sym b) A.within;
        is = ap (block_of bs) b ∙ A.is ∙ sym (append_assoc front (s ∷ []) rest);
        index = ap (λ (p : Place). p.index) pf ∙ (let x = A.index in omega (arith, x, length-append front (s ∷ [])));
        ended = ended;
        well = A.well.2;
        place = pg ∙ ap on A.place ∙ sym pf;
        memory = cs;
        out = os;
        running = df;
        too = dg;
        pairs = same;
      })

  -- after a step that jumps to a block
  jumps : (f1 g1 : FlowState) (k : Known) (spare to : ℕ) → IsTarget (length bs) to → KeepsVariables vars k spare →
      f1.place ≡ first to → g1.place ≡ first to → f1.cells ≡ g1.cells → f1.out ≡ g1.out → f1.done ≡ false →
      g1.done ≡ false → Same (forget spare k) f1.pairs g1.pairs → Beside f1 g1
  jumps f1 g1 k spare zero T J pf pg cs os df dg same = absurd (let x = T.no_entry in omega (arith, x))
  jumps f1 g1 k spare (suc t) T J pf pg cs os df dg same =
      let b : f1.place.block ≡ suc t = ap (λ (p : Place). p.block) pf in
      standing [] (block_of bs (suc t)) (known_first vars (suc t)) (record {
        within = subst (λ k. k < length bs) (sym b) T.there;
        is = ap (block_of bs) b;
        index = ap (λ (p : Place). p.index) pf;
        ended = W.ended (suc t) T.there;
        well = W.rows (suc t) T.there;
        place = pg ∙ sym pf;
        memory = cs;
        out = os;
        running = df;
        too = dg;
        pairs = λ q lt.
            let l : q < vars = ltb-true q vars lt in
            same q (ap (λ b. cond b false (k q)) (ne_eqb q spare (λ e. let x = J.free in omega (arith, x, e, l)))
            ∙ J.known q l);
      })

  -- the same word is written to the same cell
  written : (f g : FlowState) (c d v u : ℕ) → f.cells ≡ g.cells → c ≡ d → v ≡ u → slice_set f.cells c v
      ≡ slice_set g.cells d u
  written f g c d v u e i w = ap (λ l. slice_set l c v) e ∙ ap (λ x. slice_set g.cells x v) i
      ∙ ap (slice_set g.cells d) w

  told : (f g : FlowState) (c d v u : ℕ) → f.out ≡ g.out → c ≡ d → v ≡ u →
      (with_cell c v f).out ≡ (with_cell d u g).out
  told f g c d v u e i w =
      ap (λ os. os ++ record { addr = cell_address c; value = v } ∷ []) e
      ∙ ap (λ x. g.out ++ record { addr = cell_address x; value = v } ∷ []) i
      ∙ ap (λ x. g.out ++ record { addr = cell_address d; value = x } ∷ []) w

  -- after an exit, by cases on the word that it tests
  exits : (v : ℕ) (f g : FlowState) (q s to : ℕ) (front rest : List Step3) (known : Known) →
      At f g front (Exit q s to ∷ rest) known → f.pairs q ≡ v → g.pairs q ≡ v →
      Beside (at_zero (f.pairs q) (goes_to to (with_pair s 0 f)) (goes_on (with_pair s 0 f)))
      (at_zero (g.pairs q) (goes_to to g) (goes_on g))
  exits zero f g q s to front rest known A ef eg =
      let f1 = goes_to to (with_pair s 0 f) in
      let g1 = goes_to to g in
      subst (λ x. Beside (at_zero x f1 (goes_on (with_pair s 0 f))) (at_zero (g.pairs q) g1 (goes_on g))) (sym ef)
      (subst (λ x. Beside f1 (at_zero x g1 (goes_on g))) (sym eg)
      (jumps f1 g1 known s to A.well.0 A.well.1.2 refl refl A.memory A.out A.running A.too
      (same_forget known f.pairs g.pairs s 0 A.pairs)))
  exits (suc v) f g q s to front rest known A ef eg =
      let f1 = goes_on (with_pair s 0 f) in
      let g1 = goes_on g in
      subst (λ x. Beside (at_zero x (goes_to to (with_pair s 0 f)) f1) (at_zero (g.pairs q) (goes_to to g) g1)) (sym ef)
      (subst (λ x. Beside f1 (at_zero x (goes_to to g) g1)) (sym eg)
      (goes f g f1 g1 (Exit q s to) front rest known A A.ended refl refl A.memory A.out A.running A.too
      (same_forget known f.pairs g.pairs s 0 A.pairs)))

  -- after any step, by cases on its kind
  by_step : (f g : FlowState) (s : Step3) (front rest : List Step3) (known : Known) → At f g front (s ∷ rest) known →
      Beside (act s f) (plain_act s g)
  by_step f g (Put p w) front rest known A =
      goes f g (act (Put p w) f) (plain_act (Put p w) g) (Put p w) front rest known A A.ended refl refl A.memory A.out
      A.running A.too
      (same_learn known f.pairs g.pairs p w w refl A.pairs)
  by_step f g (Copy p q) front rest known A =
      goes f g (act (Copy p q) f) (plain_act (Copy p q) g) (Copy p q) front rest known A A.ended refl refl A.memory
      A.out A.running A.too
      (same_learn known f.pairs g.pairs p (f.pairs q) (g.pairs q) (A.pairs q A.well.1) A.pairs)
  by_step f g (Op x p q z) front rest known A =
      goes f g (act (Op x p q z) f) (plain_act (Op x p q z) g) (Op x p q z) front rest known A A.ended refl refl
      A.memory A.out A.running A.too
      (same_learn known f.pairs g.pairs p (apply x (f.pairs q) (f.pairs z)) (apply x (g.pairs q) (g.pairs z))
      (ap (λ v. apply x v (f.pairs z)) (A.pairs q A.well.1.0) ∙ ap (apply x (g.pairs q)) (A.pairs z A.well.1.1))
      A.pairs)
  by_step f g (Load p c) front rest known A =
      goes f g (act (Load p c) f) (plain_act (Load p c) g) (Load p c) front rest known A A.ended refl refl A.memory
      A.out A.running A.too
      (same_learn known f.pairs g.pairs p (slice_index f.cells c) (slice_index g.cells c)
      (ap (λ l. slice_index l c) A.memory) A.pairs)
  by_step f g (Store c q z) front rest known A =
      let e = A.pairs q A.well.1.0 in
      goes f g (act (Store c q z) f) (plain_act (Store c q z) g) (Store c q z) front rest known A A.ended refl refl
      (written f g c c (f.pairs q) (g.pairs q) A.memory refl e) (told f g c c (f.pairs q) (g.pairs q) A.out refl e)
      A.running A.too (same_forget known f.pairs g.pairs z 0 A.pairs)
  by_step f g (LoadAt p q begin many) front rest known A =
      let e = A.pairs q A.well.1 in
      goes f g (act (LoadAt p q begin many) f) (plain_act (LoadAt p q begin many) g) (LoadAt p q begin many) front rest
      known A A.ended refl
      refl A.memory A.out A.running A.too
      (same_learn known f.pairs g.pairs p (slice_index f.cells (cell_of_run begin many (f.pairs q)))
      (slice_index g.cells (cell_of_run begin many (g.pairs q)))
      (ap (λ l. slice_index l (cell_of_run begin many (f.pairs q))) A.memory
      ∙ ap (λ v. slice_index g.cells (cell_of_run begin many v)) e) A.pairs)
  by_step f g (StoreAt begin many i q z) front rest known A =
      let d = ap (cell_of_run begin many) (A.pairs i A.well.1.0) in
      let e = A.pairs q A.well.1.1 in
      goes f g (act (StoreAt begin many i q z) f) (plain_act (StoreAt begin many i q z) g) (StoreAt begin many i q z)
      front rest known A
      A.ended refl refl
      (written f g (cell_of_run begin many (f.pairs i)) (cell_of_run begin many (g.pairs i)) (f.pairs q) (g.pairs q)
      A.memory d e)
      (told f g (cell_of_run begin many (f.pairs i)) (cell_of_run begin many (g.pairs i)) (f.pairs q) (g.pairs q) A.out
      d e)
      A.running A.too (same_forget known f.pairs g.pairs z 0 A.pairs)
  by_step f g (Exit q z to) front rest known A =
      exits (f.pairs q) f g q z to front rest known A refl (sym (A.pairs q A.well.1.0))
  by_step f g (Go z to) front rest known A =
      jumps (act (Go z to) f) (plain_act (Go z to) g) known z to A.well.0 A.well.1 refl refl A.memory A.out A.running
      A.too
      (same_forget known f.pairs g.pairs z 0 A.pairs)
  by_step f g Stop front rest known A = over refl refl A.out

  -- after a step of both
  one : (f g : FlowState) → Beside f g → Beside (flow_step bs f) (plain_step bs g)
  one f g (standing front [] known A) = absurd A.ended
  one f g (standing front (s ∷ rest) known A) =
      let at : step_at bs f.place ≡ Some s = there bs f front rest s A.is A.index in
      let to : flow_step bs f ≡ act s f =
      ap (λ b. act_if b (step_at bs f.place) f) A.running ∙ ap (λ x. act_if false x f) at in
      let too : plain_step bs g ≡ plain_act s g =
      ap (λ b. plain_if b (step_at bs g.place) g) A.too
      ∙ ap (λ x. plain_if false x g) (ap (step_at bs) A.place ∙ at) in
      subst (λ x. Beside x (plain_step bs g)) (sym to)
      (subst (λ x. Beside (act s f) x) (sym too) (by_step f g s front rest known A))
  one f g (over d e o) =
      subst (λ b. Beside (act_if b (step_at bs f.place) f) (plain_step bs g)) (sym d)
      (subst (λ b. Beside f (plain_if b (step_at bs g.place) g)) (sym e) (over d e o))

  -- after k steps of both
  many_steps : (k : ℕ) (f g : FlowState) → Beside f g → Beside (steps bs k f) (plain_steps bs k g)
  many_steps zero f g h = h
  many_steps (suc k) f g h = many_steps k (flow_step bs f) (plain_step bs g) (one f g h)

  -- two runs that agree
  pub record Alike (f g : FlowState) : Type 0 where
    pub done : f.done ≡ g.done
    pub out : f.out ≡ g.out

  alike_of : (f g : FlowState) → Beside f g → Alike f g
  alike_of f g (standing front rest known A) = record { done = A.running ∙ sym A.too; out = A.out }
  alike_of f g (over d e o) = record { done = d ∙ sym e; out = o }

  -- so they do from the start
  pub runs_alike : (words : List ℕ) (k : ℕ) → Alike (flow_run bs words k) (plain_run bs words k)
  runs_alike words k =
      alike_of (flow_run bs words k) (plain_run bs words k) (many_steps k (flow_start words) (flow_start words)
      (standing [] (block_of bs 0) no_pair (record {
        within = W.some;
        is = refl;
        index = refl;
        ended = W.ended 0 W.some;
        well = W.rows 0 W.some;
        place = refl;
        memory = refl;
        out = refl;
        running = refl;
        too = refl;
        pairs = λ q e. refl;
      })))
