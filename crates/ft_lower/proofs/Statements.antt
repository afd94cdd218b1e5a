-- The flow follows the program through its statements.
use Rattle.std.proofs.Common.{◌≡◌, ℕ, zero, suc, ◌+◌, ◌*◌, ◌<◌, ◌≤◌, List, [], ◌∷◌, ◌++◌, length, Some, inl, inr, refl}
use Rattle.std.proofs.Common.{sym, ap, ◌∙◌, subst, arith, slice_index, slice_set}
use Rattle.std.proofs.lemmas.Bool.{cases_eq}
use Rattle.std.proofs.lemmas.List.{get_or-set_same, get_or-set_other, length-set}
use Rattle.ft_scope.specs.declared.slot.Slot.{Slot}
use Rattle.ft_scope.specs.declared.slot.Slot.TheVariants.{Cell, Var, Run}
use Rattle.ft_syntax.specs.Plain.{Expression, StatementList, none, assign, assign_at, loop, choose}
use Rattle.ft_syntax.specs.Size.{expression_nodes}
use Rattle.ft_scope.specs.Size.{ExpressionFits, StatementsFit, SlotFits}
use Rattle.ft_isa.specs.Words.{cell_address}
use Rattle.ft_meaning.specs.Meaning.{State, Outcome, Ended, Cut, state_of, cell_of_run, value, evaluated}
use Rattle.ft_meaning.specs.Meaning.{evaluated_both, assigned, with_left, then_do, at_zero, with_turn, loops, run}
use Rattle.ft_meaning.proofs.Longer.{run_grows, loops_grows}
use Rattle.ft_lower.specs.declared.step3.Step3.TheVariants.{Exit, Go}
use Rattle.ft_lower.specs.Flow.{Blocks, Place, FlowState, on, first, goes_on, goes_to, with_pair, with_cell, act}
use Rattle.ft_lower.specs.Flow.{step_at}
use Rattle.ft_lower.specs.Lowered.{expression_steps, write, block_count, statement_steps}
use Rattle.ft_lower.proofs.Runs.{Reaches, reach_trans, next, after, after-append, HasAt, has_front, has_back}
use Rattle.ft_lower.proofs.EndBlocks.{expression_block, write_block, statements_block}
use Rattle.ft_lower.proofs.Expressions.{Like, moved, other_pair, same_pair, put_like, put_first, reach_act, Valued}
use Rattle.ft_lower.proofs.Expressions.{expression_run}
use Rattle.ft_lower.proofs.Ends.{EndsAt, CutsAt, Runs, prepend, jump_on, then_run, ends_at, like_evaluated, like_both}
use Rattle.ft_lower.proofs.Ends.{like_left}

module _ (bs : Blocks) (n m : ℕ) where
  -- the flow has taken the steps of a test: those of an expression, and an exit
  record Tested (e : Expression Slot) (p : Place) (s : State) (f : FlowState) : Type 0 where
    end : FlowState
    reaches : Reaches bs (expression_nodes e + 1) f end
    like : Like n p (evaluated e s) end

  -- the flow takes the steps of a test, given what its exit does
  tested_by : (e : Expression Slot) (to : ℕ) (p q : Place) (s : State) (f g : FlowState) →
      (V : Valued bs n (after p (expression_steps (n + 1) e)) (n + 1) e s f) →
      step_at bs (after p (expression_steps (n + 1) e)) ≡ Some (Exit (n + 1) n to) → act (Exit (n + 1) n to) V.end ≡ g →
      Like n q s g → Tested e q s f
  tested_by e to p q s f g V at eq l = record {
    end = g;
    reaches = reach_trans bs (expression_nodes e) 1 f V.end g V.reaches
        (reach_act bs n (after p (expression_steps (n + 1) e)) s V.end g (Exit (n + 1) n to) V.like at eq);
    like = like_evaluated n q e s g l;
  }

  -- if the value of the test is 0, the exit is taken
  tested_zero : (e : Expression Slot) (to : ℕ) (p : Place) (s : State) (f : FlowState) →
      Valued bs n (after p (expression_steps (n + 1) e)) (n + 1) e s f →
      step_at bs (after p (expression_steps (n + 1) e))
      ≡ Some (Exit (n + 1) n to) → value e s.vars s.cells ≡ 0 → Tested e (first to) s f
  tested_zero e to p s f V at z =
      let a = goes_to to (with_pair n 0 V.end) in
      tested_by e to p (first to) s f a V at (ap (λ v. at_zero v a (goes_on (with_pair n 0 V.end))) (V.value ∙ z))
      (put_first n n 0 to _ s V.end (omega arith) V.like)

  -- if the value is not 0, the flow goes on
  tested_suc : (e : Expression Slot) (to v : ℕ) (p : Place) (s : State) (f : FlowState) →
      Valued bs n (after p (expression_steps (n + 1) e)) (n + 1) e s f →
      step_at bs (after p (expression_steps (n + 1) e))
      ≡ Some (Exit (n + 1) n to) → value e s.vars s.cells ≡ suc v →
      Tested e (on (after p (expression_steps (n + 1) e))) s f
  tested_suc e to v p s f V at z =
      let a = goes_on (with_pair n 0 V.end) in
      tested_by e to p (on (after p (expression_steps (n + 1) e))) s f a V at
      (ap (λ v. at_zero v (goes_to to (with_pair n 0 V.end)) a) (V.value ∙ z))
      (put_like n n 0 _ s V.end (omega arith) V.like)

  -- ASSIGNMENTS

  -- after a variable is set, the pairs still hold the variables
  set_var : (x y v : ℕ) (vs : List ℕ) (g : FlowState) → x < length vs → g.pairs y ≡ slice_index vs y →
      (with_pair x v g).pairs y ≡ slice_index (slice_set vs x v) y
  set_var x y v vs g h old =
      elim (cases_eq y x) [
        | inl e ↦ subst (λ z. (with_pair x v g).pairs z ≡ slice_index (slice_set vs x v) z) (sym e)
            (same_pair x v g ∙ sym (get_or-set_same vs x v 0 h))
        | inr ne ↦ other_pair x v g y ne ∙ old
            ∙ sym (get_or-set_other vs x y v 0 ne)
      ]

  -- setting a cell keeps the states alike
  set_cell : (c v : ℕ) (p : Place) (s : State) (f : FlowState) → Like n p s f →
      Like n (on p) (assigned (Cell c) v s) (goes_on (with_pair n 0 (with_cell c v f)))
  set_cell c v p s f l = record {
    vars = λ y h. other_pair n 0 f y (λ q. omega arith) ∙ l.vars y h;
    many = l.many;
    cells = ap (λ cs. slice_set cs c v) l.cells;
    place = ap on l.place;
    out = ap (λ o. o ++ record { addr = cell_address c; value = v } ∷ []) l.out;
    running = l.running;
  }

  -- the step that writes has the effect of an assignment
  written : (to : Slot) (v : ℕ) (e : Expression Slot) (p : Place) (s : State) (f : FlowState) → SlotFits m n to →
      f.pairs (n + 1) ≡ v → Like n p s f → Like n (next (write n to) p) (assigned to v (evaluated e s))
      (act (write n to) f)
  written (Var x) v e p s f ok is l =
      let g = goes_on (with_pair x v f) in
      let r : Like n (on p) (assigned (Var x) v (evaluated e s)) g = record {
        vars = λ y h. set_var x y v s.vars f (omega (arith, l.many)) (l.vars y h);
        many = length-set s.vars x v ∙ l.many;
        cells = l.cells;
        place = ap on l.place;
        out = l.out;
        running = l.running;
      } in
      subst (λ w. Like n (on p) (assigned (Var x) v (evaluated e s)) (goes_on (with_pair x w f))) (sym is) r
  written (Run c k) v e p s f ok is l = absurd ok
  written (Cell c) v e p s f ok is l =
      subst (λ w. Like n (on p) (assigned (Cell c) v (evaluated e s)) (goes_on (with_pair n 0 (with_cell c w f))))
      (sym is)
      (set_cell c v p (evaluated e s) f (like_evaluated n p e s f l))

  -- likewise for a write with an index: it assigns to the cell that the index selects
  written_at : (c k w v : ℕ) (i e : Expression Slot) (p : Place) (s : State) (f : FlowState) → f.pairs (n + 1) ≡ w →
      f.pairs (n + 2) ≡ v → Like n p s f → Like n (on p) (assigned (Cell (cell_of_run c k w)) v (evaluated_both i e s))
      (act (write n (Run c k)) f)
  written_at c k w v i e p s f named is l =
      let to = cell_of_run c k w in
      subst (λ x. Like n (on p) (assigned (Cell to) v (evaluated_both i e s))
      (goes_on (with_pair n 0 (with_cell (cell_of_run c k x) (f.pairs (n + 2)) f)))) (sym named)
      (subst (λ x. Like n (on p) (assigned (Cell to) v (evaluated_both i e s))
      (goes_on (with_pair n 0 (with_cell to x f)))) (sym is)
      (set_cell to v p (evaluated_both i e s) f (like_both n p i e s f l)))

  -- an assignment that does work w takes at most 2w steps
  work_of : (to : Slot) (v : ℕ) (e : Expression Slot) (s : State) →
      expression_nodes e + 1 + 0 + 2 * s.work ≤ 0 + 2 * (assigned to v (evaluated e s)).work
  work_of (Var x) v e s = omega arith
  work_of (Cell c) v e s = omega arith
  work_of (Run c k) v e s = omega arith

  -- an assignment uses at most as many turns as it takes steps
  left_of : (to : Slot) (v : ℕ) (e : Expression Slot) (s : State) →
      s.left ≤ (assigned to v (evaluated e s)).left + (expression_nodes e + 1)
  left_of (Var x) v e s = omega arith
  left_of (Cell c) v e s = omega arith
  left_of (Run c k) v e s = omega arith

  -- if each side of a choice leaves at most as many turns as there were before it, so does the choice
  zero_less : (v : ℕ) (s : State) (a b : Outcome) → (state_of a).left ≤ s.left → (state_of b).left ≤ s.left →
      (state_of (at_zero v a b)).left ≤ s.left
  zero_less zero s a b p q = p
  zero_less (suc v) s a b p q = q

  -- CHOICES

  -- a test, followed by one of two sides and that side's jump, runs as a choice
  choose_run : (v : ℕ) (e : Expression Slot) (to end : ℕ) (p p3 p5 : Place) (s : State) (f : FlowState)
      (ra rb : Outcome) → value e s.vars s.cells ≡ v →
      Valued bs n (after p (expression_steps (n + 1) e)) (n + 1) e s f →
      step_at bs (after p (expression_steps (n + 1) e)) ≡ Some (Exit (n + 1) n to) → step_at bs p3 ≡ Some (Go n end) →
      step_at bs p5 ≡ Some (Go n end) → ((g : FlowState) →
      Like n (on (after p (expression_steps (n + 1) e))) (evaluated e s) g → Runs bs n 0 p3 (evaluated e s) g ra) →
      ((g : FlowState) → Like n (first to) (evaluated e s) g → Runs bs n 0 p5 (evaluated e s) g rb) →
      Runs bs n 0 (first end) s f (at_zero v rb ra)
  choose_run zero e to end p p3 p5 s f ra rb is V at at3 at5 a b =
      let T = tested_zero e to p s f V at is in
      jump_on bs n 0 end p5 s f rb at5 (prepend bs n 1 0 (expression_nodes e + 1) p5 s (evaluated e s) f T.end rb
      T.reaches (omega arith) (omega arith) (b T.end T.like))
  choose_run (suc v) e to end p p3 p5 s f ra rb is V at at3 at5 a b =
      let T = tested_suc e to v p s f V at is in
      jump_on bs n 0 end p3 s f ra at3 (prepend bs n 1 0 (expression_nodes e + 1) p3 s (evaluated e s) f T.end ra
      T.reaches (omega arith) (omega arith) (a T.end T.like))

  -- LOOPS

  module _ (e : Expression Slot) (body : State → Outcome) (head out : ℕ) (p4 : Place) (ok : ExpressionFits m n e)
      (has : HasAt bs (first head) (expression_steps (n + 1) e))
      (at : step_at bs (after (first head) (expression_steps (n + 1) e))
      ≡ Some (Exit (n + 1) n out)) (at4 : step_at bs p4
      ≡ Some (Go n head)) (less : (s : State) → (state_of (body s)).left ≤ s.left)
      (body_run : (s : State) (g : FlowState) → Like n (on (after (first head) (expression_steps (n + 1) e))) s g →
      Runs bs n 0 p4 s g (body s)) where
    cut_run : (v : ℕ) (s : State) (f : FlowState) → s.left ≡ 0 → value e s.vars s.cells ≡ suc v →
        Valued bs n (after (first head) (expression_steps (n + 1) e)) (n + 1) e s f → CutsAt bs 1 s f (evaluated e s)
    cut_run v s f z is V = record {
      end = V.end;
      taken = expression_nodes e;
      reaches = V.reaches;
      few = omega arith;
      many = omega arith;
      out = V.like.out;
      running = V.like.running;
    }

    end_run : (s : State) (f : FlowState) → value e s.vars s.cells ≡ 0 →
        Valued bs n (after (first head) (expression_steps (n + 1) e)) (n + 1) e s f →
        EndsAt bs n 1 (first out) s f (evaluated e s)
    end_run s f is V = let T = tested_zero e out (first head) s f V at is in
        record {
          end = T.end;
          taken = expression_nodes e + 1;
          reaches = T.reaches;
          few = omega arith;
          many = omega arith;
          like = T.like;
        }

    -- an iteration follows the program if the iterations after it do
    turn_run : (l w : ℕ) (s : State) (f : FlowState) (rest : State → Outcome) → l ≡ s.left → value e s.vars s.cells
        ≡ suc w → Valued bs n (after (first head) (expression_steps (n + 1) e)) (n + 1) e s f →
        ((t : State) (g : FlowState) → suc t.left ≤ l → Like n (first head) t g → Runs bs n 1 (first out) t g (rest t))
        →
        Runs bs n 1 (first out) s f (with_turn l (evaluated e s) (λ t. then_do (body t) rest))
    turn_run zero w s f rest z is V k = cut_run w s f (sym z) is V
    turn_run (suc l) w s f rest z is V k =
        let T = tested_suc e out w (first head) s f V at is in
        let s1 = with_left l (evaluated e s) in
        let b = body_run s1 T.end (like_left n l _ (evaluated e s) T.end T.like) in
        prepend bs n 1 0 (expression_nodes e + 1) (first out) s s1 f T.end (then_do (body s1) rest) T.reaches
        (omega arith) (omega arith) (then_run bs n 0 p4 (first out) s1 T.end (body s1) rest b (less s1)
        (λ t g le like.
        let g1 = goes_to head (with_pair n 0 g) in
        prepend bs n 0 1 1 (first out) t t g g1 (rest t) (reach_act bs n p4 t g g1 (Go n head) like at4 refl)
        (omega arith) (omega arith) (k t g1 (omega arith) (put_first n n 0 head p4 t g (omega arith) like))))

    test_run : (v : ℕ) (s : State) (f : FlowState) (r : Outcome) → value e s.vars s.cells ≡ v →
        Valued bs n (after (first head) (expression_steps (n + 1) e)) (n + 1) e s f →
        ((w : ℕ) → value e s.vars s.cells ≡ suc w → Runs bs n 1 (first out) s f r) →
        Runs bs n 1 (first out) s f (at_zero v (Ended (evaluated e s)) r)
    test_run zero s f r is V k = end_run s f is V
    test_run (suc v) s f r is V k = k v is

    turns_run : (k : ℕ) (s : State) (f : FlowState) → s.left ≤ k → Like n (first head) s f →
        Runs bs n 1 (first out) s f (loops k e body s)
    turns_run zero s f le l =
        let V = expression_run bs n m s e (n + 1) (first head) f (omega arith) ok has l in
        test_run (value e s.vars s.cells) s f (Cut (evaluated e s)) refl V (λ w is. cut_run w s f (omega arith) is V)
    turns_run (suc k) s f le l =
        let V = expression_run bs n m s e (n + 1) (first head) f (omega arith) ok has l in
        test_run (value e s.vars s.cells) s f _ refl V (λ w is.
        turn_run s.left w s f (loops k e body) refl is V (λ t g lt like. turns_run k t g (omega arith) like))

  -- STATEMENTS

  -- the steps of statements follow the statements' run
  pub statements_run : (st : StatementList Slot) (b : ℕ) (p : Place) (s : State) (f : FlowState) → p.block ≡ b →
      StatementsFit m n st → HasAt bs p (statement_steps n b st) → Like n p s f →
      Runs bs n 0 (after p (statement_steps n b st)) s f (run st s)
  statements_run none b p s f e ok has l = record {
    end = f;
    taken = 0;
    reaches = record { is = refl };
    few = omega arith;
    many = omega arith;
    like = l;
  }
  statements_run (assign to x rest) b p s f e ok has l =
      let ce = expression_steps (n + 1) x in
      let v = value x s.vars s.cells in
      let i = write n to in
      let p1 = after p ce in
      let p2 = next i p1 in
      let s1 = assigned to v (evaluated x s) in
      let V = expression_run bs n m s x (n + 1) p f (omega arith) ok.1 (has_front bs p ce _ has) l in
      let h = has_back bs p ce _ has in
      let g = act i V.end in
      let W = written to v x p1 s V.end ok.0 V.value V.like in
      let to_g = reach_trans bs (expression_nodes x) 1 f V.end g V.reaches
      (reach_act bs n p1 s V.end g i V.like h.0 refl) in
      let R = statements_run rest b p2 s1 g (write_block n to p1 ∙ expression_block x (n + 1) p ∙ e) ok.2 h.1 W in
      ends_at bs n 0 _ _ s f (run rest s1) (sym (after-append p ce (i ∷ statement_steps n b rest)))
      (prepend bs n 0 0 (expression_nodes x + 1) _ s s1 f g (run rest s1) to_g (work_of to v x s) (left_of to v x s)
      R)
  statements_run (assign_at (Var y) j x rest) b p s f e ok has l = absurd ok.0
  statements_run (assign_at (Cell c) j x rest) b p s f e ok has l = absurd ok.0
  statements_run (assign_at (Run c k) j x rest) b p s f e ok has l =
      let cj = expression_steps (n + 1) j in
      let cx = expression_steps (n + 2) x in
      let w = value j s.vars s.cells in
      let v = value x s.vars s.cells in
      let i = write n (Run c k) in
      let p1 = after p cj in
      let p2 = after p1 cx in
      let s1 = assigned (Cell (cell_of_run c k w)) v (evaluated_both j x s) in
      let J = expression_run bs n m s j (n + 1) p f (omega arith) ok.1 (has_front bs p cj _ has) l in
      let h = has_back bs p cj _ has in
      let V = expression_run bs n m s x (n + 2) p1 J.end (omega arith) ok.2 (has_front bs p1 cx _ h) J.like in
      let h2 = has_back bs p1 cx _ h in
      let g = act i V.end in
      let W = written_at c k w v j x p2 s V.end (V.lower (n + 1) (omega arith) ∙ J.value) V.value V.like in
      let to_end = reach_trans bs (expression_nodes j) (expression_nodes x) f J.end V.end J.reaches V.reaches in
      let to_g = reach_trans bs (expression_nodes j + expression_nodes x) 1 f V.end g to_end
      (reach_act bs n p2 s V.end g i V.like h2.0 refl) in
      let R = statements_run rest b (on p2) s1 g (expression_block x (n + 2) p1 ∙ expression_block j (n + 1) p
      ∙ e) ok.3 h2.1 W in
      ends_at bs n 0 _ _ s f (run rest s1) (sym (after-append p cj _
      ∙ after-append p1 cx (i ∷ statement_steps n b rest)))
      (prepend bs n 0 0 (expression_nodes j + expression_nodes x + 1) _ s s1 f g (run rest s1) to_g (omega arith)
      (omega arith) R)
  statements_run (loop x body rest) b p s f e ok has l =
      let head = b + 1 in
      let out = b + 2 + block_count body in
      let ce = expression_steps (n + 1) x in
      let cb = statement_steps n head body in
      let cr = statement_steps n out rest in
      let whole = ce ++ (Exit (n + 1) n out ∷ (cb ++ (Go n head ∷ cr))) in
      let hd : suc p.block ≡ head = omega arith in
      let p1 = first head in
      let p2 = after p1 ce in
      let p3 = on p2 in
      let p4 = after p3 cb in
      let p5 = first (suc p4.block) in
      let g = goes_to head (with_pair n 0 f) in
      let h1 = subst (λ q. HasAt bs (first q) whole) hd has.1 in
      let h2 = has_back bs p1 ce _ h1 in
      let h4 = has_back bs p3 cb _ h2.1 in
      let e3 : p3.block ≡ head = expression_block x (n + 1) p1 in
      let e4 : p4.block ≡ head + block_count body = statements_block body n head p3 e3 in
      let e5 : p5.block ≡ out = omega arith in
      let l1 = put_first n n 0 head p s f (omega arith) l in
      let less = λ (t : State). (run_grows body t).left in
      let L = turns_run x (run body) head out p4 ok.0 (has_front bs p1 ce _ h1) h2.0 h4.0 less (λ t h like.
      statements_run body head p3 t h e3 ok.1 (has_front bs p3 cb _ h2.1) like) s.left s g (omega arith) l1 in
      let L0 = prepend bs n 0 1 1 (first out) s s f g (loops s.left x (run body) s)
      (reach_act bs n p s f g (Go n head) l has.0 refl) (omega arith) (omega arith) L in
      let L5 = ends_at bs n 0 (first out) p5 s f (loops s.left x (run body) s) (ap first (sym e5)) L0 in
      let all : after p5 cr ≡ after p (Go n head ∷ whole) = sym (ap (λ q. after (first q) whole) hd
      ∙ after-append p1 ce _ ∙ after-append p3 cb _) in
      let few = (loops_grows s.left x (run body) s (run_grows body)).left in
      ends_at bs n 0 _ _ s f _ all (then_run bs n 0 p5 _ s f (loops s.left x (run body) s) (run rest) L5 few
      (λ t h le like. statements_run rest out p5 t h e5 ok.2 h4.1 like))
  statements_run (choose x st sf rest) b p s f e ok has l =
      let k = b + 2 + block_count st + block_count sf in
      let ce = expression_steps (n + 1) x in
      let ca = statement_steps n b st in
      let cb = statement_steps n (b + 1 + block_count st) sf in
      let cr = statement_steps n k rest in
      let p1 = after p ce in
      let p2 = on p1 in
      let p3 = after p2 ca in
      let p4 = first (suc p3.block) in
      let p5 = after p4 cb in
      let p6 = first (suc p5.block) in
      let to4 = b + 1 + block_count st in
      let s1 = evaluated x s in
      let V = expression_run bs n m s x (n + 1) p f (omega arith) ok.0 (has_front bs p ce _ has) l in
      let h1 = has_back bs p ce _ has in
      let h3 = has_back bs p2 ca _ h1.1 in
      let h5 = has_back bs p4 cb _ h3.1 in
      let e2 : p2.block ≡ b = expression_block x (n + 1) p ∙ e in
      let e3 : p3.block ≡ b + block_count st = statements_block st n b p2 e2 in
      let e4 : p4.block ≡ to4 = omega arith in
      let e5 : p5.block ≡ to4 + block_count sf = statements_block sf n to4 p4 e4 in
      let e6 : p6.block ≡ k = omega arith in
      let C = choose_run (value x s.vars s.cells) x to4 k p p3 p5 s f (run st s1) (run sf s1) refl V h1.0 h3.0 h5.0
      (λ g like. statements_run st b p2 s1 g e2 ok.1 (has_front bs p2 ca _ h1.1) like) (λ g like.
      statements_run sf to4 p4 s1 g e4 ok.2 (has_front bs p4 cb _ h3.1)
      (moved n (first to4) p4 s1 g (ap first (sym e4)) like)) in
      let C6 = ends_at bs n 0 (first k) p6 s f _ (ap first (sym e6)) C in
      let all : after p6 cr ≡ after p (statement_steps n b (choose x st sf rest)) =
      sym (after-append p ce _ ∙ after-append p2 ca _ ∙ after-append p4 cb _) in
      ends_at bs n 0 _ _ s f _ all (then_run bs n 0 p6 _ s f (at_zero (value x s.vars s.cells) (run sf s1) (run st s1))
      (run rest) C6 (zero_less (value x s.vars s.cells) s1 (run sf s1) (run st s1) (run_grows sf s1).left
      (run_grows st s1).left) (λ t g le like. statements_run rest k p6 t g e6 ok.3 h5.1 like))
