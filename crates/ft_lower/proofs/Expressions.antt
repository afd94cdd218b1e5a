-- What the steps of an expression do.
use Rattle.std.proofs.Common.{◌≡◌, ◌≢◌, ℕ, ◌+◌, ◌<◌, ◌≤◌, false, cond, [], ◌∷◌, ◌++◌, length, Some, refl, sym, ap, ◌∙◌}
use Rattle.std.proofs.Common.{subst, arith, slice_index}
use Rattle.std.proofs.lemmas.Bool.{ne_eqb, eq-eqb}
use Rattle.ft_isa.specs.Words.{apply}
use Rattle.ft_scope.specs.declared.slot.Slot.{Slot}
use Rattle.ft_scope.specs.declared.slot.Slot.TheVariants.{Cell, Var, Run}
use Rattle.ft_syntax.specs.Plain.{Expression, literal, name, indexed, operation}
use Rattle.ft_syntax.specs.Size.{expression_nodes}
use Rattle.ft_scope.specs.Size.{ExpressionFits}
use Rattle.ft_meaning.specs.Meaning.{State, cell_of_run, value}
use Rattle.ft_lower.specs.declared.step3.Step3.{Step3}
use Rattle.ft_lower.specs.declared.step3.Step3.TheVariants.{Put, Copy, Op, Load, LoadAt}
use Rattle.ft_lower.specs.Flow.{Blocks, Place, FlowState, on, first, goes_on, goes_to, with_pair, act, step_at}
use Rattle.ft_lower.specs.Lowered.{expression_steps}
use Rattle.ft_lower.proofs.Runs.{Reaches, reach_trans, reach_one, after, after-append, HasAt, has_front, has_back}

-- the flow is at place p in a state like the program's: among other things, the first n pairs hold the variables
pub record Like (n : ℕ) (p : Place) (s : State) (f : FlowState) : Type 0 where
  pub vars : (x : ℕ) → x < n → f.pairs x ≡ slice_index s.vars x
  pub many : length s.vars ≡ n
  pub cells : f.cells ≡ s.cells
  pub place : f.place ≡ p
  pub out : f.out ≡ s.out
  pub running : f.done ≡ false

-- `Like` holds at any equal place
pub moved : (n : ℕ) (p q : Place) (s : State) (f : FlowState) → p ≡ q → Like n p s f → Like n q s f
moved n p q s f e l = subst (λ r. Like n r s f) e l

-- pairs other than t keep their words
pub other_pair : (t v : ℕ) (f : FlowState) (q : ℕ) → q ≢ t → (with_pair t v f).pairs q ≡ f.pairs q
other_pair t v f q ne = ap (λ b. cond b v (f.pairs q)) (ne_eqb q t ne)

-- the pair itself holds the word
pub same_pair : (t v : ℕ) (f : FlowState) → (with_pair t v f).pairs t ≡ v
same_pair t v f = ap (λ b. cond b v (f.pairs t)) (eq-eqb t t refl)

-- writing a pair that holds no variable keeps the states alike
pub put_like : (n t v : ℕ) (p : Place) (s : State) (f : FlowState) → n ≤ t → Like n p s f →
    Like n (on p) s (goes_on (with_pair t v f))
put_like n t v p s f le l = record {
  vars = λ x h. other_pair t v f x (λ e. omega arith) ∙ l.vars x h;
  many = l.many;
  cells = l.cells;
  place = ap on l.place;
  out = l.out;
  running = l.running;
}

-- likewise if the flow then goes to another block
pub put_first : (n t v b : ℕ) (p : Place) (s : State) (f : FlowState) → n ≤ t → Like n p s f →
    Like n (first b) s (goes_to b (with_pair t v f))
put_first n t v b p s f le l = record {
  vars = λ x h. other_pair t v f x (λ e. omega arith) ∙ l.vars x h;
  many = l.many;
  cells = l.cells;
  place = refl;
  out = l.out;
  running = l.running;
}

-- a step whose effect is known leads to its result in one step of the run
pub reach_act : (bs : Blocks) (n : ℕ) (p : Place) (s : State) (f g : FlowState) (i : Step3) → Like n p s f →
    step_at bs p ≡ Some i → act i f ≡ g → Reaches bs 1 f g
reach_act bs n p s f g i l at e = subst (λ h. Reaches bs 1 f h) e (reach_one bs f i l.running (ap (step_at bs) l.place
    ∙ at))

-- once the expression is computed, pair t holds its value, and the pairs below are unchanged
pub record Valued (bs : Blocks) (n : ℕ) (p : Place) (t : ℕ) (e : Expression Slot) (s : State) (f : FlowState) : Type 0
  where
    pub end : FlowState
    pub reaches : Reaches bs (expression_nodes e) f end
    pub like : Like n p s end
    pub value : end.pairs t ≡ value e s.vars s.cells
    pub lower : (q : ℕ) → q < t → end.pairs q ≡ f.pairs q

module _ (bs : Blocks) (n m : ℕ) (s : State) where
  -- a step that puts an expression's value into pair t computes the expression
  one : (t v : ℕ) (e : Expression Slot) (i : Step3) (p : Place) (f : FlowState) → n ≤ t → expression_nodes e ≡ 1 →
      step_at bs p ≡ Some i → act i f ≡ goes_on (with_pair t v f) → v ≡ value e s.vars s.cells → Like n p s f →
      Valued bs n (on p) t e s f
  one t v e i p f le k at eq is l = record {
    end = goes_on (with_pair t v f);
    reaches = subst (λ j. Reaches bs j f (goes_on (with_pair t v f))) (sym k)
        (reach_act bs n p s f (goes_on (with_pair t v f)) i l at eq);
    like = put_like n t v p s f le l;
    value = same_pair t v f ∙ is;
    lower = λ q h. other_pair t v f q (λ e. omega arith);
  }

  -- an expression's steps leave its word in pair t, in as many steps as it has nodes
  pub expression_run : (e : Expression Slot) (t : ℕ) (p : Place) (f : FlowState) → n ≤ t → ExpressionFits m n e →
      HasAt bs p (expression_steps t e) → Like n p s f → Valued bs n (after p (expression_steps t e)) t e s f
  expression_run (literal w) t p f le ok has l = one t w (literal w) (Put t w) p f le refl has.0 refl refl l
  expression_run (name (Var x)) t p f le ok has l = one t (f.pairs x) (name (Var x)) (Copy t x) p f le refl has.0 refl
      (l.vars x ok) l
  expression_run (name (Cell c)) t p f le ok has l = one t (slice_index f.cells c) (name (Cell c)) (Load t c) p f le
      refl has.0 refl (ap (λ cs. slice_index cs c) l.cells) l
  expression_run (name (Run c k)) t p f le ok has l = absurd ok
  expression_run (indexed (Var x) e) t p f le ok has l = absurd ok.0
  expression_run (indexed (Cell c) e) t p f le ok has l = absurd ok.0
  expression_run (indexed (Run c k) e) t p f le ok has l =
      let ce = expression_steps t e in
      let i = LoadAt t t c k in
      let p1 = after p ce in
      let E = expression_run e t p f le ok.1 (has_front bs p ce (i ∷ []) has) l in
      let w = E.end.pairs t in
      let v = slice_index E.end.cells (cell_of_run c k w) in
      let g = goes_on (with_pair t v E.end) in
      let last : on p1 ≡ after p (ce ++ i ∷ []) = sym (after-append p ce (i ∷ [])) in
      record {
        end = g;
        reaches = reach_trans bs (expression_nodes e) 1 f E.end g E.reaches
            (reach_act bs n p1 s E.end g i E.like (has_back bs p ce (i ∷ []) has).0 refl);
        like = moved n (on p1) _ s g last (put_like n t v p1 s E.end le E.like);
        value = same_pair t v E.end ∙ ap (λ cs. slice_index cs (cell_of_run c k w)) E.like.cells
            ∙ ap (λ x. slice_index s.cells (cell_of_run c k x)) E.value;
        lower = λ q h. other_pair t v E.end q (λ e. omega arith) ∙ E.lower q h;
      }
  expression_run (operation o a b) t p f le ok has l =
      let ca = expression_steps t a in
      let cb = expression_steps (t + 1) b in
      let i = Op o t t (t + 1) in
      let p1 = after p ca in
      let p2 = after p1 cb in
      let rest = has_back bs p ca (cb ++ i ∷ []) has in
      let A = expression_run a t p f le ok.0 (has_front bs p ca (cb ++ i ∷ []) has) l in
      let B = expression_run b (t + 1) p1 A.end (omega arith) ok.1 (has_front bs p1 cb (i ∷ []) rest) A.like in
      let v = apply o (B.end.pairs t) (B.end.pairs (t + 1)) in
      let g = goes_on (with_pair t v B.end) in
      let at = (has_back bs p1 cb (i ∷ []) rest).0 in
      let last : on p2 ≡ after p (ca ++ (cb ++ i ∷ [])) = sym (after-append p ca (cb ++ i ∷ [])
      ∙ after-append p1 cb (i ∷ [])) in
      record {
        end = g;
        reaches = reach_trans bs (expression_nodes a + expression_nodes b) 1 f B.end g
            (reach_trans bs (expression_nodes a) (expression_nodes b) f A.end B.end A.reaches B.reaches)
            (reach_act bs n p2 s B.end g i B.like at refl);
        like = moved n (on p2) _ s g last (put_like n t v p2 s B.end le B.like);
        value = same_pair t v B.end ∙ ap (λ x. apply o x (B.end.pairs (t + 1))) (B.lower t (omega arith) ∙ A.value)
            ∙ ap (apply o (value a s.vars s.cells)) B.value;
        lower = λ q h. other_pair t v B.end q (λ e. omega arith) ∙ B.lower q (omega arith) ∙ A.lower q h;
      }
