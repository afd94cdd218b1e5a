-- A turn of a loop, and consecutive statements.
use Rattle.std.proofs.Common.{◌≡◌, ◌≢◌, ℕ, zero, suc, ◌≤◌, refl, sym, ap, ◌∙◌, subst, arith}
use Rattle.ft_syntax.specs.Plain.{Expression, StatementList, none, assign, assign_at, loop, choose, follow}
use Rattle.ft_scope.specs.declared.slot.Slot.{Slot}
use Rattle.ft_scope.specs.declared.slot.Slot.TheVariants.{Cell}
use Rattle.ft_scope.specs.Size.{ExpressionFits, StatementsFit}
use Rattle.ft_meaning.specs.Meaning.{State, Outcome, Ended, Cut, indexed_cell, value, evaluated, evaluated_both}
use Rattle.ft_meaning.specs.Meaning.{assigned, with_left, then_do, at_zero, with_turn, loops, run}

pub at_value : {A : Type 0} (v : ℕ) (a b : A) → v ≢ 0 → at_zero v a b ≡ b
at_value zero a b ne = absurd (ne refl)
at_value (suc v) a b ne = refl

module _ (e : Expression Slot) (body : State → Outcome) (s : State) where
  -- a test that is 0 ends the loop
  pub loop_zero : (m : ℕ) → value e s.vars s.cells ≡ 0 → loops m e body s ≡ Ended (evaluated e s)
  loop_zero zero z = ap (λ v. at_zero v (Ended (evaluated e s)) (Cut (evaluated e s))) z
  loop_zero (suc m) z = ap (λ v. at_zero v (Ended (evaluated e s)) (with_turn s.left (evaluated e s) (λ s1.
      then_do (body s1) (loops m e body)))) z

  -- a test that is not 0, with no turn left, cuts the run
  pub loop_cut : (m : ℕ) → value e s.vars s.cells ≢ 0 → s.left ≡ 0 → loops m e body s ≡ Cut (evaluated e s)
  loop_cut zero ne z = at_value (value e s.vars s.cells) (Ended (evaluated e s)) (Cut (evaluated e s)) ne
  loop_cut (suc m) ne z =
      let go = λ (s1 : State). then_do (body s1) (loops m e body) in
      at_value (value e s.vars s.cells) (Ended (evaluated e s)) (with_turn s.left (evaluated e s) go) ne
      ∙ ap (λ l. with_turn l (evaluated e s) go) z

  -- otherwise, the loop takes one turn and then runs again
  pub loop_turn : (m l : ℕ) → value e s.vars s.cells ≢ 0 → s.left ≡ suc l → s.left ≤ m → (k : ℕ) × (l ≤ k)
      × (loops m e body s ≡ then_do (body (with_left l (evaluated e s))) (loops k e body))
  loop_turn zero l ne is le = absurd (omega arith)
  loop_turn (suc m) l ne is le =
      let go = λ (s1 : State). then_do (body s1) (loops m e body) in (
        m,
        omega arith,
        at_value (value e s.vars s.cells) (Ended (evaluated e s)) (with_turn s.left (evaluated e s) go)
            ne ∙ ap (λ l. with_turn l (evaluated e s) go) is,
      )

-- doing nothing more leaves an outcome unchanged
pub then_ended : (r : Outcome) → then_do r Ended ≡ r
then_ended (Ended s) = refl
then_ended (Cut s) = refl

then_then : (r : Outcome) (f g h : State → Outcome) → ((s : State) → h s ≡ then_do (f s) g) → then_do r h
    ≡ then_do (then_do r f) g
then_then (Ended s) f g h e = e s
then_then (Cut s) f g h e = refl

-- running concatenated statements is running the first ones and then those that follow
pub run_follow : (a b : StatementList Slot) (s : State) → run (follow a b) s ≡ then_do (run a s) (run b)
run_follow none b s = refl
run_follow (assign to e rest) b s = run_follow rest b (assigned to (value e s.vars s.cells) (evaluated e s))
run_follow (assign_at to i e rest) b s = run_follow rest b
    (assigned (Cell (indexed_cell to (value i s.vars s.cells))) (value e s.vars s.cells) (evaluated_both i e s))
run_follow (loop e body rest) b s = then_then (loops s.left e (run body) s) (run rest) (run b) (run (follow rest b))
    (run_follow rest b)
run_follow (choose e if_so if_not rest) b s =
    then_then (at_zero (value e s.vars s.cells) (run if_not (evaluated e s)) (run if_so (evaluated e s))) (run rest)
    (run b) (run (follow rest b)) (run_follow rest b)

-- if all statements fit, so do the first ones and those that follow
pub fits_parts : (c v : ℕ) (a b : StatementList Slot) → StatementsFit c v (follow a b) → StatementsFit c v a
    × StatementsFit c v b
fits_parts c v none b h = (tt, h)
fits_parts c v (assign to e rest) b h = let p = fits_parts c v rest b h.2 in ((h.0, h.1, p.0), p.1)
fits_parts c v (assign_at to i e rest) b h = let p = fits_parts c v rest b h.3 in ((h.0, h.1, h.2, p.0), p.1)
fits_parts c v (loop e body rest) b h = let p = fits_parts c v rest b h.2 in ((h.0, h.1, p.0), p.1)
fits_parts c v (choose e if_so if_not rest) b h = let p = fits_parts c v rest b h.3 in ((h.0, h.1, h.2, p.0), p.1)

-- an expression that fits still fits if the numbers of cells and variables are the same
pub expression_moved : (e : Expression Slot) (c d v u : ℕ) → d ≡ c → u ≡ v → ExpressionFits c v e → ExpressionFits d u e
expression_moved e c d v u p q h = subst (λ x. ExpressionFits x u e) (sym p)
    (subst (λ y. ExpressionFits c y e) (sym q) h)

pub statements_moved : (b : StatementList Slot) (c d v u : ℕ) → d ≡ c → u ≡ v → StatementsFit c v b →
    StatementsFit d u b
statements_moved b c d v u p q h = subst (λ x. StatementsFit x u b) (sym p) (subst (λ y. StatementsFit c y b) (sym q) h)
