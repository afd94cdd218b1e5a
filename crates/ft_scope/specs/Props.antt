-- The fact that the names of a program exist has at most one proof, so a ghost field may hold it.
use Rattle.std.specs.Prelude.{ℕ}
use Rattle.std.proofs.Math.Bridge.{le_prop}
use Rattle.ft_syntax.specs.Plain.{Expression, literal, name, indexed, operation, StatementList, none, assign, assign_at, loop, choose}
use Rattle.ft_scope.specs.declared.slot.Slot.{Slot}
use Rattle.ft_scope.specs.declared.slot.Slot.TheVariants.{Cell, Var, Run}
use Rattle.ft_scope.specs.Size.{SlotFits, RunFits, ExpressionFits, StatementsFit}

slot_fits_prop : (c v : ℕ) (s : Slot) → IsProp (SlotFits c v s)
slot_fits_prop c v (Cell k) p q = le_prop p q
slot_fits_prop c v (Var x) p q = le_prop p q
slot_fits_prop c v (Run f l) p q = absurd p

run_fits_prop : (c : ℕ) (s : Slot) → IsProp (RunFits c s)
run_fits_prop c (Run f l) p q = λ i. (le_prop p.0 q.0 i, le_prop p.1 q.1 i, le_prop p.2 q.2 i)
run_fits_prop c _ p q = absurd p

expression_fits_prop : (c v : ℕ) (e : Expression Slot) → IsProp (ExpressionFits c v e)
expression_fits_prop c v (literal w) p q = le_prop p q
expression_fits_prop c v (name s) p q = slot_fits_prop c v s p q
expression_fits_prop c v (indexed s e) p q = λ i. (run_fits_prop c s p.0 q.0 i, expression_fits_prop c v e p.1 q.1 i)
expression_fits_prop c v (operation o a b) p q = λ i. (expression_fits_prop c v a p.0 q.0 i, expression_fits_prop c v b p.1 q.1 i)

pub statements_fit_prop : (c v : ℕ) (b : StatementList Slot) → IsProp (StatementsFit c v b)
statements_fit_prop c v none p q = λ i. tt
statements_fit_prop c v (assign to e rest) p q = λ i. (slot_fits_prop c v to p.0 q.0 i, expression_fits_prop c v e p.1 q.1 i, statements_fit_prop c v rest p.2 q.2 i)
statements_fit_prop c v (assign_at to j e rest) p q = λ i. (run_fits_prop c to p.0 q.0 i, expression_fits_prop c v j p.1 q.1 i, expression_fits_prop c v e p.2 q.2 i, statements_fit_prop c v rest p.3 q.3 i)
statements_fit_prop c v (loop e body rest) p q = λ i. (expression_fits_prop c v e p.0 q.0 i, statements_fit_prop c v body p.1 q.1 i, statements_fit_prop c v rest p.2 q.2 i)
statements_fit_prop c v (choose e if_so if_not rest) p q = λ i. (expression_fits_prop c v e p.0 q.0 i, statements_fit_prop c v if_so p.1 q.1 i, statements_fit_prop c v if_not p.2 q.2 i, statements_fit_prop c v rest p.3 q.3 i)
