-- Which pairs the steps of a program name.
use Rattle.std.proofs.Common.{ℕ, zero, suc, ◌+◌, ◌<◌, ◌≤◌, Bool, true, false, List, [], ◌∷◌, ◌++◌, length, arith}
use Rattle.std.specs.List.{All}
use Rattle.std.proofs.lemmas.List.Elements.{All-nil, All-cons, All-head, All-tail, All-append, All-push}
use Rattle.ft_syntax.specs.Plain.{Expression, literal, name, indexed, operation, StatementList, none, assign, assign_at}
use Rattle.ft_syntax.specs.Plain.{loop, choose}
use Rattle.ft_scope.specs.declared.slot.Slot.{Slot}
use Rattle.ft_scope.specs.declared.slot.Slot.TheVariants.{Cell, Var, Run}
use Rattle.ft_scope.specs.Size.{need, most_need, SlotFits, RunFits, ExpressionFits, StatementsFit}
use Rattle.ft_scope.specs.Resolved.{Program, program_need}
use Rattle.ft_lower.specs.declared.step3.Step3.{Step3}
use Rattle.ft_lower.specs.declared.step3.Step3.TheVariants.{Put, Copy, Op, Load, LoadAt, Exit, Go, Stop}
use Rattle.ft_lower.specs.Flow.{Blocks}
use Rattle.ft_lower.specs.Size.{pairs_of, PairsBelow}
use Rattle.ft_lower.specs.Well.{is_last}
use Rattle.ft_lower.specs.Lowered.{expression_steps, write, block_count, statement_steps, zeros, program_steps}
use Rattle.ft_lower.specs.Lowered.{lowered}
use Rattle.ft_lower.specs.Cutting.{blocks_onto}

-- an expression needs at least one pair
pub need_some : (e : Expression Slot) → 0 < need e
need_some (literal w) = omega arith
need_some (name x) = omega arith
need_some (indexed x i) = need_some i
need_some (operation o a b) = omega (arith, need_some a)

module _ (m : ℕ) where
  -- a step names only pairs below m
  abbrev Below : Step3 → Type 0
  Below i = All (λ p. p < m) (pairs_of i)

  -- if one, two or three pairs are below m, so are all pairs of their list
  one_pair : (p : ℕ) → p < m → All (λ p. p < m) (p ∷ [])
  one_pair p h = All-cons (λ p. p < m) p [] h (All-nil (λ p. p < m))

  two_pairs : (p q : ℕ) → p < m → q < m → All (λ p. p < m) (p ∷ q ∷ [])
  two_pairs p q h g = All-cons (λ p. p < m) p (q ∷ []) h (one_pair q g)

  three_pairs : (p q s : ℕ) → p < m → q < m → s < m → All (λ p. p < m) (p ∷ q ∷ s ∷ [])
  three_pairs p q s h g f = All-cons (λ p. p < m) p (q ∷ s ∷ []) h (two_pairs q s g f)

  -- a row of one step names only pairs below m if the step does
  alone : (i : Step3) → Below i → All Below (i ∷ [])
  alone i h = All-cons Below i [] h (All-nil Below)

  -- a row that begins with an exit names only pairs below m if the steps after the exit do
  after_exit : (n to : ℕ) (is : List Step3) → n + 1 < m → All Below is → All Below (Exit (n + 1) n to ∷ is)
  after_exit n to is h rest = All-cons Below (Exit (n + 1) n to) is (two_pairs (n + 1) n h (omega arith)) rest

  -- a row that begins with a jump names only pairs below m if the steps after the jump do
  after_go : (n to : ℕ) (is : List Step3) → n < m → All Below is → All Below (Go n to ∷ is)
  after_go n to is h rest = All-cons Below (Go n to) is (one_pair n h) rest

  module _ (n cells : ℕ) where
    -- an expression's steps name variables and the pairs that it needs
    expression_below : (e : Expression Slot) (t : ℕ) → n ≤ m → t + need e ≤ m → ExpressionFits cells n e →
        All Below (expression_steps t e)
    expression_below (literal w) t le few ok = alone (Put t w) (one_pair t (omega arith))
    expression_below (name (Var x)) t le few ok = alone (Copy t x) (two_pairs t x (omega arith) (omega arith))
    expression_below (name (Cell k)) t le few ok = alone (Load t k) (one_pair t (omega arith))
    expression_below (name (Run c k)) t le few ok = absurd ok
    expression_below (indexed (Var x) i) t le few ok = absurd ok.0
    expression_below (indexed (Cell k) i) t le few ok = absurd ok.0
    expression_below (indexed (Run c k) i) t le few ok =
        let some = need_some i in
        All-push Below (expression_steps t i) (LoadAt t t c k) (expression_below i t le few ok.1)
        (two_pairs t t (omega arith) (omega arith))
    expression_below (operation o a b) t le few ok =
        let i = Op o t t (t + 1) in
        let cb = expression_steps (t + 1) b in
        let some = need_some b in
        All-append Below (expression_steps t a) (cb ++ i ∷ []) (expression_below a t le (omega arith) ok.0)
        (All-push Below cb i (expression_below b (t + 1) le (omega arith) ok.1)
        (three_pairs t t (t + 1) (omega arith) (omega arith) (omega arith)))

    write_below : (to : Slot) → n + 1 < m → SlotFits cells n to → Below (write n to)
    write_below (Var x) h ok = two_pairs x (n + 1) (omega arith) h
    write_below (Cell k) h ok = two_pairs (n + 1) n h (omega arith)
    write_below (Run c k) h ok = absurd ok

    write_at_below : (to : Slot) → n + 2 < m → RunFits cells to → Below (write n to)
    write_at_below (Var x) h ok = absurd ok
    write_at_below (Cell k) h ok = absurd ok
    write_at_below (Run c k) h ok = three_pairs (n + 1) (n + 2) n (omega arith) h (omega arith)

    statements_below : (st : StatementList Slot) (b : ℕ) → n + 1 + most_need st ≤ m → StatementsFit cells n st →
        All Below (statement_steps n b st)
    statements_below none b few ok = All-nil Below
    statements_below (assign to e rest) b few ok =
        let some = need_some e in
        All-append Below (expression_steps (n + 1) e) (write n to ∷ statement_steps n b rest)
        (expression_below e (n + 1) (omega arith) (omega arith) ok.1)
        (All-cons Below (write n to) (statement_steps n b rest) (write_below to (omega arith) ok.0)
        (statements_below rest b (omega arith) ok.2))
    statements_below (assign_at to i e rest) b few ok =
        let some = need_some e in
        let ce = expression_steps (n + 2) e in
        let cr = statement_steps n b rest in
        All-append Below (expression_steps (n + 1) i) (ce
        ++ (write n to ∷ cr)) (expression_below i (n + 1) (omega arith) (omega arith) ok.1)
        (All-append Below ce (write n to ∷ cr) (expression_below e (n + 2) (omega arith) (omega arith) ok.2)
        (All-cons Below (write n to) cr (write_at_below to (omega arith) ok.0)
        (statements_below rest b (omega arith) ok.3)))
    statements_below (loop e body rest) b few ok =
        let some = need_some e in
        let out = b + 2 + block_count body in
        let cb = statement_steps n (b + 1) body in
        let cr = statement_steps n out rest in
        let ce = expression_steps (n + 1) e in
        let lt : n < m = omega arith in
        after_go n (b + 1) (ce ++ (Exit (n + 1) n out ∷ (cb ++ (Go n (b + 1) ∷ cr)))) lt
        (All-append Below ce (Exit (n + 1) n out ∷ (cb ++ (Go n (b + 1) ∷ cr)))
        (expression_below e (n + 1) (omega arith) (omega arith) ok.0)
        (after_exit n out (cb ++ (Go n (b + 1) ∷ cr)) (omega arith)
        (All-append Below cb (Go n (b + 1) ∷ cr) (statements_below body (b + 1) (omega arith) ok.1)
        (after_go n (b + 1) cr lt (statements_below rest out (omega arith) ok.2)))))
    statements_below (choose e x y rest) b few ok =
        let some = need_some e in
        let other = b + 1 + block_count x in
        let out = b + 2 + block_count x + block_count y in
        let ca = statement_steps n b x in
        let cb = statement_steps n other y in
        let cr = statement_steps n out rest in
        let ce = expression_steps (n + 1) e in
        let lt : n < m = omega arith in
        All-append Below ce (Exit (n + 1) n other ∷ (ca ++ (Go n out ∷ (cb ++ (Go n out ∷ cr)))))
        (expression_below e (n + 1) (omega arith) (omega arith) ok.0)
        (after_exit n other (ca ++ (Go n out ∷ (cb ++ (Go n out ∷ cr)))) (omega arith)
        (All-append Below ca (Go n out ∷ (cb ++ (Go n out ∷ cr))) (statements_below x b (omega arith) ok.1)
        (after_go n out (cb ++ (Go n out ∷ cr)) lt
        (All-append Below cb (Go n out ∷ cr) (statements_below y other (omega arith) ok.2)
        (after_go n out cr lt (statements_below rest out (omega arith) ok.3))))))

  -- the zeros at the start name the pairs of the variables
  zeros_below : (k : ℕ) → k ≤ m → All Below (zeros k)
  zeros_below zero le = All-nil Below
  zeros_below (suc k) le = All-push Below (zeros k) (Put k 0) (zeros_below k (omega arith)) (one_pair k (omega arith))

  -- once a row is cut into blocks, its steps still name only pairs below m
  below_onto : (o is : List Step3) → All Below o → All Below is → All (All Below) (blocks_onto o is)
  below_onto [] [] h g = All-nil (All Below)
  below_onto (x ∷ o) [] h g = All-cons (All Below) (x ∷ o) [] h (All-nil (All Below))
  below_onto o (i ∷ is) h g =
      let more = All-push Below o i h (All-head Below i is g) in
      let rest = All-tail Below i is g in
      by (is_last i) more (below_onto [] is (All-nil Below) rest) (below_onto (o ++ i ∷ []) is more rest)
    where
      by : (b : Bool) → All Below (o ++ i ∷ []) → All (All Below) (blocks_onto [] is) →
          All (All Below) (blocks_onto (o ++ i ∷ []) is) →
          All (All Below) (elim b as (λ b. Blocks) [
            | true ↦ (o ++ i ∷ []) ∷ blocks_onto [] is
            | false ↦ blocks_onto (o ++ i ∷ []) is
          ])
      by true more p q = All-cons (All Below) (o ++ i ∷ []) (blocks_onto [] is) more p
      by false more p q = q

-- a program's blocks name pairs below its need
pub lowered_below : (p : Program) → StatementsFit (length p.inits) p.vars p.body → (m : ℕ) → program_need p ≤ m →
    PairsBelow m (lowered p)
lowered_below p fits m le =
    let cp = statement_steps p.vars 0 p.body in
    below_onto m [] (program_steps p) (All-nil (Below m))
    (All-append (Below m) (zeros p.vars) (cp ++ Stop ∷ []) (zeros_below m p.vars (omega arith))
    (All-push (Below m) cp Stop (statements_below m p.vars (length p.inits) p.body 0 le fits) (All-nil (λ p. p < m))))
