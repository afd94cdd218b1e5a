-- How many instructions the steps of a program become.
use Rattle.std.proofs.Common.{◌≡◌, ℕ, zero, suc, ◌+◌, ◌*◌, ◌≤◌, List, [], ◌∷◌, ◌++◌, refl, ap, ◌∙◌, arith}
use Rattle.std.specs.List.{flat_map}
use Rattle.ft_syntax.specs.Plain.{Expression, literal, name, indexed, operation, StatementList, none, assign, assign_at}
use Rattle.ft_syntax.specs.Plain.{loop, choose}
use Rattle.ft_scope.specs.declared.slot.Slot.{Slot}
use Rattle.ft_scope.specs.declared.slot.Slot.TheVariants.{Cell, Var, Run}
use Rattle.ft_scope.specs.Size.{slot_weight, expression_weight, statements_weight}
use Rattle.ft_scope.specs.Resolved.{Program, program_weight}
use Rattle.ft_scope.proofs.Measures.{slot_within}
use Rattle.ft_lower.specs.declared.step3.Step3.{Step3}
use Rattle.ft_lower.specs.declared.step3.Step3.TheVariants.{Put, Op, Exit, Go, Stop}
use Rattle.ft_lower.specs.Flow.{Blocks}
use Rattle.ft_lower.specs.Size.{size, row_size, blocks_size}
use Rattle.ft_lower.specs.Lowered.{read, expression_steps, write, block_count, statement_steps, zeros, program_steps}
use Rattle.ft_lower.specs.Lowered.{lowered}
use Rattle.ft_lower.specs.Cutting.{blocks_onto}
use Rattle.ft_lower.proofs.Cuts.{steps_onto}

-- two rows become as many instructions together as separately
pub row_size-append : (a b : List Step3) → row_size (a ++ b) ≡ row_size a + row_size b
row_size-append [] b = omega arith
row_size-append (i ∷ a) b = omega (arith, row_size-append a b)

-- a step that reads becomes at most as many instructions as the slot weighs
read_size : (t : ℕ) (x : Slot) → size (read t x) ≤ slot_weight x
read_size t (Var x) = omega arith
read_size t (Cell k) = omega arith
read_size t (Run c k) = omega arith

-- an expression's steps become at most as many instructions as it weighs
expression_size : (e : Expression Slot) (t : ℕ) → row_size (expression_steps t e) ≤ expression_weight e
expression_size (literal w) t = omega arith
expression_size (name x) t = omega (arith, read_size t x)
expression_size (indexed x i) t = omega (
  arith,
  row_size-append (expression_steps t i) (read t x ∷ []),
  expression_size i t,
  read_size t x,
  slot_within x,
)
expression_size (operation o a b) t =
    let i = Op o t t (t + 1) in
    let cb = expression_steps (t + 1) b in
    omega (
      arith,
      row_size-append (expression_steps t a) (cb ++ i ∷ []),
      row_size-append cb (i ∷ []),
      expression_size a t,
      expression_size b (t + 1),
    )

-- a step that writes becomes at most as many instructions as the slot weighs
write_size : (n : ℕ) (x : Slot) → size (write n x) ≤ slot_weight x
write_size n (Var x) = omega arith
write_size n (Cell k) = omega arith
write_size n (Run c k) = omega arith

-- the steps of statements become at most as many instructions as the statements weigh: the 16 in the weight of a loop
-- or a choice covers its exit and its two jumps
statements_size : (st : StatementList Slot) (n b : ℕ) → row_size (statement_steps n b st) ≤ statements_weight st
statements_size none n b = omega arith
statements_size (assign to e rest) n b = omega (
  arith,
  row_size-append (expression_steps (n + 1) e) (write n to ∷ statement_steps n b rest),
  expression_size e (n + 1),
  write_size n to,
  statements_size rest n b,
)
statements_size (assign_at to i e rest) n b =
    let cr = statement_steps n b rest in
    omega (
      arith,
      row_size-append (expression_steps (n + 1) i) (expression_steps (n + 2) e ++ (write n to ∷ cr)),
      row_size-append (expression_steps (n + 2) e) (write n to ∷ cr),
      expression_size i (n + 1),
      expression_size e (n + 2),
      write_size n to,
      slot_within to,
      statements_size rest n b,
    )
statements_size (loop e body rest) n b =
    let go = Go n (b + 1) in
    let out = b + 2 + block_count body in
    let cb = statement_steps n (b + 1) body in
    let cr = statement_steps n out rest in
    omega (
      arith,
      row_size-append (expression_steps (n + 1) e) (Exit (n + 1) n out ∷ (cb ++ go ∷ cr)),
      row_size-append cb (go ∷ cr),
      expression_size e (n + 1),
      statements_size body n (b + 1),
      statements_size rest n out,
    )
statements_size (choose e x y rest) n b =
    let other = b + 1 + block_count x in
    let out = b + 2 + block_count x + block_count y in
    let go = Go n out in
    let ca = statement_steps n b x in
    let cb = statement_steps n other y in
    let cr = statement_steps n out rest in
    omega (
      arith,
      row_size-append (expression_steps (n + 1) e) (Exit (n + 1) n other ∷ (ca ++ (go ∷ (cb ++ go ∷ cr)))),
      row_size-append ca (go ∷ (cb ++ go ∷ cr)),
      row_size-append cb (go ∷ cr),
      expression_size e (n + 1),
      statements_size x n b,
      statements_size y n other,
      statements_size rest n out,
    )

-- each zero becomes two instructions
zeros_size : (k : ℕ) → row_size (zeros k) ≡ 2 * k
zeros_size zero = refl
zeros_size (suc k) = row_size-append (zeros k) (Put k 0 ∷ []) ∙ omega (arith, zeros_size k)

-- the steps of blocks become as many instructions as they do in sequence
size_of_blocks : (bs : Blocks) → blocks_size bs ≡ row_size (flat_map (λ b. b) bs)
size_of_blocks [] = refl
size_of_blocks (b ∷ bs) = omega (arith, row_size-append b (flat_map (λ b. b) bs), size_of_blocks bs)

-- cutting into blocks adds no instruction
size_onto : (is : List Step3) → blocks_size (blocks_onto [] is) ≡ row_size is
size_onto is = size_of_blocks (blocks_onto [] is) ∙ ap row_size (steps_onto [] is)

-- a program's blocks become at most as many instructions as the program weighs
pub lowered_size : (p : Program) → blocks_size (lowered p) ≤ program_weight p
lowered_size p =
    let cp = statement_steps p.vars 0 p.body in
    omega (
      arith,
      size_onto (program_steps p),
      row_size-append (zeros p.vars) (cp ++ Stop ∷ []),
      row_size-append cp (Stop ∷ []),
      zeros_size p.vars,
      statements_size p.body p.vars 0,
    )

-- statements begin at most as many blocks as they weigh
pub count_weighs : (st : StatementList Slot) → block_count st ≤ statements_weight st
count_weighs none = omega arith
count_weighs (assign to e rest) = omega (arith, count_weighs rest)
count_weighs (assign_at to i e rest) = omega (arith, count_weighs rest)
count_weighs (loop e body rest) = omega (arith, count_weighs body, count_weighs rest)
count_weighs (choose e x y rest) = omega (arith, count_weighs x, count_weighs y, count_weighs rest)
