-- How many blocks a row of steps ends.
use Rattle.std.proofs.Common.{◌≡◌, ℕ, zero, suc, ◌+◌, List, [], ◌∷◌, ◌++◌, refl, ap, ◌∙◌, arith}
use Rattle.ft_scope.specs.declared.slot.Slot.{Slot}
use Rattle.ft_scope.specs.declared.slot.Slot.TheVariants.{Cell, Var, Run}
use Rattle.ft_syntax.specs.Plain.{Expression, literal, name, indexed, operation, StatementList, none, assign, assign_at}
use Rattle.ft_syntax.specs.Plain.{loop, choose}
use Rattle.ft_lower.specs.declared.step3.Step3.{Step3}
use Rattle.ft_lower.specs.declared.step3.Step3.TheVariants.{Put, Op, Go}
use Rattle.ft_lower.specs.Flow.{Place, on, first}
use Rattle.ft_lower.specs.Lowered.{read, expression_steps, write, block_count, statement_steps, zeros}
use Rattle.ft_lower.proofs.Runs.{next, after, after-append}

-- the block after two rows of steps is the one after the second row, begun where the first ends
pub block_append : (p : Place) (a b : List Step3) → (after p (a ++ b)).block ≡ (after (after p a) b).block
block_append p a b = ap (λ (q : Place). q.block) (after-append p a b)

-- a read ends no block
read_next : (t : ℕ) (x : Slot) (p : Place) → next (read t x) p ≡ on p
read_next t (Var x) p = refl
read_next t (Cell c) p = refl
read_next t (Run c l) p = refl

-- a write ends no block
write_next : (n : ℕ) (x : Slot) (p : Place) → next (write n x) p ≡ on p
write_next n (Var x) p = refl
write_next n (Cell c) p = refl
write_next n (Run c l) p = refl

-- an expression's steps end no block
pub expression_block : (e : Expression Slot) (t : ℕ) (p : Place) → (after p (expression_steps t e)).block ≡ p.block
expression_block (literal w) t p = refl
expression_block (name x) t p = ap (λ (q : Place). q.block) (read_next t x p)
expression_block (indexed x i) t p =
    block_append p (expression_steps t i) (read t x ∷ [])
    ∙ ap (λ (q : Place). q.block) (read_next t x (after p (expression_steps t i)))
    ∙ expression_block i t p
expression_block (operation o a b) t p =
    block_append p (expression_steps t a) (expression_steps (t + 1) b ++ Op o t t (t + 1) ∷ [])
    ∙ block_append (after p (expression_steps t a)) (expression_steps (t + 1) b) (Op o t t (t + 1) ∷ [])
    ∙ expression_block b (t + 1) (after p (expression_steps t a))
    ∙ expression_block a t p

-- a write stays in its block
pub write_block : (n : ℕ) (x : Slot) (p : Place) → (next (write n x) p).block ≡ p.block
write_block n x p = ap (λ (q : Place). q.block) (write_next n x p)

-- the zeros at the start end no block
pub zeros_block : (k : ℕ) (p : Place) → (after p (zeros k)).block ≡ p.block
zeros_block zero p = refl
zeros_block (suc k) p = block_append p (zeros k) (Put k 0 ∷ []) ∙ zeros_block k p

-- statements end as many blocks as they begin
pub statements_block : (st : StatementList Slot) (n b : ℕ) (p : Place) → p.block ≡ b →
    (after p (statement_steps n b st)).block ≡ b + block_count st
statements_block none n b p e = e ∙ omega arith
statements_block (assign to x rest) n b p e =
    let p1 = after p (expression_steps (n + 1) x) in
    block_append p (expression_steps (n + 1) x) (write n to ∷ statement_steps n b rest)
    ∙ statements_block rest n b (next (write n to) p1) (write_block n to p1 ∙ expression_block x (n + 1) p ∙ e)
statements_block (assign_at to i x rest) n b p e =
    let p1 = after p (expression_steps (n + 1) i) in
    let p2 = after p1 (expression_steps (n + 2) x) in
    block_append p (expression_steps (n + 1) i) _
    ∙ block_append p1 (expression_steps (n + 2) x) (write n to ∷ statement_steps n b rest)
    ∙ statements_block rest n b (next (write n to) p2) (write_block n to p2 ∙ expression_block x (n + 2) p1
    ∙ expression_block i (n + 1) p ∙ e)
statements_block (loop x body rest) n b p e =
    let p1 = first (suc p.block) in
    let p2 = after p1 (expression_steps (n + 1) x) in
    let p3 = on p2 in
    let p4 = after p3 (statement_steps n (b + 1) body) in
    let p5 = first (suc p4.block) in
    let e3 : p3.block ≡ b + 1 = expression_block x (n + 1) p1 ∙ omega arith in
    let e4 : p4.block ≡ b + 1 + block_count body = statements_block body n (b + 1) p3 e3 in
    let e5 : p5.block ≡ b + 2 + block_count body = omega arith in
    block_append p1 (expression_steps (n + 1) x) _
    ∙ block_append p3 (statement_steps n (b + 1) body) (Go n (b + 1) ∷ statement_steps n (b + 2 + block_count body)
    rest)
    ∙ statements_block rest n (b + 2 + block_count body) p5 e5
    ∙ omega arith
statements_block (choose x s t rest) n b p e =
    let m = b + 2 + block_count s + block_count t in
    let p1 = after p (expression_steps (n + 1) x) in
    let p2 = on p1 in
    let p3 = after p2 (statement_steps n b s) in
    let p4 = first (suc p3.block) in
    let p5 = after p4 (statement_steps n (b + 1 + block_count s) t) in
    let p6 = first (suc p5.block) in
    let e3 : p3.block ≡ b + block_count s = statements_block s n b p2 (expression_block x (n + 1) p ∙ e) in
    let e4 : p4.block ≡ b + 1 + block_count s = omega arith in
    let e5 : p5.block ≡ b + 1 + block_count s + block_count t = statements_block t n (b + 1 + block_count s) p4 e4 in
    let e6 : p6.block ≡ m = omega arith in
    block_append p (expression_steps (n + 1) x) _
    ∙ block_append p2 (statement_steps n b s) (Go n m ∷ (statement_steps n (b + 1 + block_count s) t
    ++ (Go n m ∷ statement_steps n m rest)))
    ∙ block_append p4 (statement_steps n (b + 1 + block_count s) t) (Go n m ∷ statement_steps n m rest)
    ∙ statements_block rest n m p6 e6
    ∙ omega arith
