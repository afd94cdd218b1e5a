-- The steps of a program in one row.
use Rattle.std.specs.Prelude.{◌≡◌, ℕ, zero, suc, ◌+◌, List, [], ◌∷◌, ◌++◌}
use Rattle.ft_syntax.specs.Plain.{Expression, literal, name, indexed, operation, StatementList, none, assign, assign_at, loop, choose}
use Rattle.ft_scope.specs.declared.slot.Slot.{Slot}
use Rattle.ft_scope.specs.declared.slot.Slot.TheVariants.{Cell, Var, Run}
use Rattle.ft_scope.specs.Resolved.{Program}
use Rattle.ft_lower.specs.declared.step3.Step3.{Step3}
use Rattle.ft_lower.specs.declared.step3.Step3.TheVariants.{Put, Copy, Op, Load, Store, LoadAt, StoreAt, Exit, Go, Stop}
use Rattle.ft_lower.specs.Flow.{Blocks}
use Rattle.ft_lower.specs.Cutting.{blocks_onto}

-- the step that reads a cell or a variable into pair t; for an array, it reads the cell that the word of this pair
-- selects
abbrev pub read : ℕ → Slot → Step3
read t (Var x) = Copy t x
read t (Cell k) = Load t k
read t (Run first length) = LoadAt t t first length

-- the steps that leave an expression's word in pair t, using this pair and those above it
abbrev pub expression_steps : ℕ → Expression Slot → List Step3
expression_steps t (literal w) = Put t w ∷ []
expression_steps t (name s) = read t s ∷ []
expression_steps t (indexed s i) = expression_steps t i ++ read t s ∷ []
expression_steps t (operation o a b) = expression_steps t a ++ (expression_steps (t + 1) b ++ Op o t t (t + 1) ∷ [])

-- the step that writes pair n + 1 to a cell or a variable, with the spare n; for an array, it writes pair n + 2 to the
-- cell that the word of pair n + 1 selects
abbrev pub write : ℕ → Slot → Step3
write n (Var x) = Copy x (n + 1)
write n (Cell k) = Store k (n + 1) n
write n (Run first length) = StoreAt first length (n + 1) (n + 2) n

-- how many blocks statements begin
abbrev pub block_count : StatementList Slot → ℕ
block_count none = 0
block_count (assign to e rest) = block_count rest
block_count (assign_at to i e rest) = block_count rest
block_count (loop e body rest) = 2 + block_count body + block_count rest
block_count (choose e if_so if_not rest) = 2 + block_count if_so + block_count if_not + block_count rest

-- how many blocks the bodies of loops and the sides of choices begin: a stack, from which the counts are popped in the
-- order in which the statements are lowered
abbrev pub body_counts : StatementList Slot → List ℕ
body_counts none = []
body_counts (assign to e rest) = body_counts rest
body_counts (assign_at to i e rest) = body_counts rest
body_counts (loop e body rest) = body_counts rest ++ (body_counts body ++ block_count body ∷ [])
body_counts (choose e if_so if_not rest) =
    body_counts rest ++ (body_counts if_not ++ (body_counts if_so ++ block_count if_not ∷ block_count if_so ∷ []))

-- these numbers are on top of a stack
abbrev pub Tops : List ℕ → List ℕ → Type 0
Tops numbers stack = (below : List ℕ) × (stack ≡ below ++ numbers)

-- the steps of statements over n variables that begin within block b; each step that ends a block is followed by the
-- first step of the next block
abbrev pub statement_steps : ℕ → ℕ → StatementList Slot → List Step3
statement_steps n b none = []
statement_steps n b (assign to e rest) = expression_steps (n + 1) e ++ (write n to ∷ statement_steps n b rest)
statement_steps n b (assign_at to i e rest) = expression_steps (n + 1) i ++ (expression_steps (n + 2) e ++ (write n to ∷ statement_steps n b rest))
statement_steps n b (loop e body rest) =
    Go n (b + 1)
    ∷ (expression_steps (n + 1) e
    ++ (Exit (n + 1) n (b + 2 + block_count body)
    ∷ (statement_steps n (b + 1) body
    ++ (Go n (b + 1) ∷ statement_steps n (b + 2 + block_count body) rest))))
statement_steps n b (choose e if_so if_not rest) =
    expression_steps (n + 1) e
    ++ (Exit (n + 1) n (b + 1 + block_count if_so)
    ∷ (statement_steps n b if_so
    ++ (Go n (b + 2 + block_count if_so + block_count if_not)
    ∷ (statement_steps n (b + 1 + block_count if_so) if_not
    ++ (Go n (b + 2 + block_count if_so + block_count if_not)
    ∷ statement_steps n (b + 2 + block_count if_so + block_count if_not) rest)))))

-- the steps that put 0 into each of the first k pairs
abbrev pub zeros : ℕ → List Step3
zeros zero = []
zeros (suc k) = zeros k ++ Put k 0 ∷ []

-- the steps of a program
abbrev pub program_steps : Program → List Step3
program_steps p = zeros p.vars ++ (statement_steps p.vars 0 p.body ++ Stop ∷ [])

-- the blocks of a program
abbrev pub lowered : Program → Blocks
lowered p = blocks_onto [] (program_steps p)
