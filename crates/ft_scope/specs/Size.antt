-- How many register pairs a program needs, what it weighs, and when its names exist.
use Rattle.std.specs.Prelude.{ℕ, ◌+◌, ◌*◌, ◌<◌, ◌≤◌, max}
use Rattle.ft_isa.specs.Words.{IsWord}
use Rattle.ft_syntax.specs.Plain.{Expression, literal, name, indexed, operation, StatementList, none, assign, assign_at, loop, choose}
use Rattle.ft_scope.specs.declared.slot.Slot.{Slot}
use Rattle.ft_scope.specs.declared.slot.Slot.TheVariants.{Cell, Var, Run}

-- a slot is its own plain form
abbrev pub same_slot : Slot → Slot
same_slot s = s

-- the need of an expression: its right operand is computed while the left one's word is kept
abbrev pub need : {N : Type 0} → Expression N → ℕ
need (literal w) = 1
need (name n) = 1
need (indexed n i) = need i
need (operation o a b) = max (need a) (need b + 1)

-- the largest need of any expression, or of any assignment with an index, where the index is kept while the value is
-- computed; 0 if there is none
abbrev pub most_need : {N : Type 0} → StatementList N → ℕ
most_need none = 0
most_need (assign to e rest) = max (need e) (most_need rest)
most_need (assign_at to i e rest) = max (max (need i) (need e + 1)) (most_need rest)
most_need (loop e body rest) = max (need e) (max (most_need body) (most_need rest))
most_need (choose e if_so if_not rest) = max (need e) (max (max (most_need if_so) (most_need if_not)) (most_need rest))

-- the need of a program with this many variables
abbrev pub whole_need : {N : Type 0} → ℕ → StatementList N → ℕ
whole_need vars body = vars + 1 + most_need body

-- the weight of a name that is read or assigned to
abbrev pub slot_weight : Slot → ℕ
slot_weight (Cell k) = 4
slot_weight (Var x) = 2
slot_weight (Run c l) = 4

-- the weight of an expression
abbrev pub expression_weight : Expression Slot → ℕ
expression_weight (literal w) = 2
expression_weight (name s) = slot_weight s
expression_weight (indexed s i) = expression_weight i + 4
expression_weight (operation o a b) = expression_weight a + expression_weight b + 2

-- the weight of statements
abbrev pub statements_weight : StatementList Slot → ℕ
statements_weight none = 0
statements_weight (assign to e rest) = expression_weight e + slot_weight to + statements_weight rest
statements_weight (assign_at to i e rest) = expression_weight i + expression_weight e + 4 + statements_weight rest
statements_weight (loop e body rest) = expression_weight e + 16 + statements_weight body + statements_weight rest
statements_weight (choose e if_so if_not rest) = expression_weight e + 16 + statements_weight if_so + statements_weight if_not + statements_weight rest

-- the weight of a program with this many variables
abbrev pub whole_weight : ℕ → StatementList Slot → ℕ
whole_weight vars body = 5 + 2 * vars + statements_weight body

-- a slot is one of c cells or v variables, and not a run
abbrev pub SlotFits : ℕ → ℕ → Slot → Type 0
SlotFits c v (Cell k) = k < c
SlotFits c v (Var x) = x < v
SlotFits c v (Run f l) = ⊥

-- a slot is a run of 1 to 1,024 existing cells, with c cells in all
abbrev pub RunFits : ℕ → Slot → Type 0
RunFits c (Run f l) = (0 < l) × (l ≤ 1024) × (f + l ≤ c)
RunFits c _ = ⊥

-- each name refers to an existing cell or variable or, with an index, to a run; each literal is a word
abbrev pub ExpressionFits : ℕ → ℕ → Expression Slot → Type 0
ExpressionFits c v (literal w) = IsWord w
ExpressionFits c v (name s) = SlotFits c v s
ExpressionFits c v (indexed s i) = RunFits c s × ExpressionFits c v i
ExpressionFits c v (operation o a b) = ExpressionFits c v a × ExpressionFits c v b

-- likewise for statements
abbrev pub StatementsFit : ℕ → ℕ → StatementList Slot → Type 0
StatementsFit c v none = Unit {0}
StatementsFit c v (assign to e rest) = SlotFits c v to × ExpressionFits c v e × StatementsFit c v rest
StatementsFit c v (assign_at to i e rest) = RunFits c to × ExpressionFits c v i × ExpressionFits c v e × StatementsFit c v rest
StatementsFit c v (loop e body rest) = ExpressionFits c v e × StatementsFit c v body × StatementsFit c v rest
StatementsFit c v (choose e if_so if_not rest) = ExpressionFits c v e × StatementsFit c v if_so × StatementsFit c v if_not × StatementsFit c v rest
