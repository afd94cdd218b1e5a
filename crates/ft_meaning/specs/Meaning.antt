-- What a program means, with a budget of loop iterations for the whole run.
use Rattle.std.specs.Prelude.{ℕ, zero, suc, ◌+◌, ◌%◌, List, [], ◌∷◌, ◌++◌, slice_index, slice_set, replicate}
use Rattle.ft_isa.specs.Words.{apply, cell_address}
use Rattle.ft_isa.specs.declared.output.Output.{Output}
use Rattle.ft_syntax.specs.Plain.{Expression, literal, name, indexed, operation, StatementList, none, assign, assign_at, loop, choose}
use Rattle.ft_syntax.specs.Size.{expression_nodes}
use Rattle.ft_scope.specs.declared.slot.Slot.{Slot}
use Rattle.ft_scope.specs.declared.slot.Slot.TheVariants.{Cell, Var, Run}
use Rattle.ft_scope.specs.Resolved.{Program}

-- the state of a run: the words of variables and cells, the outputs so far, the turns left and the work done
pub record State : Type 0 where
  pub vars : List ℕ
  pub cells : List ℕ
  pub out : List Output
  pub left : ℕ
  pub work : ℕ

-- a run ended, or was cut when its turns ran out
pub data Outcome : Type 0 where
  Ended : State → Outcome
  Cut : State → Outcome

-- the state in which it ended or was cut
abbrev pub state_of : Outcome → State
state_of (Ended s) = s
state_of (Cut s) = s

-- the outputs, in order
abbrev pub outputs : Outcome → List Output
outputs r = (state_of r).out

-- the work: 1 for each assignment and each test executed, and 1 for each expression node evaluated
abbrev pub work : Outcome → ℕ
work r = (state_of r).work

-- the cell that a word selects among `length` cells from number `first` on
abbrev pub cell_of_run : ℕ → ℕ → ℕ → ℕ
cell_of_run first length w = first + w % length

-- the cell of an array that a word selects; other slots are never indexed
abbrev pub indexed_cell : Slot → ℕ → ℕ
indexed_cell (Run first length) w = cell_of_run first length w
indexed_cell (Cell k) w = k
indexed_cell (Var x) w = 0

-- the word of a cell or a variable; an array has none
abbrev pub slot_value : Slot → List ℕ → List ℕ → ℕ
slot_value (Var x) vars cells = slice_index vars x
slot_value (Cell k) vars cells = slice_index cells k
slot_value (Run first length) vars cells = 0

-- the word of an expression, given the words of the variables and the cells
abbrev pub value : Expression Slot → List ℕ → List ℕ → ℕ
value (literal w) vars cells = w
value (name s) vars cells = slot_value s vars cells
value (indexed s i) vars cells = slice_index cells (indexed_cell s (value i vars cells))
value (operation o a b) vars cells = apply o (value a vars cells) (value b vars cells)

-- the state after an expression was evaluated for an assignment or a test
abbrev pub evaluated : Expression Slot → State → State
evaluated e s = record s { work = s.work + (expression_nodes e + 1) }

-- the state after an index and an expression were evaluated for an assignment
abbrev pub evaluated_both : Expression Slot → Expression Slot → State → State
evaluated_both i e s = record s { work = s.work + (expression_nodes i + expression_nodes e + 1) }

-- the state after a word was assigned; an assignment to a cell is an output, even if the word is unchanged; a whole
-- array cannot be assigned
abbrev pub assigned : Slot → ℕ → State → State
assigned (Var x) v s = record s { vars = slice_set s.vars x v }
assigned (Run first length) v s = s
assigned (Cell k) v s = record s { cells = slice_set s.cells k v; out = s.out ++ record { addr = cell_address k; value = v } ∷ [] }

-- the state with this many turns left
abbrev pub with_left : ℕ → State → State
with_left l s = record s { left = l }

-- what comes next, if the run was not cut
abbrev pub then_do : Outcome → (State → Outcome) → Outcome
then_do (Ended s) go = go s
then_do (Cut s) go = Cut s

-- the first if a test is 0, else the second
abbrev pub at_zero : {A : Type 0} → ℕ → A → A → A
at_zero zero a b = a
at_zero (suc n) a b = b

-- takes a turn, or is cut if none is left
abbrev pub with_turn : ℕ → State → (State → Outcome) → Outcome
with_turn zero s go = Cut s
with_turn (suc l) s go = go (with_left l s)

-- runs a loop; the number bounds the recursion, and is at least the number of turns left
abbrev pub loops : ℕ → Expression Slot → (State → Outcome) → State → Outcome
loops zero e body s = at_zero (value e s.vars s.cells) (Ended (evaluated e s)) (Cut (evaluated e s))
loops (suc n) e body s =
    at_zero (value e s.vars s.cells) (Ended (evaluated e s)) (with_turn s.left (evaluated e s) (λ s1. then_do (body s1) (loops n e body)))

-- runs statements
abbrev pub run : StatementList Slot → State → Outcome
run none s = Ended s
run (assign to e rest) s = run rest (assigned to (value e s.vars s.cells) (evaluated e s))
run (assign_at to i e rest) s = run rest (assigned (Cell (indexed_cell to (value i s.vars s.cells))) (value e s.vars s.cells) (evaluated_both i e s))
run (loop e body rest) s = then_do (loops s.left e (run body) s) (run rest)
run (choose e if_so if_not rest) s = then_do (at_zero (value e s.vars s.cells) (run if_not (evaluated e s)) (run if_so (evaluated e s))) (run rest)

-- the state at the start: variables are 0 and cells have their initial words
abbrev pub start : Program → ℕ → State
start p t = record { vars = replicate p.vars 0; cells = p.inits; out = []; left = t; work = 0 }

-- what a program means with t turns
abbrev pub meaning : Program → ℕ → Outcome
meaning p t = run p.body (start p t)
