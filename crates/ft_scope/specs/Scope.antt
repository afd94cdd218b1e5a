-- What declarations name, and statements with each name replaced by what it names.
use Rattle.std.specs.Prelude.{ℕ, zero, suc, ◌+◌, Bool, ◌&&◌, List, [], ◌∷◌, ◌++◌, replicate, Option, Some, None, Result, Ok, Err, cond, is_some, nat_lt}
use Rattle.std.specs.Str.{bytes_eq}
use Rattle.ft_syntax.specs.Plain.{Expression, literal, name, indexed, operation, StatementList, none, assign, assign_at, loop, choose}
use Rattle.ft_syntax.specs.Syntax.{Named, Declared, cell, var, array}
use Rattle.ft_scope.specs.declared.slot.Slot.{Slot}
use Rattle.ft_scope.specs.declared.slot.Slot.TheVariants.{Cell, Var, Run}

-- the name that a declaration declares
abbrev pub declared_name : Declared → Named
declared_name (cell n w) = n
declared_name (var n) = n
declared_name (array n l at w) = n

-- the declared name of each cell, in order
abbrev pub cell_texts : List Declared → List (List ℕ)
cell_texts [] = []
cell_texts (cell n w ∷ ds) = n.text ∷ cell_texts ds
cell_texts (var n ∷ ds) = cell_texts ds
cell_texts (array n l at w ∷ ds) = replicate l n.text ++ cell_texts ds

-- the initial words of the cells, in order
abbrev pub cell_words : List Declared → List ℕ
cell_words [] = []
cell_words (cell n w ∷ ds) = w ∷ cell_words ds
cell_words (var n ∷ ds) = cell_words ds
cell_words (array n l at w ∷ ds) = replicate l w ++ cell_words ds

-- n places of an array in order, from this one on
abbrev pub places_from : ℕ → ℕ → List (Option ℕ)
places_from k zero = []
places_from k (suc l) = Some k ∷ places_from (k + 1) l

-- the place of each cell in its array, and none for a plain cell
abbrev pub cell_places : List Declared → List (Option ℕ)
cell_places [] = []
cell_places (cell n w ∷ ds) = None ∷ cell_places ds
cell_places (var n ∷ ds) = cell_places ds
cell_places (array n l at w ∷ ds) = places_from 0 l ++ cell_places ds

-- how many cells are declared
abbrev pub cell_count : List Declared → ℕ
cell_count [] = 0
cell_count (cell n w ∷ ds) = 1 + cell_count ds
cell_count (var n ∷ ds) = cell_count ds
cell_count (array n l at w ∷ ds) = l + cell_count ds

-- how many variables are declared
abbrev pub variable_count : List Declared → ℕ
variable_count [] = 0
variable_count (cell n w ∷ ds) = variable_count ds
variable_count (var n ∷ ds) = variable_count ds + 1
variable_count (array n l at w ∷ ds) = variable_count ds

-- what a name refers to: its first declaration among these, numbered among the cells or the variables, if c cells and v
-- variables were declared before
abbrev pub found_after : ℕ → ℕ → List Declared → List ℕ → Option Slot
found_after c v [] text = None
found_after c v (cell n w ∷ ds) text = cond (bytes_eq n.text text) (Some (Cell c)) (found_after (c + 1) v ds text)
found_after c v (var n ∷ ds) text = cond (bytes_eq n.text text) (Some (Var v)) (found_after c (v + 1) ds text)
found_after c v (array n l at w ∷ ds) text = cond (bytes_eq n.text text) (Some (Run c l)) (found_after (c + l) v ds text)

-- what a name refers to, given these declarations
abbrev pub find : List Declared → List ℕ → Option Slot
find ds text = found_after 0 0 ds text

-- whether an array may have this length: 1 to 1,024
abbrev pub is_length : ℕ → Bool
is_length l = nat_lt 0 l && nat_lt l 1025

-- the place of the first length of an array that is 0 or above 1,024
abbrev pub wrong_length : List Declared → Option ℕ
wrong_length [] = None
wrong_length (cell n w ∷ ds) = wrong_length ds
wrong_length (var n ∷ ds) = wrong_length ds
wrong_length (array n l at w ∷ ds) = cond (is_length l) (wrong_length ds) (Some at)

-- the place of the first name that was declared before
abbrev pub repeated : List Declared → List Declared → Option ℕ
repeated before [] = None
repeated before (d ∷ ds) = cond (is_some (find before (declared_name d).text)) (Some (declared_name d).at) (repeated (before ++ d ∷ []) ds)

-- the next step after a success, or the failure itself
infixl 10 ◌>>=◌
abbrev pub ◌>>=◌ : {A B : Type 0} → Result A ℕ → (A → Result B ℕ) → Result B ℕ
(Ok x) >>= f = f x
(Err at) >>= f = Err at

-- the slot found for a name, or the name's place if none was found
abbrev pub found : ℕ → Option Slot → Result Slot ℕ
found at (Some s) = Ok s
found at None = Err at

-- the expression with each name replaced, or the place of the first unknown name
abbrev pub renamed_expression : (List ℕ → Option Slot) → Expression Named → Result (Expression Slot) ℕ
renamed_expression look (literal w) = Ok (literal w)
renamed_expression look (name n) = found n.at (look n.text) >>= λ s. Ok (name s)
renamed_expression look (indexed n i) = found n.at (look n.text) >>= λ s. renamed_expression look i >>= λ x. Ok (indexed s x)
renamed_expression look (operation o a b) = renamed_expression look a >>= λ x. renamed_expression look b >>= λ y. Ok (operation o x y)

-- the statements with each name replaced, or the place of the first unknown name
abbrev pub renamed : (List ℕ → Option Slot) → StatementList Named → Result (StatementList Slot) ℕ
renamed look none = Ok none
renamed look (assign to e rest) = found to.at (look to.text) >>= λ s. renamed_expression look e >>= λ x. renamed look rest >>= λ r. Ok (assign s x r)
renamed look (assign_at to i e rest) = found to.at (look to.text) >>= λ s. renamed_expression look i >>= λ x. renamed_expression look e >>= λ y. renamed look rest >>= λ r. Ok (assign_at s x y r)
renamed look (loop e body rest) = renamed_expression look e >>= λ x. renamed look body >>= λ y. renamed look rest >>= λ r. Ok (loop x y r)
renamed look (choose e if_so if_not rest) = renamed_expression look e >>= λ x. renamed look if_so >>= λ y. renamed look if_not >>= λ z. renamed look rest >>= λ r. Ok (choose x y z r)

-- the first of two places
abbrev pub first_of : Option ℕ → Option ℕ → Option ℕ
first_of (Some at) o = Some at
first_of None o = o

-- a name without an index is misused if it is an array's
abbrev pub bare_misuse : ℕ → Option Slot → Option ℕ
bare_misuse at (Some (Run c l)) = Some at
bare_misuse at _ = None

-- a name with an index is misused if it is a plain cell's or a variable's
abbrev pub index_misuse : ℕ → Option Slot → Option ℕ
index_misuse at (Some (Cell k)) = Some at
index_misuse at (Some (Var x)) = Some at
index_misuse at _ = None

-- the place of the first misused name of an expression
abbrev pub misused_expression : (List ℕ → Option Slot) → Expression Named → Option ℕ
misused_expression look (literal w) = None
misused_expression look (name n) = bare_misuse n.at (look n.text)
misused_expression look (indexed n i) = first_of (index_misuse n.at (look n.text)) (misused_expression look i)
misused_expression look (operation o a b) = first_of (misused_expression look a) (misused_expression look b)

-- the place of the first misused name of statements
abbrev pub misused : (List ℕ → Option Slot) → StatementList Named → Option ℕ
misused look none = None
misused look (assign to e rest) = first_of (first_of (bare_misuse to.at (look to.text)) (misused_expression look e)) (misused look rest)
misused look (assign_at to i e rest) = first_of (first_of (index_misuse to.at (look to.text)) (first_of (misused_expression look i) (misused_expression look e))) (misused look rest)
misused look (loop e body rest) = first_of (first_of (misused_expression look e) (misused look body)) (misused look rest)
misused look (choose e if_so if_not rest) = first_of (first_of (misused_expression look e) (first_of (misused look if_so) (misused look if_not))) (misused look rest)
