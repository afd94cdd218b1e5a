-- The lines before the first block: the version, the number of variables, the cells and arrays.
use Rattle.std.specs.Prelude.{ℕ, ◌+◌, Bool, true, false, ◌||◌, ◌==◌, not, nat_lt, List, [], ◌∷◌, ◌++◌, length, codes}
use Rattle.std.specs.Prelude.{Option, Some, None, option_map, option_and_then, if◌then◌else◌, Result, Ok, Err}
use Rattle.std.specs.Option.{is_some}
use Rattle.std.specs.Str.{bytes_eq}
use Rattle.ft_scope.specs.CellNames.{array_names}
use Rattle.ft_flow.specs.LineWords.{line_words}
use Rattle.ft_text.specs.LineWords.{taken, ended}
use Rattle.ft_flow.specs.Fields.{number_in, past, is_plain_name, index_of, below_32}
use Rattle.ft_flow.specs.Steps.{any_word}
use Rattle.ft_flow.specs.declared.flow_error.FlowError.{FlowError}
use Rattle.ft_flow.specs.declared.flow_error.FlowError.TheVariants as errors

-- a line that says something: its number and its words
pub record Said : Type 0 where
  pub number : ℕ
  pub words : List (List ℕ)

-- the words of a line before those of later lines; they are left out if there are none
abbrev pub with_said : ℕ → List (List ℕ) → List Said → List Said
with_said n [] rest = rest
with_said n (w ∷ ws) rest = record { number = n; words = w ∷ ws } ∷ rest

-- the lines that say something, if the first has this number
abbrev pub said : ℕ → List (List ℕ) → List Said
said n [] = []
said n (line ∷ lines) = with_said n (line_words line) (said (n + 1) lines)

-- `flow 1`
abbrev pub is_version : List (List ℕ) → Bool
is_version words = is_some (option_and_then (ended true)
    (option_and_then (past (codes "1")) (past (codes "flow") words)))

-- `vars NUMBER`, with a number below 32
abbrev pub vars_in : List (List ℕ) → Option ℕ
vars_in words = option_and_then (λ rest. option_and_then (λ n. option_and_then (λ m. ended m n.1) (below_32 n.0))
    (taken number_in rest)) (past (codes "vars") words)

-- the number of variables and the lines after it; `end` is the number of the line after the last
pub record Head : Type 0 where
  pub vars : ℕ
  pub rest : List Said

abbrev pub head_with : ℕ → List Said → Option ℕ → Result Head FlowError
head_with n rest None = Err (errors.Form n)
head_with n rest (Some v) = Ok (record { vars = v; rest = rest })

abbrev pub read_vars : ℕ → List Said → Result Head FlowError
read_vars end [] = Err (errors.Missing end)
read_vars end (s ∷ rest) = head_with s.number rest (vars_in s.words)

abbrev pub read_head : ℕ → List Said → Result Head FlowError
read_head end [] = Err (errors.Missing end)
read_head end (s ∷ rest) = if is_version s.words then read_vars end rest else Err (errors.Form s.number)

-- DECLARATIONS

-- the numbers that these words spell
abbrev pub numbers_in : List (List ℕ) → Option (List ℕ)
numbers_in [] = Some []
numbers_in (word ∷ words) = option_and_then (λ n. option_map (λ ns. n ∷ ns) (numbers_in words)) (number_in word)

-- what a line declares: a cell with its initial word, or an array with one word for each cell
pub record Declaration : Type 0 where
  pub array : Bool
  pub name : List ℕ
  pub words : List ℕ

-- a cell has one word, and an array at least one
abbrev pub many_fit : Bool → ℕ → Bool
many_fit true n = nat_lt 0 n
many_fit false n = n == 1

abbrev pub declaration_with : Bool → List ℕ → List ℕ → Option Declaration
declaration_with array name words = if many_fit array (length words)
    then Some (record { array = array; name = name; words = words }) else None

-- `NAME = NUMBER ..`, after `cell` or `array`
abbrev pub declaration_rest : Bool → List (List ℕ) → Option Declaration
declaration_rest array words =
    option_and_then (λ name. option_and_then (λ rest. option_and_then (declaration_with array name.0) (numbers_in rest))
    (past (codes "=") name.1)) (taken any_word words)

-- whether a line's first word is `cell` or `array`
abbrev pub is_declaration : List (List ℕ) → Bool
is_declaration [] = false
is_declaration (word ∷ words) = bytes_eq word (codes "cell") || bytes_eq word (codes "array")

abbrev pub declaration_in : List (List ℕ) → Option Declaration
declaration_in [] = None
declaration_in (word ∷ words) = declaration_rest (bytes_eq word (codes "array")) words

-- the declarations so far: the names, each with its first cell and its length, which is 0 for a cell; and the names and
-- initial words of all cells
pub record Declared : Type 0 where
  pub names : List (List ℕ)
  pub firsts : List ℕ
  pub lengths : List ℕ
  pub cells : List (List ℕ)
  pub inits : List ℕ

abbrev pub none_declared : Declared
none_declared = record { names = []; firsts = []; lengths = []; cells = []; inits = [] }

-- the length of what is declared, and the names of its cells
abbrev pub declared_length : Declaration → ℕ
declared_length t = if t.array then length t.words else 0

abbrev pub declared_cells : Declaration → List (List ℕ)
declared_cells t = if t.array then array_names t.name 0 (length t.words) else t.name ∷ []

-- the declarations with one more
abbrev pub with_declaration : Declared → Declaration → Declared
with_declaration d t = record {
  names = d.names ++ t.name ∷ [];
  firsts = d.firsts ++ length d.inits ∷ [];
  lengths = d.lengths ++ declared_length t ∷ [];
  cells = d.cells ++ declared_cells t;
  inits = d.inits ++ t.words;
}

-- a declaration on line n: its name must be a new one, and there may be 1,024 cells
abbrev pub declare : Declared → ℕ → Option Declaration → Result Declared FlowError
declare d n None = Err (errors.Form n)
declare d n (Some t) =
    if not (is_plain_name t.name) then Err (errors.Name n)
    else (if nat_lt (index_of d.names t.name) (length d.names) then Err (errors.Name n)
    else (if nat_lt 1024 (length d.inits + length t.words) then Err (errors.Cells n)
    else Ok (with_declaration d t)))
