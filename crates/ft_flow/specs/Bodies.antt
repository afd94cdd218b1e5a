-- The declarations, and the blocks.
use Rattle.std.specs.Prelude.{ℕ, ◌+◌, Bool, true, false, ◌||◌, ◌==◌, not, List, [], ◌∷◌, ◌++◌, Option, Some, None}
use Rattle.std.specs.Prelude.{if◌then◌else◌, Result, Ok, Err}
use Rattle.ft_lower.specs.declared.step3.Step3.{Step3}
use Rattle.ft_lower.specs.Well.{is_last}
use Rattle.ft_flow.specs.Fields.{index_of, label_in}
use Rattle.ft_flow.specs.Steps.{Known, step_in}
use Rattle.ft_flow.specs.Heads.{Said, Declared, is_declaration, declaration_in, declare}
use Rattle.ft_flow.specs.declared.flow_error.FlowError.{FlowError}
use Rattle.ft_flow.specs.declared.flow_error.FlowError.TheVariants as errors

-- the declarations, and the lines after them
pub record Cells : Type 0 where
  pub declared : Declared
  pub rest : List Said

-- goes on, if nothing is refused
abbrev pub goes_on : {A B : Type 0} → Result A FlowError → (A → Result B FlowError) → Result B FlowError
goes_on (Err e) next = Err e
goes_on (Ok a) next = next a

-- the declarations, from these on
abbrev pub read_cells : Declared → List Said → Result Cells FlowError
read_cells d [] = Ok (record { declared = d; rest = [] })
read_cells d (s ∷ rest) =
    if is_declaration s.words then goes_on (declare d s.number (declaration_in s.words)) (λ e. read_cells e rest)
    else Ok (record { declared = d; rest = s ∷ rest })

-- the names of the blocks that lines begin, in order
abbrev pub with_label : Option (List ℕ) → List (List ℕ) → List (List ℕ)
with_label None rest = rest
with_label (Some l) rest = l ∷ rest

abbrev pub labels_of : List Said → List (List ℕ)
labels_of [] = []
labels_of (s ∷ rest) = with_label (label_in s.words) (labels_of rest)

-- the steps so far and their lines, whether a block isn't ended, and how many blocks have begun
pub record SoFar : Type 0 where
  pub steps : List Step3
  pub lines : List ℕ
  pub unended : Bool
  pub seen : ℕ

abbrev pub at_start : SoFar
at_start = record { steps = []; lines = []; unended = false; seen = 0 }

-- a block with this name begins: the block before it is ended, and no earlier block has its name
abbrev pub begun : Known → ℕ → List ℕ → SoFar → Result SoFar FlowError
begun k n l b =
    if b.unended then Err (errors.Falls n)
    else (if index_of k.labels l == b.seen then Ok (record b { unended = true; seen = b.seen + 1 })
    else Err (errors.Name n))

-- a step: it stands in a block that isn't ended
abbrev pub stepped : ℕ → Option Step3 → SoFar → Result SoFar FlowError
stepped n None b = Err (errors.Form n)
stepped n (Some i) b =
    if b.unended then Ok (record {
      steps = b.steps ++ i ∷ [];
      lines = b.lines ++ n ∷ [];
      unended = not (is_last i);
      seen = b.seen;
    })
    else Err (errors.Stray n)

-- after one more line
abbrev pub row_read : Known → Said → SoFar → Result SoFar FlowError
row_read k s b = elim (label_in s.words) as (λ o. Result SoFar FlowError) [
  | Some l ↦ begun k s.number l b
  | None ↦ stepped s.number (step_in k s.words) b
]

-- there is a block, and the last one is ended; `end` is the number of the line after the last
abbrev pub finished : ℕ → SoFar → Result SoFar FlowError
finished end b = if b.unended || (b.seen == 0) then Err (errors.Missing end) else Ok b

-- after these lines
abbrev pub read_steps : Known → ℕ → SoFar → List Said → Result SoFar FlowError
read_steps k end b [] = finished end b
read_steps k end b (s ∷ rest) = goes_on (row_read k s b) (λ c. read_steps k end c rest)
