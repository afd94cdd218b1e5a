-- The steps that lines spell.
use Rattle.std.specs.Prelude.{ℕ, ◌-◌, ◌^◌, min, ◌==◌, List, [], ◌∷◌, codes, Option, Some, None, option_and_then}
use Rattle.std.specs.Prelude.{if◌then◌else◌, slice_index_or}
use Rattle.std.specs.Str.{bytes_eq}
use Rattle.ft_isa.specs.Operations.{op_in}
use Rattle.ft_isa.specs.declared.op.Op.{Op}
use Rattle.ft_lower.specs.declared.step3.Step3.{Step3}
use Rattle.ft_lower.specs.declared.step3.Step3.TheVariants as steps
use Rattle.ft_text.specs.LineWords.{taken, ended}
use Rattle.ft_flow.specs.Fields.{number_in, pair_in, past, index_of}

-- the names that steps may use: of cells and arrays, each with its first cell and its length, which is 0 for a cell;
-- the
-- number of cells; and the names of the blocks, in order
pub record Known : Type 0 where
  pub names : List (List ℕ)
  pub firsts : List ℕ
  pub lengths : List ℕ
  pub cells : ℕ
  pub labels : List (List ℕ)

-- the length of what a name stands for
abbrev pub length_of : Known → List ℕ → ℕ
length_of t word = slice_index_or t.lengths (index_of t.names word) 0

-- the first cell of what a name stands for; the number of cells if it stands for nothing
abbrev pub first_of : Known → List ℕ → ℕ
first_of t word = slice_index_or t.firsts (index_of t.names word) t.cells

-- the cell that a name stands for; the number of cells if it stands for none
abbrev pub cell_of : Known → List ℕ → ℕ
cell_of t word = if length_of t word == 0 then first_of t word else t.cells

-- the number of the block with this name; the number of blocks, or 2^32 - 1, if there is none
abbrev pub label_of : Known → List ℕ → ℕ
label_of t word = min (index_of t.labels word) (2 ^ 32 - 1)

-- `load NAME` and `load NAME PAIR`
abbrev pub load_in : Known → ℕ → List ℕ → List (List ℕ) → Option Step3
load_in t p name [] = Some (steps.Load p (cell_of t name))
load_in t p name (word ∷ words) = option_and_then (λ q.
    ended (steps.LoadAt p q (first_of t name) (length_of t name)) words) (pair_in word)

-- `store PAIR NAME` and `store PAIR NAME PAIR`
abbrev pub store_in : Known → ℕ → List ℕ → List (List ℕ) → Option Step3
store_in t q name [] = Some (steps.Store (cell_of t name) q 0)
store_in t q name (word ∷ words) = option_and_then (λ i.
    ended (steps.StoreAt (first_of t name) (length_of t name) i q 0) words) (pair_in word)

-- a word as it is
abbrev pub any_word : List ℕ → Option (List ℕ)
any_word word = Some word

-- an operation on two pairs
abbrev pub operation_in : ℕ → Op → List (List ℕ) → Option Step3
operation_in p o words =
    option_and_then (λ q. option_and_then (λ s. ended (steps.Op o p q.0 s.0) s.1) (taken pair_in q.1))
    (taken pair_in words)

-- a word that is neither `load` nor an operation: a pair to copy, or a number
abbrev pub plain_in : ℕ → List ℕ → List (List ℕ) → Option Step3
plain_in p word words = elim (pair_in word) as (λ o. Option Step3) [
  | Some q ↦ ended (steps.Copy p q) words
  | None ↦ option_and_then (λ n. ended (steps.Put p n) words) (number_in word)
]

-- what is put into a pair, by its first word
abbrev pub value_in : Known → ℕ → List ℕ → List (List ℕ) → Option Step3
value_in t p word words =
    if bytes_eq word (codes "load") then option_and_then (λ name. load_in t p name.0 name.1) (taken any_word words)
    else elim (op_in word) as (λ o. Option Step3) [
      | Some o ↦ operation_in p o words
      | None ↦ plain_in p word words
    ]

-- `PAIR = ..`
abbrev pub set_in : Known → List ℕ → List (List ℕ) → Option Step3
set_in t word words =
    option_and_then (λ p. option_and_then (λ rest. option_and_then (λ v. value_in t p v.0 v.1) (taken any_word rest))
    (past (codes "=") words)) (pair_in word)

-- `goto LABEL`
abbrev pub go_in : Known → List (List ℕ) → Option Step3
go_in t words = option_and_then (λ l. ended (steps.Go 0 (label_of t l.0)) l.1) (taken any_word words)

-- `== 0 goto LABEL`, after the pair
abbrev pub exit_rest : Known → ℕ → List (List ℕ) → Option Step3
exit_rest t q words =
    option_and_then (λ a. option_and_then (λ b. option_and_then (λ c.
    option_and_then (λ l. ended (steps.Exit q 0 (label_of t l.0)) l.1) (taken any_word c)) (past (codes "goto") b))
    (past (codes "0") a)) (past (codes "==") words)

-- `if PAIR == 0 goto LABEL`
abbrev pub exit_in : Known → List (List ℕ) → Option Step3
exit_in t words = option_and_then (λ q. exit_rest t q.0 q.1) (taken pair_in words)

-- `store PAIR ..`
abbrev pub store_line : Known → List (List ℕ) → Option Step3
store_line t words =
    option_and_then (λ q. option_and_then (λ name. store_in t q.0 name.0 name.1) (taken any_word q.1))
    (taken pair_in words)

-- the step that a line of these words spells
abbrev pub step_with : Known → List ℕ → List (List ℕ) → Option Step3
step_with t word words =
    if bytes_eq word (codes "goto") then go_in t words
    else (if bytes_eq word (codes "if") then exit_in t words
    else (if bytes_eq word (codes "store") then store_line t words
    else (if bytes_eq word (codes "stop") then ended steps.Stop words
    else set_in t word words)))

abbrev pub step_in : Known → List (List ℕ) → Option Step3
step_in t [] = None
step_in t (word ∷ words) = step_with t word words
