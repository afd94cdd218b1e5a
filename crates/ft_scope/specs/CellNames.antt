-- The names of cells.
use Rattle.std.specs.Prelude.{ℕ, zero, suc, ◌+◌, List, [], ◌∷◌, ◌++◌, Option, Some, None, decimal, codes}
use Rattle.ft_syntax.specs.Syntax.{Declared, cell, var, array}

-- the name of a cell: the declared name, followed by its place in square brackets if the cell belongs to an array
abbrev pub cell_name : List ℕ → Option ℕ → List ℕ
cell_name text None = text
cell_name text (Some k) = text ++ codes "[" ++ decimal k ++ codes "]"

-- the names of n cells of an array, from this place on
abbrev pub array_names : List ℕ → ℕ → ℕ → List (List ℕ)
array_names text k zero = []
array_names text k (suc l) = cell_name text (Some k) ∷ array_names text (k + 1) l

-- the names of the cells, in order
abbrev pub cell_names : List Declared → List (List ℕ)
cell_names [] = []
cell_names (cell n w ∷ ds) = cell_name n.text None ∷ cell_names ds
cell_names (var n ∷ ds) = cell_names ds
cell_names (array n l at w ∷ ds) = array_names n.text 0 l ++ cell_names ds

-- the names of cells with these declared names and places
abbrev pub joined_names : List (List ℕ) → List (Option ℕ) → List (List ℕ)
joined_names [] ps = []
joined_names (t ∷ ts) [] = []
joined_names (t ∷ ts) (p ∷ ps) = cell_name t p ∷ joined_names ts ps
