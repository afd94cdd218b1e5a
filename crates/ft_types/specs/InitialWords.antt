-- An object with other initial words in its cells.
use Rattle.std.specs.Prelude.{ℕ, List, [], ◌∷◌}
use Rattle.ft_types.specs.declared.object.Object.{Object}
use Rattle.ft_types.specs.declared.object.Cell.{Cell}

-- a cell with another initial word
abbrev pub begun_with : Cell → ℕ → Cell
begun_with c w = record c { init = w }

-- the cells with these initial words, in order; further cells are unchanged
abbrev pub cells_with_words : List Cell → List ℕ → List Cell
cells_with_words [] words = []
cells_with_words (c ∷ cs) [] = c ∷ cs
cells_with_words (c ∷ cs) (w ∷ ws) = begun_with c w ∷ cells_with_words cs ws

-- the object with these initial words in its cells
abbrev pub object_with_words : Object → List ℕ → Object
object_with_words o words = record o { cells = cells_with_words o.cells words }
