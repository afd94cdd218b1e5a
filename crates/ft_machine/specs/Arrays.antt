-- The registers and cells that arrays represent: private to the code.
use Rattle.std.specs.Prelude.{ℕ, List, length, slice_index_or}
use Rattle.ft_isa.specs.declared.colour.Colour.{Colour}
use Rattle.ft_isa.specs.declared.colour.Colour.TheVariants.{Green}
use Rattle.ft_isa.specs.declared.colour.Coloured.{Coloured}
use Rattle.ft_isa.specs.Words.{cell_address}
use Rattle.ft_semantics.specs.State.{Registers, Cells, tabulate}

-- what register r holds
abbrev pub held_in : List ℕ → List Colour → ℕ → Coloured
held_in words colours r = record { colour = slice_index_or colours r Green; word = slice_index_or words r 0 }

-- the 64 registers
abbrev pub registers_of : List ℕ → List Colour → Registers
registers_of words colours = tabulate 64 (λ r. r) (held_in words colours)

-- the word of cell k
abbrev pub word_in : List ℕ → ℕ → ℕ
word_in words k = slice_index_or words k 0

-- the cells with these words, from the first cell's address on
abbrev pub cells_of : List ℕ → Cells
cells_of words = tabulate (length words) cell_address (word_in words)
