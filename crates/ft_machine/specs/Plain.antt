-- Registers as plain words: every value of the words stands for registers.
use Rattle.std.specs.Prelude.{ℕ, zero, suc, List, slice_index_or}
use Rattle.ft_isa.specs.declared.colour.Colour.{Colour}
use Rattle.ft_isa.specs.declared.colour.Colour.TheVariants.{Green, Blue}
use Rattle.ft_isa.specs.declared.colour.Coloured.{Coloured}
use Rattle.ft_semantics.specs.State.{Registers, tabulate}

-- 0 stands for green, and any other number for blue
abbrev pub colour_in : ℕ → Colour
colour_in zero = Green
colour_in (suc n) = Blue

-- what register r holds
abbrev pub plain_held : List ℕ → List ℕ → ℕ → Coloured
plain_held words colours r = record { colour = colour_in (slice_index_or colours r 0); word = slice_index_or words r 0 }

-- the 64 registers with these words, and with these numbers for their colours
abbrev pub registers_in : List ℕ → List ℕ → Registers
registers_in words colours = tabulate 64 (λ r. r) (plain_held words colours)
