-- The lines of a program's outputs.
use Rattle.std.specs.Prelude.{ℕ, ◌-◌, List, [], map, slice_get}
use Rattle.std.specs.Option.{unwrap_or}
use Rattle.ft_isa.specs.Words.{cell_address, line}
use Rattle.ft_isa.specs.declared.output.Output.{Output}

-- the name of cell k, given the cells' names
abbrev pub name_of : List (List ℕ) → ℕ → List ℕ
name_of names k = unwrap_or (slice_get names k) []

-- the line of an output: the cell's name and the value
abbrev pub line_of : List (List ℕ) → Output → List ℕ
line_of names output = line (name_of names (output.addr - cell_address 0)) output.value

-- the lines of outputs, one for each
abbrev pub output_lines : List (List ℕ) → List Output → List (List ℕ)
output_lines names outputs = map (line_of names) outputs
