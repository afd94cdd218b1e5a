-- The lines of a run's outputs.
use Rattle.std.specs.Prelude.{ℕ, ◌-◌, List, [], slice_get}
use Rattle.std.specs.Option.{option_map, unwrap_or}
use Rattle.ft_isa.specs.Words.{cell_address, line}
use Rattle.ft_isa.specs.declared.output.Output.{Output}
use Rattle.ft_types.specs.declared.object.Object.{Object}
use Rattle.ft_types.specs.Objects.{name_of}

-- the name of the cell at an address; an output's address is always that of a cell
abbrev pub name_at : Object → ℕ → List ℕ
name_at o a = unwrap_or (option_map name_of (slice_get o.cells (a - cell_address 0))) []

-- the line of an output: the cell's name and the value
abbrev pub line_at : Object → Output → List ℕ
line_at o output = line (name_at o output.addr) output.value
