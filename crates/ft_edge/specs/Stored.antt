-- A file in memory as an entry of the map of files.
use Rattle.std.specs.Prelude.{ℕ, List, string_bytes}
use Rattle.ft_edge.specs.declared.mem_shelf.Stored.{Stored}

-- the name and the bytes of the file
abbrev pub entry_of : Stored → List ℕ × List ℕ
entry_of file = (string_bytes file.name, file.bytes.items)
