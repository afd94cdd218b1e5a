-- What the fields of a shelf in memory represent.
use Rattle.std.specs.Prelude.{map}
use Rattle.std.specs.FinMap.{from_entries}
use Rattle.ft_edge.specs.declared.mem_shelf.MemShelf.TheInside.{Inside}
use Rattle.ft_edge.specs.Known.{known_text}
use Rattle.ft_edge.specs.MemoryShelf.{MemoryShelf}
use Rattle.ft_edge.specs.Stored.{entry_of}

-- of two files with the same name, the first counts
abbrev pub shelf_of : Inside → MemoryShelf
shelf_of s = record { files = from_entries (map entry_of s.files.items); calls = s.calls; failed_name = known_text s.failed }
