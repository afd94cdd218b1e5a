-- The lines that the code reads. Private to the reader.
use Rattle.ft_link_map.specs.declared.entry.Entry.{Entry}
use Rattle.ft_link_map.specs.declared.entry.Entry.TheVariants as entries
use Rattle.ft_link_map.specs.MapLines.{MapLine, Module, Export, Import, Bad}

-- the line that was read
abbrev pub line_of : Entry → MapLine
line_of (entries.Module file) = Module file.now
line_of (entries.Export name block) = Export name.now block
line_of (entries.Import name block) = Import name.now block
line_of entries.Bad = Bad
