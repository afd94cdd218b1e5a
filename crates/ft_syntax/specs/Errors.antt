-- The number of a refusal of a source, and its argument.
use Rattle.std.specs.Prelude.{ℕ}
use Rattle.ft_syntax.specs.declared.source_error.SourceError.{SourceError}
use Rattle.ft_syntax.specs.declared.source_error.SourceError.TheVariants as source

-- the number of a refusal of a source, from 1; 0 if memory ran out
abbrev pub source_number : SourceError → ℕ
source_number source.TooLong = 1
source_number (source.Byte at) = 2
source_number (source.Number at) = 3
source_number (source.Syntax at) = 4
source_number (source.Deep at) = 5
source_number (source.Twice at) = 6
source_number (source.Unknown at) = 7
source_number (source.Cells count) = 8
source_number (source.Registers need) = 9
source_number (source.Weight weight) = 10
source_number (source.Array at) = 11
source_number (source.Length at) = 12
source_number source.NoMemory = 0

-- the argument of a refusal: a place, the number that exceeds a limit, or the maximum size of a text; 0 if memory ran
-- out
abbrev pub source_told : SourceError → ℕ
source_told source.TooLong = 1048576
source_told (source.Byte at) = at
source_told (source.Number at) = at
source_told (source.Syntax at) = at
source_told (source.Deep at) = at
source_told (source.Twice at) = at
source_told (source.Unknown at) = at
source_told (source.Cells count) = count
source_told (source.Registers need) = need
source_told (source.Weight weight) = weight
source_told (source.Array at) = at
source_told (source.Length at) = at
source_told source.NoMemory = 0
