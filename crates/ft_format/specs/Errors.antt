-- The number and the place of a broken rule.
use Rattle.std.specs.Prelude.{ℕ}
use Rattle.ft_format.specs.declared.object_error.ObjectError.{ObjectError}
use Rattle.ft_format.specs.declared.object_error.ObjectError.TheVariants.{Magic, Length, Count, Pad, Kind, Index, Order, Name, Entry}

-- the number of an error of the object format
abbrev pub error_number : ObjectError → ℕ
error_number (Magic at) = 1
error_number (Length at) = 2
error_number (Count at) = 3
error_number (Pad at) = 4
error_number (Kind at) = 5
error_number (Index at) = 6
error_number (Order at) = 7
error_number (Name at) = 8
error_number (Entry at) = 9

-- the place of an error in the bytes
abbrev pub error_place : ObjectError → ℕ
error_place (Magic at) = at
error_place (Length at) = at
error_place (Count at) = at
error_place (Pad at) = at
error_place (Kind at) = at
error_place (Index at) = at
error_place (Order at) = at
error_place (Name at) = at
error_place (Entry at) = at
