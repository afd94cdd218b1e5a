-- How the debugger represents places in the code: private to the code.
use Rattle.std.specs.Prelude.{List, [], ◌++◌, ℕ, Option, Some, None, decimal, codes}
use Rattle.ft_debug.specs.declared.code_places.Place.{Place}

-- the text of a place, or nothing if there is none
abbrev pub shown_place : Option Place → List ℕ
shown_place None = []
shown_place (Some place) = codes " block " ++ decimal place.block ++ codes " index " ++ decimal place.index
