-- The bytes of an optional text.
use Rattle.std.specs.Prelude.{ℕ, List, Option, String, string_bytes}
use Rattle.std.specs.Option.{option_map}
use Rattle.std.specs.declared.alloc.Global.{Global}

-- the bytes of the text, if there is one
abbrev pub known_text : Option (String Global) → Option (List ℕ)
known_text text = option_map string_bytes text
