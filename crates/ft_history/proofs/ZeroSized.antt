-- The values of types that hold nothing but ghost data.
use mir.Val.{Val, vstruct, vcons, vnil}

-- a struct with a marker alone: it takes no bytes
abbrev pub zero_sized : Val
zero_sized = vstruct (vcons (vstruct vnil) vnil)
