-- What a reader of a record returns, in terms of the record's rules.
use Rattle.std.specs.Prelude.{◌≡◌, Option, None, Some, Result, Ok, Err}
use Rattle.ft_format.specs.declared.object_error.ObjectError.{ObjectError}

-- no rule is broken, or the error names the first broken one
abbrev pub Finds : {X : Type 0} → Result X ObjectError → Option ObjectError → Type 0
Finds (Ok x) broken = broken ≡ None
Finds (Err e) broken = broken ≡ Some e
