-- What a reader returns, in terms of the rules.
use Rattle.std.specs.Prelude.{◌≡◌, Option, None, Some, Result, Ok, Err}
use Rattle.ft_format.specs.declared.object_error.ObjectError.{ObjectError}
use Rattle.ft_object.specs.declared.decode_error.DecodeError.{DecodeError}
use Rattle.ft_object.specs.declared.decode_error.DecodeError.TheVariants.{Object, NoMemory}

-- the error is the first broken rule, unless memory ran out
abbrev pub IsError : DecodeError → Option ObjectError → Type 0
IsError (Object e) broken = broken ≡ Some e
IsError NoMemory broken = Unit {0}

-- no rule is broken, or an error names the first broken one, unless memory ran out
abbrev pub Judges : {X : Type 0} → Result X DecodeError → Option ObjectError → Type 0
Judges (Ok x) broken = broken ≡ None
Judges (Err e) broken = IsError e broken

-- the only possible error is that memory ran out
abbrev pub OnlyMemory : {X : Type 0} → Result X DecodeError → Type 0
OnlyMemory (Ok x) = Unit {0}
OnlyMemory (Err (Object e)) = ⊥
OnlyMemory (Err NoMemory) = Unit {0}

-- this is what was read, unless memory ran out
abbrev pub Gives : {X : Type 0} → Result X DecodeError → X → Type 0
Gives (Ok x) y = x ≡ y
Gives (Err (Object e)) y = ⊥
Gives (Err NoMemory) y = Unit {0}
