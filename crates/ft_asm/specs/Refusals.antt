-- How the assembler's results relate to the outcomes of texts.
use Rattle.std.specs.Prelude.{◌≡◌, List, ℕ, Result, Ok, Err}
use Rattle.std.specs.declared.vec.Vec.{Vec}
use Rattle.std.specs.declared.alloc.Global.{Global}
use Rattle.ft_types.specs.declared.object.Object as objects
use Rattle.ft_format.specs.declared.version.Version.TheVariants.{Second}
use Rattle.ft_format.specs.Format.{Spells}
use Rattle.ft_asm.specs.declared.asm_error.AsmError.{AsmError}
use Rattle.ft_asm.specs.declared.asm_error.AsmError.TheVariants as errors
use Rattle.ft_asm.specs.Reads.{Answer, Is, TooLong, Text, Order, Broken, Applies}

-- a refusal applies to the text; `NoMemory` says nothing about the text
abbrev pub IsRefusal : List ℕ → AsmError → Type 0
IsRefusal text (errors.Text line) = Applies text (Text line)
IsRefusal text (errors.Order line) = Applies text (Order line)
IsRefusal text errors.TooLong = Applies text TooLong
IsRefusal text (errors.Object error) = Applies text (Broken error)
IsRefusal text errors.NoMemory = Unit {0}

-- an error is this outcome, unless memory ran out
abbrev pub IsError : AsmError → Answer → Type 0
IsError (errors.Text line) answer = Text line ≡ answer
IsError (errors.Order line) answer = Order line ≡ answer
IsError errors.TooLong answer = TooLong ≡ answer
IsError (errors.Object error) answer = Broken error ≡ answer
IsError errors.NoMemory answer = Unit {0}

-- the result is this outcome, unless memory ran out
abbrev pub Gives : Result objects.Object AsmError → Answer → Type 0
Gives (Ok object) answer = Is object ≡ answer
Gives (Err error) answer = IsError error answer

-- these bytes spell, in version 2 of the format, the object that the text reads as
pub record IsAssembly (text bytes : List ℕ) : Type 0 where
  pub object : objects.Object
  pub reads : Applies text (Is object)
  pub spelled : Spells bytes Second object

-- the outcome is an object, and these bytes spell it
pub record IsSpelled (bytes : List ℕ) (answer : Answer) : Type 0 where
  pub object : objects.Object
  pub is : Is object ≡ answer
  pub spelled : Spells bytes Second object

-- the bytes or the refusal returned are those of this outcome, unless memory ran out
abbrev pub GivesBytes : Result (Vec ℕ Global) AsmError → Answer → Type 0
GivesBytes (Ok bytes) answer = IsSpelled bytes.items answer
GivesBytes (Err error) answer = IsError error answer
