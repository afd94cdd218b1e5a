-- What a step of renaming returns: private to the code.
use Rattle.std.specs.Prelude.{◌≡◌, ℕ, List, Option, Some, Result, Err}
use Rattle.ft_syntax.specs.declared.source_error.SourceError.{SourceError}
use Rattle.ft_syntax.specs.declared.source_error.SourceError.TheVariants.{Unknown, NoMemory}
use Rattle.ft_scope.specs.declared.slot.Slot.{Slot}
use Rattle.ft_scope.specs.declared.slot.Slot.TheVariants.{Run}
use Rattle.ft_scope.specs.Size.{SlotFits, RunFits}

-- an error of the code agrees with a result of the definition; nothing is claimed if memory runs out
abbrev pub Fails : {A : Type 0} → SourceError → Result A ℕ → Type 0
Fails (Unknown at) r = r ≡ Err at
Fails NoMemory r = Unit {0}
Fails _ r = ⊥

-- a slot is one of c cells or v variables, or a run of existing cells
abbrev pub AnyFits : ℕ → ℕ → Slot → Type 0
AnyFits c v (Run f l) = RunFits c (Run f l)
AnyFits c v s = SlotFits c v s

-- each slot that a look-up returns is one of c cells or v variables, or a run of existing cells
abbrev pub AllFit : (List ℕ → Option Slot) → ℕ → ℕ → Type 0
AllFit look c v = (text : List ℕ) (s : Slot) → look text ≡ Some s → AnyFits c v s
