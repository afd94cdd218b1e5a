-- How far an object is scheduled: private to the code.
use Rattle.std.specs.Prelude.{◌≡◌, ℕ, ◌<◌, List, ◌++◌, length, drop, slice_get}
use Rattle.std.specs.Option.{option_map, unwrap_or}
use Rattle.ft_isa.specs.declared.instr.Instr.{Instr}
use Rattle.ft_types.specs.declared.object.Object.{Object}
use Rattle.ft_types.specs.Objects.{start_of}
use Rattle.ft_exchange.specs.Exchange.{IsPermitted, with_instrs}
use Rattle.ft_exchange.specs.Scheduled.{ComesFrom}

-- where block b begins, or where the code ends
abbrev pub boundary : Object → ℕ → ℕ
boundary o b = unwrap_or (option_map start_of (slice_get o.blocks b)) (length o.instrs)

-- the written code, followed by the rest of the object's own
abbrev pub laid_before : Object → ℕ → List Instr → List Instr
laid_before o b laid = laid ++ drop (boundary o b) o.instrs

-- the blocks below b are written: followed by the rest of the object's own code, they come from the object by permitted
-- exchanges, and no permitted exchange is left in them
pub record IsUpTo (o : Object) (b : ℕ) (laid : List Instr) : Type 0 where
  pub laid_to : length laid ≡ boundary o b
  pub comes : ComesFrom o (with_instrs o (laid_before o b laid))
  pub none_left : (j k : ℕ) → j < b → IsPermitted (with_instrs o (laid_before o b laid)) j k → ⊥
