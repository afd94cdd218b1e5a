-- The array of code types by register, which represents the entered registers.
use Rattle.std.specs.Prelude.{◌≡◌, ℕ, ◌<◌, Some, slice_get}
use Rattle.std.specs.FinMap as finite
use Rattle.ft_modules.specs.CodeWalk.{Entered}
use Rattle.ft_linker.specs.declared.traced.Traced.{Traced}

-- the array represents these entered registers
pub record Stands (a : Traced) (e : Entered) : Type 0 where
  pub each : (r : ℕ) → r < 64 → slice_get a.types r ≡ Some (finite.get e r)
