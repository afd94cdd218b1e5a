-- The register with a given number.
use Rattle.std.specs.Prelude.{◌≡◌, ℕ, Bool, true, false, Option, Some, None, nat_lt}
use Rattle.std.proofs.Common.{refl}
use borrow.Author.Tests.{ltb-true}
use Rattle.ft_isa.specs.declared.reg.Reg.{Reg}

-- the register with this number, given whether the number is below 64
abbrev pub reg_if : (n : ℕ) (b : Bool) → nat_lt n 64 ≡ b → Option Reg
reg_if n true below = Some (record { number = n; in_range = ltb-true n 64 below })
reg_if n false above = None

-- the register with this number, if the number is below 64
abbrev pub reg_of : ℕ → Option Reg
reg_of n = reg_if n (nat_lt n 64) refl
