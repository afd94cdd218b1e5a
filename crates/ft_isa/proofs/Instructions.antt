-- Which kinds of instructions exclude each other, and case analysis by what an instruction does.
use Rattle.std.proofs.Common.{◌≡◌, ℕ, true, false, Some, refl}
use Rattle.ft_isa.specs.declared.colour.Colour.{Colour}
use Rattle.ft_isa.specs.declared.reg.Reg.{Reg}
use Rattle.ft_isa.specs.declared.instr.Instr.{Instr}
use Rattle.ft_isa.specs.declared.instr.Instr.TheVariants.{St, JmpG, JmpB, BzG, BzB, Halt}
use Rattle.ft_isa.specs.Instructions.{is_fixed, is_leading, written}

-- an instruction is fixed, or is a store, or writes a register
pub data Kind : Instr → Type 0 where
  fixed : {i : Instr} → is_fixed i ≡ true → is_leading i ≡ false → Kind i
  store : (colour : Colour) (rd rs : Reg) → Kind (St colour rd rs)
  write : {i : Instr} (r : ℕ) → is_fixed i ≡ false → written i ≡ Some r → Kind i

pub kind_of : (i : Instr) → Kind i
kind_of (St colour rd rs) = store colour rd rs
kind_of (JmpG rd) = fixed refl refl
kind_of (JmpB rd subst) = fixed refl refl
kind_of (BzG rz rd) = fixed refl refl
kind_of (BzB rz rd subst) = fixed refl refl
kind_of Halt = fixed refl refl
kind_of i = write _ refl refl

-- a leading instruction is not fixed
pub leading_is_free : (i : Instr) → is_leading i ≡ true → is_fixed i ≡ false
leading_is_free i h = by_kind (kind_of i) h
  where
    by_kind : {i : Instr} → Kind i → is_leading i ≡ true → is_fixed i ≡ false
    by_kind (fixed f n) h = cc
    by_kind (store colour rd rs) h = refl
    by_kind (write r f w) h = f
