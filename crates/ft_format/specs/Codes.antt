-- Fields of records: the codes of colours, registers and basic types, how codes are decoded, and which values fit.
use Rattle.std.specs.Prelude.{ℕ, ◌+◌, ◌*◌, ◌^◌, ◌<◌, ◌==◌, Option, Some, None, if◌then◌else◌}
use Rattle.std.proofs.Common.{refl}
use borrow.Author.Tests.{ltb-true}
use Rattle.ft_isa.specs.Registers.{reg_of}
use Rattle.ft_isa.specs.declared.reg.Reg.{Reg}
use Rattle.ft_isa.specs.declared.colour.Colour.{Colour}
use Rattle.ft_isa.specs.declared.colour.Colour.TheVariants.{Green, Blue}
use Rattle.ft_isa.specs.declared.colour.Coloured.{Coloured}
use Rattle.ft_isa.specs.declared.basic.Base.{Base}
use Rattle.ft_isa.specs.declared.basic.Base.TheVariants.{Int, Code}
use Rattle.ft_isa.specs.declared.basic.Basic.{Basic}
use Rattle.ft_types.specs.NodeRows.{joined}

-- a number that fits in this many bits
abbrev pub Is8 : ℕ → Type 0
Is8 n = n < 2 ^ 8

abbrev pub Is16 : ℕ → Type 0
Is16 n = n < 2 ^ 16

abbrev pub Is32 : ℕ → Type 0
Is32 n = n < 2 ^ 32

-- register 0, the default
abbrev pub first_register : Reg
first_register = record { number = 0; in_range = ltb-true 0 64 refl }

-- a register, or register 0 if there is none
abbrev pub or_first : Option Reg → Reg
or_first None = first_register
or_first (Some r) = r

-- the register with this number
abbrev pub register_of : ℕ → Reg
register_of n = or_first (reg_of n)

-- the code of a colour
abbrev pub colour_code : Colour → ℕ
colour_code Green = 0
colour_code Blue = 1

-- the colour with this code
abbrev pub colour_of : ℕ → Colour
colour_of n = if n == 0 then Green else Blue

-- a coloured word, from its colour code and the two halves of the word
abbrev pub coloured : ℕ → ℕ → ℕ → Coloured
coloured colour high low = record { colour = colour_of colour; word = joined high low }

-- the code of a base
abbrev pub base_code : Base → ℕ
base_code Int = 0
base_code (Code t) = 1

-- the code type of a base, 0 for `int`
abbrev pub base_type : Base → ℕ
base_type Int = 0
base_type (Code t) = t

-- a base, from its code and its code type
abbrev pub base_of : ℕ → ℕ → Base
base_of base code_type = if base == 0 then Int else Code code_type

-- a basic type, from its refs, the code of its base and its code type
abbrev pub basic_type_of : ℕ → ℕ → ℕ → Basic
basic_type_of refs base code_type = record { refs = refs; base = base_of base code_type }

-- the four bytes of a basic type as one number
abbrev pub basic_number : Basic → ℕ
basic_number b = b.refs * 2 ^ 24 + base_code b.base * 2 ^ 16 + base_type b.base

-- a base whose code type fits in 16 bits
abbrev pub FitsBase : Base → Type 0
FitsBase Int = Unit {0}
FitsBase (Code t) = Is16 t

-- a basic type with at most 255 refs and a base that fits
abbrev pub FitsBasic : Basic → Type 0
FitsBasic basic = Is8 basic.refs × FitsBase basic.base
