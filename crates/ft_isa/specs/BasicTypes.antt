-- Basic types.
use Rattle.std.specs.Prelude.{ℕ, suc}
use Rattle.ft_isa.specs.declared.basic.Basic.{Basic}
use Rattle.ft_isa.specs.declared.basic.Base.TheVariants.{Int, Code}

-- the basic type of all words
abbrev pub int : Basic
int = record { refs = 0; base = Int }

-- the basic type of the code addresses of blocks of code type t
abbrev pub code : ℕ → Basic
code t = record { refs = 0; base = Code t }

-- the basic type of the addresses of cells of this type
abbrev pub ref : Basic → Basic
ref b = record { refs = suc b.refs; base = b.base }
