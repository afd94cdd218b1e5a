-- The words of operands, and how a line is written: a first word, and operands.
use Rattle.std.specs.Prelude.{ℕ, zero, suc, List, ◌∷◌, ◌++◌, map, decimal, codes}
use Rattle.ft_isa.specs.declared.basic.Base.{Base}
use Rattle.ft_isa.specs.declared.basic.Base.TheVariants.{Int}
use Rattle.ft_isa.specs.declared.basic.Base.TheVariants as bases
use Rattle.ft_isa.specs.declared.basic.Basic.{Basic}
use Rattle.ft_isa.specs.declared.colour.Colour.{Colour}
use Rattle.ft_isa.specs.declared.colour.Colour.TheVariants.{Green, Blue}
use Rattle.ft_isa.specs.declared.reg.Reg.{Reg}

-- FIELDS

-- the word of a register
abbrev pub reg_word : Reg → List ℕ
reg_word reg = codes "r" ++ decimal reg.number

-- the word of a colour
abbrev pub colour_word : Colour → List ℕ
colour_word Green = codes "G"
colour_word Blue = codes "B"

-- the word of a base
abbrev pub base_word : Base → List ℕ
base_word Int = codes "int"
base_word (bases.Code t) = codes "code:" ++ decimal t

-- `ref:` this many times before a base
abbrev pub refs_word : ℕ → Base → List ℕ
refs_word zero base = base_word base
refs_word (suc n) base = codes "ref:" ++ refs_word n base

-- the word of a basic type
abbrev pub basic_word : Basic → List ℕ
basic_word basic = refs_word basic.refs basic.base

-- WORDS OF A LINE

-- what a word denotes: a register, a colour, an 8-, 32- or 64-bit number, a basic type, or itself
pub data Operand : Type 0 where
  AReg : Reg → Operand
  AColour : Colour → Operand
  AByte : ℕ → Operand
  AnIndex : ℕ → Operand
  AWord : ℕ → Operand
  ABasic : Basic → Operand
  AName : List ℕ → Operand

-- the word of an operand
abbrev pub operand_word : Operand → List ℕ
operand_word (AReg reg) = reg_word reg
operand_word (AColour colour) = colour_word colour
operand_word (AByte n) = decimal n
operand_word (AnIndex n) = decimal n
operand_word (AWord n) = decimal n
operand_word (ABasic basic) = basic_word basic
operand_word (AName name) = name

-- how a line is written: its first word, and its operands in order
pub record Form : Type 0 where
  pub first : List ℕ
  pub operands : List Operand

abbrev pub form : List ℕ → List Operand → Form
form first operands = record { first = first; operands = operands }

-- the words of a form
abbrev pub form_words : Form → List (List ℕ)
form_words f = f.first ∷ map operand_word f.operands
