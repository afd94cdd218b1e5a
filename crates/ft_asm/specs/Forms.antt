-- How words are read as values, and lines by rows (a first word, and the kinds of its operands): private to the reader.
use Rattle.std.specs.Prelude.{ℕ, zero, suc, ◌^◌, ◌<◌, List, [], ◌∷◌, take, drop, Option, Some, None, option_map, option_and_then, nat_lt, ◌==◌, if◌then◌else◌, codes}
use Rattle.std.specs.List.{AllByRecursion}
use Rattle.std.specs.Str.{bytes_eq}
use Rattle.ft_isa.specs.Registers.{reg_of}
use Rattle.ft_isa.specs.declared.basic.Base.{Base}
use Rattle.ft_isa.specs.declared.basic.Base.TheVariants.{Int}
use Rattle.ft_isa.specs.declared.basic.Base.TheVariants as bases
use Rattle.ft_isa.specs.declared.basic.Basic.{Basic}
use Rattle.ft_isa.specs.declared.colour.Colour.{Colour}
use Rattle.ft_isa.specs.declared.colour.Colour.TheVariants.{Green, Blue}
use Rattle.ft_isa.specs.declared.reg.Reg.{Reg}
use Rattle.ft_text.specs.LineWords.{number_of, taken}
use Rattle.ft_format.specs.Codes.{FitsBasic}
use Rattle.ft_asm.specs.Words.{IsAnyWord}
use Rattle.ft_asm.specs.Operands.{Operand, AByte, AnIndex, AWord, ABasic, AName, Form}
use Rattle.ft_asm.specs.declared.line.Line.{Line}

-- WORDS

-- the number, if it is below a limit
abbrev pub if_below : ℕ → ℕ → Option ℕ
if_below limit n = if nat_lt n limit then Some n else None

-- the number that a number text spells, if it is below a limit
unfoldable pub below : ℕ → List ℕ → Option ℕ
below limit word = option_and_then (if_below limit) (number_of word)

-- the register that a word names
unfoldable pub reg_in : List ℕ → Option Reg
reg_in [] = None
reg_in (byte ∷ bytes) = if byte == 114 then option_and_then reg_of (number_of bytes) else None

-- the colour that a word names
unfoldable pub colour_in : List ℕ → Option Colour
colour_in word = if bytes_eq word (codes "G") then Some Green else (if bytes_eq word (codes "B") then Some Blue else None)

-- a base without refs as a basic type
abbrev pub plain_basic : Base → Basic
plain_basic base = record { refs = 0; base = base }

-- the base that a word spells
abbrev pub base_in : List ℕ → Option Base
base_in word = if bytes_eq word (codes "int") then Some Int else (if bytes_eq (take 5 word) (codes "code:") then option_map bases.Code (below (2 ^ 16) (drop 5 word)) else None)

-- a basic type with one more ref
abbrev pub one_more_ref : Basic → Basic
one_more_ref basic = record { refs = suc basic.refs; base = basic.base }

-- the basic type that a word spells, with at most this many refs
unfoldable pub basic_in : ℕ → List ℕ → Option Basic
basic_in zero word = option_map plain_basic (base_in word)
basic_in (suc n) word = if bytes_eq (take 4 word) (codes "ref:") then option_map one_more_ref (basic_in n (drop 4 word)) else option_map plain_basic (base_in word)

-- LISTS OF WORDS

-- the 32-bit numbers that these words spell
abbrev pub rows_in : List (List ℕ) → Option (List ℕ)
rows_in [] = Some []
rows_in (word ∷ words) = option_and_then (λ n. option_map (λ ns. n ∷ ns) (rows_in words)) (below (2 ^ 32) word)

-- ROWS

-- the kinds of operands, and the values of each
pub data Kind : Type 0 where
  OneReg : Kind
  OneColour : Kind
  OneByte : Kind
  OneIndex : Kind
  OneWord : Kind
  OneBasic : Kind
  OneName : Kind

abbrev pub Value : Kind → Type 0
Value OneReg = Reg
Value OneColour = Colour
Value OneByte = ℕ
Value OneIndex = ℕ
Value OneWord = ℕ
Value OneBasic = Basic
Value OneName = List ℕ

-- the value that a word spells, by its kind
abbrev pub value_in : (k : Kind) → List ℕ → Option (Value k)
value_in OneReg word = reg_in word
value_in OneColour word = colour_in word
value_in OneByte word = below (2 ^ 8) word
value_in OneIndex word = below (2 ^ 32) word
value_in OneWord word = below (2 ^ 64) word
value_in OneBasic word = basic_in 255 word
value_in OneName word = Some word

-- an operand fits: a number is in range, a name is a word
abbrev pub FitsOperand : Operand → Type 0
FitsOperand (AByte n) = n < 2 ^ 8
FitsOperand (AnIndex n) = n < 2 ^ 32
FitsOperand (AWord n) = n < 2 ^ 64
FitsOperand (ABasic basic) = FitsBasic basic
FitsOperand (AName name) = IsAnyWord name
FitsOperand o = Unit {0}

abbrev pub FitsOperands : Form → Type 0
FitsOperands f = AllByRecursion FitsOperand f.operands

-- a function that takes a value of each of these kinds
abbrev pub Taking : List Kind → Type 0 → Type 0
Taking [] A = A
Taking (k ∷ ks) A = Value k → Taking ks A

-- the function applied to the values of the first words, and the words after them
abbrev pub made_in : {A : Type 0} → (ks : List Kind) → Taking ks A → List (List ℕ) → Option (A × List (List ℕ))
made_in [] made words = Some (made, words)
made_in (k ∷ ks) made words = option_and_then (λ p. made_in ks (made p.0) p.1) (taken (value_in k) words)

-- a first word, the kinds of the operands after it, and the function that combines their values
pub record Row (A : Type 0) : Type 0 where
  pub first : List ℕ
  pub kinds : List Kind
  pub made : Taking kinds A

abbrev pub row : {A : Type 0} → List ℕ → (ks : List Kind) → Taking ks A → Row A
row first kinds made = record { first = first; kinds = kinds; made = made }

abbrev pub row_in : {A : Type 0} → Row A → List (List ℕ) → Option (A × List (List ℕ))
row_in r words = made_in r.kinds r.made words

-- the result of `read` for the row with this first word, or `other` if there is none
abbrev pub among : {A B : Type 0} → List (Row A) → (Row A → Option B) → List ℕ → Option B → Option B
among [] read word other = other
among (r ∷ rs) read word other = if bytes_eq word r.first then read r else among rs read word other
