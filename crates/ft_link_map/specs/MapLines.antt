-- The lines of a link map, and how they are written.
use Rattle.std.specs.Prelude.{◌≡◌, ℕ, ◌<◌, ◌^◌, Bool, true, false, ◌&&◌, ◌||◌, nat_le, nat_lt, List, [], ◌∷◌, ◌++◌, length, decimal, codes}
use Rattle.std.specs.List.{AllZip, list_all}
use Rattle.ft_types.specs.Spellable.{is_letter, is_digit}
use Rattle.ft_text.specs.Lines.{lines_of}

-- what a line says
pub data MapLine : Type 0 where
  -- a module, given by its file
  Module : List ℕ → MapLine
  -- an export under a name: a block of the module above
  Export : List ℕ → ℕ → MapLine
  -- an import of a name: a block of the module above
  Import : List ℕ → ℕ → MapLine
  -- any other line
  Bad : MapLine

-- a byte of a file's name: printable, and not a space
abbrev pub is_file_byte : ℕ → Bool
is_file_byte byte = nat_le 33 byte && nat_le byte 126

-- a file's name: 1 to 255 such bytes
abbrev pub is_file : List ℕ → Bool
is_file file = nat_lt 0 (length file) && nat_le (length file) 255 && list_all is_file_byte file

-- an ASCII letter, an underscore or a digit
abbrev pub is_word_byte : ℕ → Bool
is_word_byte byte = is_letter byte || is_digit byte

-- a letter or underscore followed by letters, digits and underscores
abbrev pub begins_name : List ℕ → Bool
begins_name [] = false
begins_name (byte ∷ bytes) = is_letter byte && list_all is_word_byte bytes

-- a name: such a text of at most 32 bytes
abbrev pub is_block_name : List ℕ → Bool
is_block_name name = begins_name name && nat_le (length name) 32

-- how a line is written: a word and its operands, separated by single spaces
abbrev pub IsWritten : MapLine → List ℕ → Type 0
IsWritten (Module file) line = (is_file file ≡ true) × (line ≡ codes "module " ++ file)
IsWritten (Export name block) line = (is_block_name name ≡ true) × (block < 2 ^ 32) × (line ≡ codes "export " ++ name ++ codes " " ++ decimal block)
IsWritten (Import name block) line = (is_block_name name ≡ true) × (block < 2 ^ 32) × (line ≡ codes "import " ++ name ++ codes " " ++ decimal block)
IsWritten Bad line = ⊥

-- the line says this: it is written in this form, or it is bad and has none of the forms
abbrev pub Says : List ℕ → MapLine → Type 0
Says line Bad = (other : MapLine) → ¬ (IsWritten other line)
Says line said = IsWritten said line

-- the lines of a text say these, one each; the last line feed is optional, and an empty text has no lines
abbrev pub AreSaid : List ℕ → List MapLine → Type 0
AreSaid text said = AllZip Says (lines_of text) said
