-- The line that words spell, word by word: private to the reader of lines.
use Rattle.std.specs.Prelude.{ℕ, List, [], ◌∷◌, codes, Option, None, option_and_then, if◌then◌else◌}
use Rattle.std.specs.Str.{bytes_eq}
use Rattle.ft_text.specs.LineWords.{ended}
use Rattle.ft_asm.specs.Forms.{OneReg, OneColour, OneByte, OneIndex, OneWord, OneBasic, OneName, Row, row, row_in, among}
use Rattle.ft_asm.specs.NodeForms.{node_in}
use Rattle.ft_asm.specs.InstrForms.{code_in}
use Rattle.ft_asm.specs.declared.line.Line.{Line}
use Rattle.ft_asm.specs.declared.line.Line.TheVariants as lines

abbrev pub cell_row : Row Line
cell_row = row (codes "cell") (OneName ∷ OneBasic ∷ OneWord ∷ []) (λ name basic init. lines.Cell (record { name = name; basic = basic; init = init }))

abbrev pub type_row : Row Line
type_row = row (codes "type") (OneByte ∷ OneIndex ∷ []) (λ ints memory. lines.Type ints memory)

abbrev pub reg_row : Row Line
reg_row = row (codes "reg") (OneReg ∷ OneColour ∷ OneBasic ∷ OneIndex ∷ []) (λ r c b e. lines.Reg (record { reg = r; colour = c; basic = b; expr = e }))

abbrev pub pend_row : Row Line
pend_row = row (codes "pend") (OneIndex ∷ OneIndex ∷ []) (λ address value. lines.Pend address value)

abbrev pub block_row : Row Line
block_row = row (codes "block") (OneIndex ∷ []) (λ t. lines.Block t)

abbrev pub entry_row : Row Line
entry_row = row (codes "entry") (OneIndex ∷ []) (λ b. lines.Entry b)

-- the line that a row reads, if no word is left
abbrev pub all_in : Row Line → List (List ℕ) → Option Line
all_in r words = option_and_then (λ p. ended p.0 p.1) (row_in r words)

-- the rows of all lines except nodes and instructions
abbrev pub line_rows : List (Row Line)
line_rows = cell_row ∷ type_row ∷ reg_row ∷ pend_row ∷ block_row ∷ entry_row ∷ []

-- a line whose first word is this one
abbrev pub line_with : List ℕ → List (List ℕ) → Option Line
line_with word words = if bytes_eq word (codes "node") then node_in words else among line_rows (λ r. all_in r words) word (code_in word words)

-- the line that these words spell
abbrev pub line_in : List (List ℕ) → Option Line
line_in [] = None
line_in (word ∷ words) = line_with word words
