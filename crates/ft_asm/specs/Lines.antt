-- The lines of assembly texts, by the words that spell them.
use Rattle.std.specs.Prelude.{◌≡◌, ℕ, List, [], ◌∷◌, ◌++◌, map, decimal, codes, Option, Some, None}
use Rattle.std.specs.List.{AllByRecursion}
use Rattle.ft_isa.specs.declared.instr.Instr.{Instr}
use Rattle.ft_isa.specs.declared.instr.Instr.TheVariants.{JmpB, BzB}
use Rattle.ft_isa.specs.declared.instr.Subst.{Subst}
use Rattle.ft_types.specs.Spellable.{subst_of}
use Rattle.ft_format.specs.Codes.{Is8, Is32}
use Rattle.ft_format.specs.NodeRecords.{FitsNode}
use Rattle.ft_format.specs.InstrRecords.{FitsInstr}
use Rattle.ft_format.specs.Fits.{FitsCell, FitsReg}
use Rattle.ft_asm.specs.Words.{IsAnyWord}
use Rattle.ft_asm.specs.Operands.{AReg, AColour, AByte, AnIndex, AWord, ABasic, AName, Form, form, form_words}
use Rattle.ft_asm.specs.NodeForms.{shape_form}
use Rattle.ft_asm.specs.InstrForms.{instr_form}
use Rattle.ft_asm.specs.declared.line.Code.{Code}
use Rattle.ft_asm.specs.declared.line.Line.{Line}
use Rattle.ft_asm.specs.declared.line.Line.TheVariants as lines

-- HOW A LINE IS WRITTEN

-- the form of a line, except for the rows of an instruction
abbrev pub line_form : Line → Form
line_form (lines.Cell c) = form (codes "cell") (AName c.name ∷ ABasic c.basic ∷ AWord c.init ∷ [])
line_form (lines.Node n) = form (codes "node") (AByte n.scope ∷ AName (shape_form n.shape).first ∷ (shape_form n.shape).operands)
line_form (lines.Type ints memory) = form (codes "type") (AByte ints ∷ AnIndex memory ∷ [])
line_form (lines.Reg r) = form (codes "reg") (AReg r.reg ∷ AColour r.colour ∷ ABasic r.basic ∷ AnIndex r.expr ∷ [])
line_form (lines.Pend address value) = form (codes "pend") (AnIndex address ∷ AnIndex value ∷ [])
line_form (lines.Block t) = form (codes "block") (AnIndex t ∷ [])
line_form (lines.Code code) = instr_form code.instr
line_form (lines.Entry b) = form (codes "entry") (AnIndex b ∷ [])

-- the words of an instruction, and then its rows
abbrev pub code_words : Code → List (List ℕ)
code_words code = form_words (instr_form code.instr) ++ map decimal code.rows

-- the words of a line
abbrev pub line_words : Line → List (List ℕ)
line_words (lines.Code code) = code_words code
line_words line = form_words (line_form line)

-- WHAT FITS

-- the instruction, with rows `first` up to `past` as those of its substitution, if it carries one
abbrev pub placed : ℕ → ℕ → Instr → Instr
placed first past (JmpB rd s) = JmpB rd (record { first = first; past = past; memory = s.memory })
placed first past (BzB rz rd s) = BzB rz rd (record { first = first; past = past; memory = s.memory })
placed first past i = i

-- the rows fit; without a substitution there are none
abbrev pub FitsRows : List ℕ → Option Subst → Type 0
FitsRows rows None = rows ≡ []
FitsRows rows (Some s) = AllByRecursion Is32 rows

-- the numbers of an instruction and of its rows fit; its own substitution has no rows, since they are kept separately
pub record FitsCode (code : Code) : Type 0 where
  pub instr : FitsInstr code.instr
  pub apart : placed 0 0 code.instr ≡ code.instr
  pub rows : FitsRows code.rows (subst_of code.instr)

-- the numbers of a line fit, and a cell's name is a word
abbrev pub FitsLine : Line → Type 0
FitsLine (lines.Cell c) = IsAnyWord c.name × FitsCell c
FitsLine (lines.Node n) = FitsNode n
FitsLine (lines.Type ints memory) = Is8 ints × Is32 memory
FitsLine (lines.Reg r) = FitsReg r
FitsLine (lines.Pend address value) = Is32 address × Is32 value
FitsLine (lines.Block t) = Is32 t
FitsLine (lines.Code code) = FitsCode code
FitsLine (lines.Entry b) = Is32 b

-- the line fits, and these are its words
abbrev pub IsForm : List (List ℕ) → Line → Type 0
IsForm words line = FitsLine line × (words ≡ line_words line)
