-- The forms of instructions: how each is written, and by which row it is read. Rows are private to the line reader.
use Rattle.std.specs.Prelude.{ℕ, List, [], ◌∷◌, codes, Option, Some, None, option_map, option_and_then}
use Rattle.ft_isa.specs.Operations.{op_word, op_in}
use Rattle.ft_isa.specs.declared.colour.Colour.{Colour}
use Rattle.ft_isa.specs.declared.colour.Colour.TheVariants.{Green, Blue}
use Rattle.ft_isa.specs.declared.instr.Instr.{Instr}
use Rattle.ft_isa.specs.declared.instr.Instr.TheVariants.{OpReg, OpWord, Mov, Ld, St, JmpG, JmpB, BzG, BzB, Halt, Idx}
use Rattle.ft_isa.specs.declared.instr.Subst.{Subst}
use Rattle.ft_isa.specs.declared.op.Op.{Op}
use Rattle.ft_types.specs.Spellable.{subst_of}
use Rattle.ft_asm.specs.Operands.{AReg, AColour, AnIndex, AWord, ABasic, Form, form}
use Rattle.ft_text.specs.LineWords.{ended}
use Rattle.ft_asm.specs.Forms.{OneReg, OneColour, OneIndex, OneWord, OneBasic, Row, row, row_in, among, rows_in}
use Rattle.ft_asm.specs.declared.line.Line.{Line}
use Rattle.ft_asm.specs.declared.line.Line.TheVariants as lines

-- HOW EACH IS WRITTEN

-- the first words of loads and stores
abbrev pub ld_word : Colour → List ℕ
ld_word Green = codes "ld_G"
ld_word Blue = codes "ld_B"

abbrev pub st_word : Colour → List ℕ
st_word Green = codes "st_G"
st_word Blue = codes "st_B"

-- the form of an instruction, except for the rows of its substitution
abbrev pub instr_form : Instr → Form
instr_form (OpReg op rd rs rt) = form (op_word op) (AReg rd ∷ AReg rs ∷ AReg rt ∷ [])
instr_form (OpWord op rd rs value) = form (op_word op) (AReg rd ∷ AReg rs ∷ AColour value.colour ∷ AWord value.word ∷ [])
instr_form (Mov rd basic value) = form (codes "mov") (AReg rd ∷ AColour value.colour ∷ AWord value.word ∷ ABasic basic ∷ [])
instr_form (Ld colour rd rs) = form (ld_word colour) (AReg rd ∷ AReg rs ∷ [])
instr_form (St colour rd rs) = form (st_word colour) (AReg rd ∷ AReg rs ∷ [])
instr_form (JmpG rd) = form (codes "jmp_G") (AReg rd ∷ [])
instr_form (JmpB rd s) = form (codes "jmp_B") (AReg rd ∷ AnIndex s.memory ∷ [])
instr_form (BzG rz rd) = form (codes "bz_G") (AReg rz ∷ AReg rd ∷ [])
instr_form (BzB rz rd s) = form (codes "bz_B") (AReg rz ∷ AReg rd ∷ AnIndex s.memory ∷ [])
instr_form Halt = form (codes "halt") []
instr_form (Idx rd rs first m) = form (codes "idx") (AReg rd ∷ AReg rs ∷ AnIndex first ∷ AnIndex m ∷ [])

-- THE READER'S ROWS

-- a substitution whose rows are kept separately
abbrev pub no_rows : ℕ → Subst
no_rows memory = record { first = 0; past = 0; memory = memory }

abbrev pub op_reg_row : Op → Row Instr
op_reg_row op = row (op_word op) (OneReg ∷ OneReg ∷ OneReg ∷ []) (λ rd rs rt. OpReg op rd rs rt)

abbrev pub op_word_row : Op → Row Instr
op_word_row op = row (op_word op) (OneReg ∷ OneReg ∷ OneColour ∷ OneWord ∷ []) (λ rd rs c w. OpWord op rd rs (record { colour = c; word = w }))

abbrev pub mov_row : Row Instr
mov_row = row (codes "mov") (OneReg ∷ OneColour ∷ OneWord ∷ OneBasic ∷ []) (λ rd c w b. Mov rd b (record { colour = c; word = w }))

abbrev pub idx_row : Row Instr
idx_row = row (codes "idx") (OneReg ∷ OneReg ∷ OneIndex ∷ OneIndex ∷ []) (λ rd rs first m. Idx rd rs first m)

abbrev pub ld_row : Colour → Row Instr
ld_row c = row (ld_word c) (OneReg ∷ OneReg ∷ []) (λ rd rs. Ld c rd rs)

abbrev pub st_row : Colour → Row Instr
st_row c = row (st_word c) (OneReg ∷ OneReg ∷ []) (λ rd rs. St c rd rs)

abbrev pub jmp_green_row : Row Instr
jmp_green_row = row (codes "jmp_G") (OneReg ∷ []) (λ rd. JmpG rd)

abbrev pub jmp_blue_row : Row Instr
jmp_blue_row = row (codes "jmp_B") (OneReg ∷ OneIndex ∷ []) (λ rd memory. JmpB rd (no_rows memory))

abbrev pub bz_green_row : Row Instr
bz_green_row = row (codes "bz_G") (OneReg ∷ OneReg ∷ []) (λ rz rd. BzG rz rd)

abbrev pub bz_blue_row : Row Instr
bz_blue_row = row (codes "bz_B") (OneReg ∷ OneReg ∷ OneIndex ∷ []) (λ rz rd memory. BzB rz rd (no_rows memory))

abbrev pub halt_row : Row Instr
halt_row = row (codes "halt") [] Halt

-- the rows of all instructions except operations, in two lists: the second has jumps, branches and `halt`
abbrev pub going_rows : List (Row Instr)
going_rows = mov_row ∷ idx_row ∷ ld_row Green ∷ ld_row Blue ∷ st_row Green ∷ st_row Blue ∷ []

abbrev pub transfer_rows : List (Row Instr)
transfer_rows = jmp_green_row ∷ jmp_blue_row ∷ bz_green_row ∷ bz_blue_row ∷ halt_row ∷ []

-- the first of two options, or the second if the first is missing
abbrev pub or_else : {A : Type 0} → Option A → Option A → Option A
or_else None other = other
or_else (Some a) other = Some a

-- an operation whose second operand is a register or a coloured word
abbrev pub op_code_in : Op → List (List ℕ) → Option (Instr × List (List ℕ))
op_code_in op words = or_else (row_in (op_reg_row op) words) (row_in (op_word_row op) words)

abbrev pub op_line_in : List ℕ → List (List ℕ) → Option (Instr × List (List ℕ))
op_line_in word words = option_and_then (λ op. op_code_in op words) (op_in word)

-- a jump, a branch, `halt` or an operation whose first word is this one
abbrev pub transfer_in : List ℕ → List (List ℕ) → Option (Instr × List (List ℕ))
transfer_in word words = among transfer_rows (λ r. row_in r words) word (op_line_in word words)

-- an instruction whose first word is this one, and the words after it
abbrev pub instr_in : List ℕ → List (List ℕ) → Option (Instr × List (List ℕ))
instr_in word words = among going_rows (λ r. row_in r words) word (transfer_in word words)

-- an instruction and its rows, which are the remaining words
abbrev pub code_line : Instr → List ℕ → Line
code_line i rows = lines.Code (record { instr = i; rows = rows })

abbrev pub with_rows : Option Subst → Instr → List (List ℕ) → Option Line
with_rows None i words = ended (code_line i []) words
with_rows (Some s) i words = option_map (code_line i) (rows_in words)

abbrev pub code_in : List ℕ → List (List ℕ) → Option Line
code_in word words = option_and_then (λ p. with_rows (subst_of p.0) p.0 p.1) (instr_in word words)
