-- Lines that fit are read back from their text.
use Rattle.std.proofs.Common.{◌≡◌, ℕ, zero, suc, ◌+◌, ◌%◌, ◌^◌, ◌<◌, ◌≤◌, ◌==◌, Bool, true, false, not, List, []}
use Rattle.std.proofs.Common.{◌∷◌, ◌++◌, length, map, decimal, codes, refl, ap, sym, ◌∙◌, subst, append_assoc, arith}
use Rattle.std.specs.Prelude.{if◌then◌else◌, ◌&&◌, nat_lt, Option, Some, None}
use Rattle.std.specs.List.{AllByRecursion, AllZip, flat_map, list_all}
use Rattle.std.proofs.lemmas.Bool.{and_parts, and_from, not-true, ne_eqb, or_from, ltb-true}
use Rattle.std.proofs.lemmas.Fmt.{decimal_by_steps, decimal_nonempty}
use Rattle.ft_isa.specs.declared.basic.Base.{Base}
use Rattle.ft_isa.specs.declared.basic.Base.TheVariants.{Int}
use Rattle.ft_isa.specs.declared.basic.Base.TheVariants as bases
use Rattle.ft_isa.specs.declared.colour.Colour.{Colour}
use Rattle.ft_isa.specs.declared.colour.Colour.TheVariants.{Green, Blue}
use Rattle.ft_isa.specs.Operations.{op_word}
use Rattle.ft_isa.specs.declared.op.Op.{Op}
use Rattle.ft_isa.specs.declared.op.Op.TheVariants.{Add}
use Rattle.ft_isa.specs.declared.instr.Instr.{Instr}
use Rattle.ft_isa.specs.declared.instr.Instr.TheVariants.{OpReg, OpWord, Ld, St}
use Rattle.ft_isa.specs.declared.instr.Subst.{Subst}
use Rattle.ft_isa.specs.declared.reg.Reg.{Reg}
use Rattle.ft_isa.proofs.Lists.{all_append}
use Rattle.ft_types.specs.Spellable.{subst_of}
use Rattle.ft_static.specs.declared.node.Shape.{Shape}
use Rattle.ft_static.specs.declared.node.Shape.TheVariants as shapes
use Rattle.ft_text.specs.Lines.{with_byte, lines_of}
use Rattle.ft_asm.specs.declared.line.Code.{Code}
use Rattle.ft_asm.specs.declared.line.Line.{Line}
use Rattle.ft_asm.specs.declared.line.Line.TheVariants as lines
use Rattle.ft_text.proofs.LineWordLaws.{kept_word}
use Rattle.ft_text.specs.LineWords.{is_blank, is_comment, pieces_of, with_word, with_bytes, words_of}
use Rattle.ft_asm.specs.Words.{is_said, with_said}
use Rattle.ft_asm.specs.Words.{said_in, is_part, HasParts, IsAnyWord}
use Rattle.ft_asm.specs.Operands.{reg_word, colour_word, base_word, refs_word, AReg, AColour, AByte, AnIndex, AWord}
use Rattle.ft_asm.specs.Operands.{ABasic, AName, Operand, operand_word, Form, form_words}
use Rattle.ft_asm.specs.Lines.{line_words, line_form, FitsRows, FitsCode, FitsLine}
use Rattle.ft_asm.specs.NodeForms.{shape_form}
use Rattle.ft_asm.specs.InstrForms.{instr_form}
use Rattle.ft_asm.specs.Lines.{IsForm}
use Rattle.ft_asm.specs.Forms.{FitsOperand, FitsOperands}
use Rattle.ft_format.specs.Codes.{Is32, FitsBase}
use Rattle.ft_format.specs.NodeRecords.{FitsShape}
use Rattle.ft_format.specs.InstrRecords.{FitsInstr}
use Rattle.ft_asm.specs.Reads.{spaced, line_text}

-- PARTS OF WORDS

no_blank : (b : ℕ) → is_part b ≡ true → is_blank b ≡ false
no_blank b e = not-true (is_blank b) (and_parts (not (is_blank b)) (not (b == 10)) e).0

no_feed : (b : ℕ) → is_part b ≡ true → (b == 10) ≡ false
no_feed b e = not-true (b == 10) (and_parts (not (is_blank b)) (not (b == 10)) e).1

pub part_from : (b : ℕ) → 33 ≤ b → is_part b ≡ true
part_from b h =
    and_from (not (is_blank b)) (not (b == 10))
    (ap not (or_from (b == 32) (b == 9) (ne_eqb b 32 (λ e. omega arith)) (ne_eqb b 9 (λ e. omega arith))))
    (ap not (ne_eqb b 10 (λ e. omega arith)))

parts_on : (xs ys : List ℕ) → HasParts xs → HasParts ys → HasParts (xs ++ ys)
parts_on [] ys h i = i
parts_on (x ∷ xs) ys h i = (h.0, parts_on xs ys h.1 i)

word_on : (xs ys : List ℕ) → IsAnyWord xs → HasParts ys → IsAnyWord (xs ++ ys)
word_on [] ys h i = absurd (let some = h.0 in omega arith)
word_on (x ∷ xs) ys h i = (omega arith, parts_on (x ∷ xs) ys h.1 i)

parts_pass : (w : List ℕ) → list_all is_part w ≡ true → HasParts w
parts_pass [] e = tt
parts_pass (b ∷ bs) e = let two = and_parts (is_part b) (list_all is_part bs) e in (two.0, parts_pass bs two.1)

decimal_word : (n : ℕ) → n < 2 ^ 64 → IsAnyWord (decimal n)
decimal_word n h = (
  decimal_nonempty n h,
  decimal_by_steps (λ m ds. HasParts ds) (λ m low. (part_from (48 + m) (omega arith), tt)) (λ m ds ten front.
      parts_on ds ((48 + m % 10) ∷ []) front (part_from (48 + m % 10) (omega arith), tt)) n h,
)

short : (n : ℕ) → n < 2 ^ 32 → IsAnyWord (decimal n)
short n h = decimal_word n (omega arith)

byte_word : (n : ℕ) → n < 2 ^ 8 → IsAnyWord (decimal n)
byte_word n h = decimal_word n (omega arith)

reg_is_word : (r : Reg) → IsAnyWord (reg_word r)
reg_is_word r = let low = r.in_range in word_on (codes "r") (decimal r.number) (
  omega arith,
  (refl, tt),
) (decimal_word r.number (omega arith)).1

colour_is_word : (c : Colour) → IsAnyWord (colour_word c)
colour_is_word Green = (omega arith, (refl, tt))
colour_is_word Blue = (omega arith, (refl, tt))

base_is_word : (base : Base) → FitsBase base → IsAnyWord (base_word base)
base_is_word Int h = (omega arith, (refl, (refl, (refl, tt))))
base_is_word (bases.Code t) h = word_on (codes "code:") (decimal t) (
  omega arith,
  (refl, (refl, (refl, (refl, (refl, tt))))),
) (decimal_word t (omega arith)).1

refs_is_word : (n : ℕ) (base : Base) → FitsBase base → IsAnyWord (refs_word n base)
refs_is_word zero base h = base_is_word base h
refs_is_word (suc n) base h = word_on (codes "ref:") (refs_word n base) (
  omega arith,
  (refl, (refl, (refl, (refl, tt)))),
) (refs_is_word n base h).1

-- each of these is a word
abbrev pub AreWords : List (List ℕ) → Type 0
AreWords ws = AllByRecursion IsAnyWord ws

rows_are_words : (rows : List ℕ) → AllByRecursion Is32 rows → AreWords (map decimal rows)
rows_are_words [] h = tt
rows_are_words (n ∷ ns) h = (short n h.0, rows_are_words ns h.1)

-- FIRST WORDS

-- whether bytes form a word that does not begin a comment
abbrev begins : List ℕ → Bool
begins w = (nat_lt 0 (length w) && list_all is_part w) && not (is_comment w)

pub first_is_word : (w : List ℕ) → begins w ≡ true → IsAnyWord w
first_is_word w e =
    let two = and_parts (nat_lt 0 (length w)) (list_all is_part w) (and_parts (nat_lt 0 (length w)
    && list_all is_part w) (not (is_comment w)) e).0 in
    (ltb-true 0 (length w) two.0, parts_pass w two.1)

op_begins : (op : Op) → begins (op_word op) ≡ true
op_begins Add = refl
op_begins op = refl

pub shape_begins : (shape : Shape) → begins (shape_form shape).first ≡ true
shape_begins (shapes.Op op a b) = op_begins op
shape_begins shape = refl

pub instr_begins : (i : Instr) → begins (instr_form i).first ≡ true
instr_begins (OpReg op rd rs rt) = op_begins op
instr_begins (OpWord op rd rs value) = op_begins op
instr_begins (Ld Green rd rs) = refl
instr_begins (Ld Blue rd rs) = refl
instr_begins (St Green rd rs) = refl
instr_begins (St Blue rd rs) = refl
instr_begins i = refl

-- OPERANDS

-- if a node fits, so do its operands; likewise for an instruction
pub shape_operands : (shape : Shape) → FitsShape shape → FitsOperands (shape_form shape)
shape_operands (shapes.Op op a b) h = assumption
shape_operands shape h = assumption

pub instr_operands : (i : Instr) → FitsInstr i → FitsOperands (instr_form i)
instr_operands (OpReg op rd rs rt) h = assumption
instr_operands i h = assumption

operand_is_word : (o : Operand) → FitsOperand o → IsAnyWord (operand_word o)
operand_is_word (AReg r) h = reg_is_word r
operand_is_word (AColour c) h = colour_is_word c
operand_is_word (AByte n) h = byte_word n h
operand_is_word (AnIndex n) h = short n h
operand_is_word (AWord n) h = decimal_word n h
operand_is_word (ABasic basic) h = refs_is_word basic.refs basic.base h.1
operand_is_word (AName name) h = h

operands_are_words : (os : List Operand) → AllByRecursion FitsOperand os → AreWords (map operand_word os)
operands_are_words [] h = tt
operands_are_words (o ∷ os) h = (operand_is_word o h.0, operands_are_words os h.1)

fitting_rows : (rows : List ℕ) (s : Option Subst) → FitsRows rows s → AllByRecursion Is32 rows
fitting_rows rows None e = subst (AllByRecursion Is32) (sym e) tt
fitting_rows rows (Some s) h = h

pub code_rows : (code : Code) → FitsCode code → AllByRecursion Is32 code.rows
code_rows code h = fitting_rows code.rows (subst_of code.instr) h.rows

form_are_words : (f : Form) → begins f.first ≡ true → FitsOperands f → AreWords (form_words f)
form_are_words f e h = (first_is_word f.first e, operands_are_words f.operands h)

line_begins : (line : Line) → begins (line_form line).first ≡ true
line_begins (lines.Code code) = instr_begins code.instr
line_begins line = refl

pub line_operands : (line : Line) → FitsLine line → FitsOperands (line_form line)
line_operands (lines.Node n) h = (
  h.0,
  (first_is_word (shape_form n.shape).first (shape_begins n.shape), shape_operands n.shape h.1),
)
line_operands (lines.Code code) h = instr_operands code.instr h.instr
line_operands line h = assumption

-- the words of a line that fits are words
pub line_are_words : (line : Line) → FitsLine line → AreWords (line_words line)
line_are_words (lines.Code code) h = all_append IsAnyWord (form_words (instr_form code.instr)) (map decimal code.rows)
    (form_are_words (instr_form code.instr) (instr_begins code.instr) (instr_operands code.instr h.instr))
    (rows_are_words code.rows (code_rows code h))
line_are_words line h = form_are_words (line_form line) (line_begins line) (line_operands line h)

-- WORDS OF A LINE

one_piece : (w : List ℕ) → HasParts w → pieces_of w ≡ w ∷ []
one_piece [] h = refl
one_piece (b ∷ bs) h =
    ap (λ t. if t then [] ∷ pieces_of bs else with_byte b (pieces_of bs)) (no_blank b h.0)
    ∙ ap (with_byte b) (one_piece bs h.1)

first_piece : (w rest : List ℕ) → HasParts w → pieces_of (w ++ 32 ∷ rest) ≡ w ∷ pieces_of rest
first_piece [] rest h = refl
first_piece (b ∷ bs) rest h =
    ap (λ t. if t then [] ∷ pieces_of (bs ++ 32 ∷ rest) else with_byte b (pieces_of (bs ++ 32 ∷ rest))) (no_blank b h.0)
    ∙ ap (with_byte b) (first_piece bs rest h.1)

-- words joined by spaces make a line with those words
pub words_again : (ws : List (List ℕ)) → AreWords ws → words_of (spaced ws) ≡ ws
words_again [] h = refl
words_again (w ∷ []) h = ap with_bytes (one_piece w h.0.1) ∙ kept_word w [] h.0.0
words_again (w ∷ v ∷ ws) h =
    ap words_of (append_assoc w (codes " ") (spaced (v ∷ ws)))
    ∙ ap with_bytes (first_piece w (spaced (v ∷ ws)) h.0.1)
    ∙ kept_word w (words_of (spaced (v ∷ ws))) h.0.0
    ∙ ap (λ vs. w ∷ vs) (words_again (v ∷ ws) h.1)

-- LINES OF A TEXT

-- these bytes contain no line feed
abbrev HasNoFeed : List ℕ → Type 0
HasNoFeed text = AllByRecursion (λ b. (b == 10) ≡ false) text

feeds_on : (xs ys : List ℕ) → HasNoFeed xs → HasNoFeed ys → HasNoFeed (xs ++ ys)
feeds_on [] ys h i = i
feeds_on (x ∷ xs) ys h i = (h.0, feeds_on xs ys h.1 i)

word_no_feed : (w : List ℕ) → HasParts w → HasNoFeed w
word_no_feed [] h = tt
word_no_feed (b ∷ bs) h = (no_feed b h.0, word_no_feed bs h.1)

spaced_no_feed : (ws : List (List ℕ)) → AreWords ws → HasNoFeed (spaced ws)
spaced_no_feed [] h = tt
spaced_no_feed (w ∷ []) h = word_no_feed w h.0.1
spaced_no_feed (w ∷ v ∷ ws) h = feeds_on (w ++ codes " ") (spaced (v ∷ ws))
    (feeds_on w (codes " ") (word_no_feed w h.0.1) (refl, tt)) (spaced_no_feed (v ∷ ws) h.1)

first_line : (x rest : List ℕ) → HasNoFeed x → lines_of (x ++ 10 ∷ rest) ≡ x ∷ lines_of rest
first_line [] rest h = refl
first_line (b ∷ bs) rest h =
    ap (λ t. if t then [] ∷ lines_of (bs ++ 10 ∷ rest) else with_byte b (lines_of (bs ++ 10 ∷ rest))) h.0
    ∙ ap (with_byte b) (first_line bs rest h.1)

-- the text of a line without its line feed
abbrev pub bare : Line → List ℕ
bare line = spaced (line_words line)

-- splitting the text of lines that fit gives those lines
pub lines_again : (ls : List Line) → AllByRecursion FitsLine ls → lines_of (flat_map line_text ls) ≡ map bare ls
lines_again [] h = refl
lines_again (l ∷ ls) h =
    ap lines_of (append_assoc (bare l) (codes "\n") (flat_map line_text ls))
    ∙ first_line (bare l) (flat_map line_text ls) (spaced_no_feed (line_words l) (line_are_words l h.0))
    ∙ ap (λ xs. bare l ∷ xs) (lines_again ls h.1)

-- WHAT IS SAID

first_said : (w : List ℕ) (ws : List (List ℕ)) → begins w ≡ true → is_said (w ∷ ws) ≡ true
first_said w ws e = (and_parts (nat_lt 0 (length w) && list_all is_part w) (not (is_comment w)) e).1

-- no written line is a comment
pub line_said : (line : Line) → is_said (line_words line) ≡ true
line_said (lines.Code code) =
    let f = instr_form code.instr in
    first_said f.first (map operand_word f.operands ++ map decimal code.rows) (instr_begins code.instr)
line_said line = refl

-- what written lines that fit say is their words
pub said_again : (ls : List Line) → AllByRecursion FitsLine ls → said_in (map bare ls) ≡ map line_words ls
said_again [] h = refl
said_again (l ∷ ls) h =
    ap (λ ws. with_said ws (said_in (map bare ls))) (words_again (line_words l) (line_are_words l h.0))
    ∙ ap (λ t. if t then line_words l ∷ said_in (map bare ls) else said_in (map bare ls)) (line_said l)
    ∙ ap (λ xs. line_words l ∷ xs) (said_again ls h.1)

forms_again : (ls : List Line) → AllByRecursion FitsLine ls → AllZip IsForm (map line_words ls) ls
forms_again [] h = tt
forms_again (l ∷ ls) h = ((h.0, refl), forms_again ls h.1)

-- the text of lines that fit says these lines
pub text_says : (ls : List Line) → AllByRecursion FitsLine ls →
    AllZip IsForm (said_in (lines_of (flat_map line_text ls))) ls
text_says ls h = subst (λ (ws : List (List (List ℕ))).
    AllZip IsForm ws ls) (sym (ap said_in (lines_again ls h) ∙ said_again ls h)) (forms_again ls h)
