-- The words of a line are read as that line, and no other words are.
use Rattle.std.proofs.Common.{◌≡◌, ℕ, List, [], ◌∷◌, ◌++◌, map, Option, Some, None, decimal, codes, refl, ap, sym, ◌∙◌}
use Rattle.std.proofs.Common.{subst, append-nil, arith}
use Rattle.std.specs.Option.{option_map, option_and_then}
use Rattle.std.specs.List.{AllByRecursion}
use Rattle.std.proofs.lemmas.Option.{option_and_then_some}
use Rattle.ft_isa.specs.declared.instr.Instr.{Instr}
use Rattle.ft_isa.specs.declared.instr.Instr.TheVariants.{OpReg, OpWord, Ld, St, JmpB, BzB}
use Rattle.ft_isa.specs.declared.instr.Subst.{Subst}
use Rattle.ft_isa.specs.declared.op.Op.{Op}
use Rattle.ft_isa.specs.declared.op.Op.TheVariants.{Add}
use Rattle.ft_isa.specs.declared.colour.Colour.{Colour}
use Rattle.ft_isa.specs.declared.colour.Colour.TheVariants.{Green, Blue}
use Rattle.ft_isa.specs.declared.reg.Reg.{Reg}
use Rattle.ft_isa.specs.Operations.{op_word, op_in}
use Rattle.ft_isa.proofs.Branches.{of_map, chosen}
use Rattle.ft_types.specs.Spellable.{subst_of}
use Rattle.ft_static.specs.declared.node.Node.{Node}
use Rattle.ft_static.specs.declared.node.Shape.{Shape}
use Rattle.ft_static.specs.declared.node.Shape.TheVariants as shapes
use Rattle.ft_format.specs.Codes.{Is8}
use Rattle.ft_format.specs.NodeRecords.{FitsShape}
use Rattle.ft_format.specs.InstrRecords.{FitsInstr}
use Rattle.ft_asm.specs.declared.line.Code.{Code}
use Rattle.ft_asm.specs.declared.line.Line.{Line}
use Rattle.ft_asm.specs.declared.line.Line.TheVariants as lines
use Rattle.ft_asm.specs.Operands.{AReg, AByte, AName, operand_word, form_words, reg_word, colour_word}
use Rattle.ft_asm.specs.NodeForms.{shape_form, op_shape_row, shape_rows, op_shape_in, shape_in, node_line, node_head}
use Rattle.ft_asm.specs.NodeForms.{node_with, node_in}
use Rattle.ft_asm.specs.InstrForms.{instr_form, op_reg_row, op_word_row, ld_row, st_row, going_rows, transfer_rows}
use Rattle.ft_asm.specs.InstrForms.{op_code_in, or_else, op_line_in, transfer_in, instr_in, code_line, with_rows}
use Rattle.ft_asm.specs.InstrForms.{code_in}
use Rattle.ft_asm.specs.Lines.{line_form, code_words, placed, line_words, FitsRows, FitsCode, FitsLine, IsForm}
use Rattle.ft_asm.specs.Words.{IsAnyWord}
use Rattle.ft_text.specs.LineWords.{ended}
use Rattle.ft_asm.specs.Forms.{reg_in, rows_in, FitsOperands, Row, row_in}
use Rattle.ft_asm.specs.LineForms.{all_in, type_row, line_rows, line_with, line_in}
use Rattle.ft_asm.proofs.FieldLaws.{op_field, rows_sound, rows_complete}
use Rattle.ft_asm.proofs.RowLaws.{made_sound, taken_again, made_again, row_at, IsRight, Begins, row_sound, among_sound}
use Rattle.ft_asm.proofs.Texts.{AreWords, first_is_word, shape_begins, shape_operands, instr_operands, line_operands}

-- if `ended` returns a line, it is the given one, and no word is left
ended_is : (line : Line) (ws : List (List ℕ)) (l : Line) → ended line ws ≡ Some l → (line ≡ l) × (ws ≡ [])
ended_is line [] l e = (cc, refl)
ended_is line (w ∷ ws) l e = absurd cc

-- NODES

abbrev Any : Shape → Type 0
Any shape = Unit {0}

abbrev BeginsNode : List (List ℕ) → List ℕ → Shape × List (List ℕ) → Type 0
BeginsNode ws w p = Begins shape_form Any w ws p.0 p.1

shapes_right : AllByRecursion (IsRight shape_form Any) shape_rows
shapes_right = search

op_shape_sound : (ws : List (List ℕ)) → AreWords ws → (w : List ℕ) (p : Shape × List (List ℕ)) → op_shape_in w ws
    ≡ Some p → BeginsNode ws w p
op_shape_sound ws h w p e = option_and_then_some (λ op. row_in (op_shape_row op) ws) (op_in w) p e
    (λ op f g. subst (λ v. BeginsNode ws v p) (sym (op_field.sound w op f).1)
    (row_sound shape_form Any ws h (op_shape_row op) (λ vs. (refl, tt)) p g))

shape_fits : (shape : Shape) → FitsOperands (shape_form shape) → FitsShape shape
shape_fits (shapes.Op op a b) h = assumption
shape_fits shape h = assumption

shape_sound : (scope : ℕ) → Is8 scope → (w : List ℕ) (ws : List (List ℕ)) (l : Line) → AreWords ws →
    node_with (scope, w) ws ≡ Some l → IsForm (codes "node" ∷ decimal scope ∷ w ∷ ws) l
shape_sound scope hs w ws l h e =
    option_and_then_some (λ p. ended (node_line scope p.0) p.1) (shape_in w ws) l e
    (λ p f g.
    let read = among_sound shape_form Any (BeginsNode ws) (λ r. row_in r ws) (row_sound shape_form Any ws h) shape_rows
    shapes_right w (op_shape_in w ws) (op_shape_sound ws h w) p f in
    let last = ended_is (node_line scope p.0) p.1 l g in
    subst (IsForm (codes "node" ∷ decimal scope ∷ w ∷ ws)) last.0 (
      (hs, shape_fits p.0 read.fit),
      ap (λ xs. codes "node" ∷ decimal scope ∷ xs) (read.words
          ∙ ap (λ xs. form_words (shape_form p.0) ++ xs) last.1 ∙ append-nil (form_words (shape_form p.0))),
    ))

node_sound : (ws : List (List ℕ)) (l : Line) → AreWords ws → node_in ws ≡ Some l → IsForm (codes "node" ∷ ws) l
node_sound ws l h e =
    option_and_then_some (λ p. node_with p.0 p.1) (row_in node_head ws) l e
    (λ p f g.
    let head = made_sound node_head.kinds node_head.made ws p.0 p.1 h f in
    subst (λ vs. IsForm (codes "node" ∷ vs) l) (sym head.words)
    (shape_sound head.values.0 head.fit.0 head.values.1.0 p.1 l (subst AreWords head.words h).1.1
    (subst (λ q. node_with q p.1 ≡ Some l) (sym head.is) g)))

-- INSTRUCTIONS

-- the rows of an instruction are kept separately
abbrev IsApart : Instr → Type 0
IsApart i = placed 0 0 i ≡ i

abbrev BeginsCode : List (List ℕ) → List ℕ → Instr × List (List ℕ) → Type 0
BeginsCode ws w p = Begins instr_form IsApart w ws p.0 p.1

going_right : AllByRecursion (IsRight instr_form IsApart) going_rows
going_right = search

transfers_right : AllByRecursion (IsRight instr_form IsApart) transfer_rows
transfers_right = search

op_code_sound : (ws : List (List ℕ)) → AreWords ws → (op : Op) (p : Instr × List (List ℕ)) → op_code_in op ws
    ≡ Some p → BeginsCode ws (op_word op) p
op_code_sound ws h op p e = either (row_in (op_reg_row op) ws) refl e
  where
    either : (o : Option (Instr × List (List ℕ))) → row_in (op_reg_row op) ws ≡ o →
        or_else o (row_in (op_word_row op) ws) ≡ Some p → BeginsCode ws (op_word op) p
    either None f g = row_sound instr_form IsApart ws h (op_word_row op) (λ vs. (refl, refl)) p g
    either (Some q) f g = row_sound instr_form IsApart ws h (op_reg_row op) (λ vs. (refl, refl)) p (f ∙ g)

op_line_sound : (ws : List (List ℕ)) → AreWords ws → (w : List ℕ) (p : Instr × List (List ℕ)) → op_line_in w ws
    ≡ Some p → BeginsCode ws w p
op_line_sound ws h w p e = option_and_then_some (λ op. op_code_in op ws) (op_in w) p e
    (λ op f g. subst (λ v. BeginsCode ws v p) (sym (op_field.sound w op f).1) (op_code_sound ws h op p g))

instr_sound : (ws : List (List ℕ)) → AreWords ws → (w : List ℕ) (p : Instr × List (List ℕ)) → instr_in w ws
    ≡ Some p → BeginsCode ws w p
instr_sound ws h w =
    let one = row_sound instr_form IsApart ws h in
    among_sound instr_form IsApart (BeginsCode ws) (λ r. row_in r ws) one going_rows going_right w (transfer_in w ws)
    (among_sound instr_form IsApart (BeginsCode ws) (λ r. row_in r ws) one transfer_rows transfers_right w
    (op_line_in w ws) (op_line_sound ws h w))

instr_fits : (i : Instr) → FitsOperands (instr_form i) → FitsInstr (placed 0 0 i)
instr_fits (JmpB rd s) h = (omega arith, omega arith, h.1.0)
instr_fits (BzB rz rd s) h = (omega arith, omega arith, h.1.1.0)
instr_fits i h = assumption

-- the remaining words are the rows
record AreRows (s : Option Subst) (i : Instr) (ws : List (List ℕ)) (l : Line) : Type 0 where
  rows : List ℕ
  is : code_line i rows ≡ l
  fit : FitsRows rows s
  words : ws ≡ map decimal rows

rows_after : (s : Option Subst) (i : Instr) (ws : List (List ℕ)) (l : Line) → with_rows s i ws ≡ Some l →
    AreRows s i ws l
rows_after None i ws l e = let last = ended_is (code_line i []) ws l e in record {
  rows = [];
  is = last.0;
  fit = refl;
  words = last.1;
}
rows_after (Some s) i ws l e =
    let made = of_map (code_line i) (rows_in ws) l e in
    let are = rows_sound ws made.0 made.1.0 in
    record { rows = made.0; is = made.1.1; fit = are.0; words = are.1 }

code_sound : (w : List ℕ) (ws : List (List ℕ)) → AreWords ws → (l : Line) → code_in w ws ≡ Some l → IsForm (w ∷ ws) l
code_sound w ws h l e =
    option_and_then_some (λ p. with_rows (subst_of p.0) p.0 p.1) (instr_in w ws) l e
    (λ p f g.
    let read = instr_sound ws h w p f in
    let last = rows_after (subst_of p.0) p.0 p.1 l g in
    subst (IsForm (w ∷ ws)) last.is (
      record { instr = subst FitsInstr read.also (instr_fits p.0 read.fit); apart = read.also; rows = last.fit },
      read.words ∙ ap (λ xs. form_words (instr_form p.0) ++ xs) last.words,
    ))

-- LINES

-- a line that a row of the table reads: neither a node nor an instruction
abbrev IsPlain : Line → Type 0
IsPlain (lines.Node n) = ⊥
IsPlain (lines.Code code) = ⊥
IsPlain line = Unit {0}

lines_right : AllByRecursion (IsRight line_form IsPlain) line_rows
lines_right = search

plain_form : (l : Line) (ws : List (List ℕ)) → IsPlain l → FitsOperands (line_form l) → ws ≡ form_words (line_form l) →
    IsForm ws l
plain_form (lines.Node n) ws p h e = absurd p
plain_form (lines.Code code) ws p h e = absurd p
plain_form l ws p h e = (assumption, e)

all_sound : (ws : List (List ℕ)) → AreWords ws → (r : Row Line) → IsRight line_form IsPlain r → (l : Line) → all_in r ws
    ≡ Some l → IsForm (r.first ∷ ws) l
all_sound ws h r right l e =
    option_and_then_some (λ p. ended p.0 p.1) (row_in r ws) l e
    (λ p f g.
    let read = row_sound line_form IsPlain ws h r right p f in
    let last = ended_is p.0 p.1 l g in
    subst (IsForm (r.first ∷ ws)) last.0 (plain_form p.0 (r.first ∷ ws) read.also read.fit
    (read.words ∙ ap (λ xs. form_words (line_form p.0) ++ xs) last.1 ∙ append-nil (form_words (line_form p.0)))))

line_with_sound : (w : List ℕ) (ws : List (List ℕ)) → AreWords ws → (l : Line) → line_with w ws ≡ Some l →
    IsForm (w ∷ ws) l
line_with_sound w ws h =
    let P : List ℕ → Line → Type 0 = λ v l. IsForm (v ∷ ws) l in
    chosen P (codes "node") w (node_in ws) _ (λ l. node_sound ws l h)
    (among_sound line_form IsPlain P (λ r. all_in r ws) (all_sound ws h) line_rows lines_right w (code_in w ws)
    (code_sound w ws h))

-- words that are read as a line are the words of that line
pub line_sound : (words : List (List ℕ)) → AllByRecursion IsAnyWord words → (l : Line) → line_in words ≡ Some l →
    IsForm words l
line_sound [] h l e = absurd cc
line_sound (w ∷ ws) h l e = line_with_sound w ws h.1 l e

-- READING WRITTEN WORDS

-- the word of an operation is not the first word of another node
op_shape_is : (op : Op) (ws : List (List ℕ)) → shape_in (op_word op) ws ≡ op_shape_in (op_word op) ws
op_shape_is Add ws = refl
op_shape_is op ws = refl

shape_again : (shape : Shape) → FitsOperands (shape_form shape) →
    shape_in (shape_form shape).first (map operand_word (shape_form shape).operands) ≡ Some (shape, [])
shape_again (shapes.Op op a b) h =
    op_shape_is op (decimal a ∷ decimal b ∷ [])
    ∙ ap (option_and_then (λ o. row_in (op_shape_row o) (decimal a ∷ decimal b ∷ []))) (op_field.complete op tt)
    ∙ made_again (shape_form (shapes.Op op a b)).operands (op_shape_row op).made [] h
shape_again shape h =
    let f = shape_form shape in
    made_again f.operands (row_at shape_rows f.first (op_shape_row Add)).made [] h

node_again : (n : Node) → FitsLine (lines.Node n) → line_in (line_words (lines.Node n)) ≡ Some (lines.Node n)
node_again n h =
    let f = shape_form n.shape in
    ap (option_and_then (λ p. node_with p.0 p.1)) (made_again (AByte n.scope ∷ AName f.first ∷ []) node_head.made
    (map operand_word f.operands) (h.0, (first_is_word f.first (shape_begins n.shape), tt)))
    ∙ ap (option_and_then (λ p. ended (node_line n.scope p.0) p.1)) (shape_again n.shape (shape_operands n.shape h.1))

-- the first word of an instruction is not that of another kind of line
op_line_is : (op : Op) (ws : List (List ℕ)) → line_with (op_word op) ws ≡ code_in (op_word op) ws
op_line_is Add ws = refl
op_line_is op ws = refl

code_line_is : (i : Instr) (ws : List (List ℕ)) → line_with (instr_form i).first ws ≡ code_in (instr_form i).first ws
code_line_is (OpReg op rd rs rt) ws = op_line_is op ws
code_line_is (OpWord op rd rs value) ws = op_line_is op ws
code_line_is (Ld Green rd rs) ws = refl
code_line_is (Ld Blue rd rs) ws = refl
code_line_is (St Green rd rs) ws = refl
code_line_is (St Blue rd rs) ws = refl
code_line_is i ws = refl

op_is : (op : Op) (ws : List (List ℕ)) → instr_in (op_word op) ws ≡ op_line_in (op_word op) ws
op_is Add ws = refl
op_is op ws = refl

op_again : (op : Op) (ws : List (List ℕ)) → instr_in (op_word op) ws ≡ op_code_in op ws
op_again op ws = op_is op ws ∙ ap (option_and_then (λ o. op_code_in o ws)) (op_field.complete op tt)

-- the word of a colour is not that of a register
no_reg_word : (c : Colour) → reg_in (colour_word c) ≡ None
unfolding reg_in
no_reg_word Green = refl
no_reg_word Blue = refl

no_reg : (op : Op) (rd rs : Reg) (c : Colour) (ws : List (List ℕ)) →
    row_in (op_reg_row op) (reg_word rd ∷ reg_word rs ∷ colour_word c ∷ ws) ≡ None
no_reg op rd rs c ws = taken_again (AReg rd) tt _ _ ∙ taken_again (AReg rs) tt _ _
    ∙ ap (option_and_then _) (ap (option_map _) (no_reg_word c))

instr_again : (i : Instr) → FitsOperands (instr_form i) → (rest : List (List ℕ)) →
    instr_in (instr_form i).first (map operand_word (instr_form i).operands ++ rest) ≡ Some (placed 0 0 i, rest)
instr_again (OpReg op rd rs rt) h rest =
    let f = instr_form (OpReg op rd rs rt) in
    let ws = map operand_word f.operands ++ rest in
    op_again op ws ∙ ap (λ o. or_else o (row_in (op_word_row op) ws))
    (made_again f.operands (op_reg_row op).made rest h)
instr_again (OpWord op rd rs value) h rest =
    let f = instr_form (OpWord op rd rs value) in
    let ws = map operand_word f.operands ++ rest in
    op_again op ws
    ∙ ap (λ o. or_else o (row_in (op_word_row op) ws)) (no_reg op rd rs value.colour (decimal value.word ∷ rest))
    ∙ made_again f.operands (op_word_row op).made rest h
instr_again (Ld Green rd rs) h rest = made_again (instr_form (Ld Green rd rs)).operands (ld_row Green).made rest h
instr_again (Ld Blue rd rs) h rest = made_again (instr_form (Ld Blue rd rs)).operands (ld_row Blue).made rest h
instr_again (St Green rd rs) h rest = made_again (instr_form (St Green rd rs)).operands (st_row Green).made rest h
instr_again (St Blue rd rs) h rest = made_again (instr_form (St Blue rd rs)).operands (st_row Blue).made rest h
instr_again i h rest =
    let f = instr_form i in
    made_again f.operands (row_at (going_rows ++ transfer_rows) f.first (op_reg_row Add)).made rest h

rows_again : (s : Option Subst) (i : Instr) (rows : List ℕ) → FitsRows rows s → with_rows s i (map decimal rows)
    ≡ Some (code_line i rows)
rows_again None i rows e = subst (λ ns. with_rows None i (map decimal ns) ≡ Some (code_line i ns)) (sym e) refl
rows_again (Some s) i rows h = ap (option_map (code_line i)) (rows_complete rows h)

code_again : (code : Code) → FitsCode code → line_in (code_words code) ≡ Some (lines.Code code)
code_again code h =
    let i = code.instr in
    let rows = map decimal code.rows in
    code_line_is i (map operand_word (instr_form i).operands ++ rows)
    ∙ ap (option_and_then (λ p. with_rows (subst_of p.0) p.0 p.1)) (instr_again i (instr_operands i h.instr) rows
    ∙ ap (λ j. Some (j, rows)) h.apart)
    ∙ rows_again (subst_of i) i code.rows h.rows

-- the words of a line that fits are read as that line
pub line_again : (line : Line) → FitsLine line → line_in (line_words line) ≡ Some line
line_again (lines.Node n) h = node_again n h
line_again (lines.Code code) h = code_again code h
line_again line h =
    let f = line_form line in
    ap (option_and_then (λ p. ended p.0 p.1)) (made_again f.operands (row_at line_rows f.first type_row).made []
    (line_operands line h))

-- words spell at most one line
pub one_line : (words : List (List ℕ)) (l m : Line) → IsForm words l → IsForm words m → l ≡ m
one_line words l m h i = let both : Some l ≡ Some m = sym (line_again l h.0) ∙ ap line_in (sym h.1 ∙ i.1)
    ∙ line_again m i.0 in cc

-- words that are not read as a line do not spell one
pub no_line : (words : List (List ℕ)) → line_in words ≡ None → (l : Line) → ¬ (IsForm words l)
no_line words e l h = let some : None ≡ Some l = sym e ∙ ap line_in h.1 ∙ line_again l h.0 in absurd cc
