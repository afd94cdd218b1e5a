-- The text of an object, piece by piece.
use Rattle.std.proofs.Common.{◌≡◌, ℕ, zero, suc, ◌+◌, ◌-◌, ◌<◌, ◌≤◌, List, [], ◌∷◌, ◌++◌, length, map, take, drop}
use Rattle.std.proofs.Common.{decimal, codes, Option, Some, None, slice_get, slice_range, refl, ap, sym, ◌∙◌, subst}
use Rattle.std.proofs.Common.{append_assoc, append-nil, arith}
use Rattle.std.specs.Option.{option_map, unwrap_or}
use Rattle.std.specs.List.{flat_map}
use Rattle.std.proofs.lemmas.List.Concat.{flat_map-append}
use Rattle.ft_isa.specs.declared.instr.Instr.{Instr}
use Rattle.ft_isa.specs.declared.instr.Instr.TheVariants as instrs
use Rattle.ft_isa.specs.declared.instr.Subst.{Subst}
use Rattle.ft_isa.proofs.Lists.{there_below, drop_there}
use Rattle.ft_static.specs.declared.node.Node.{Node}
use Rattle.ft_types.specs.declared.object.Object.{Object}
use Rattle.ft_types.specs.declared.object.Cell.{Cell}
use Rattle.ft_types.specs.declared.object.CellHead.{CellHead}
use Rattle.ft_types.specs.declared.object.Block.{Block}
use Rattle.ft_types.specs.declared.object.CodeType.{CodeType}
use Rattle.ft_types.specs.declared.object.TypeHead.{TypeHead}
use Rattle.ft_types.specs.Objects.{cell_head_of, name_of, type_head_of, regs_of, queue_of, reg_rows, queue_rows}
use Rattle.ft_types.specs.Spellable.{AreBlocks, subst_of, before, substs_of, Cover, IsSpellable}
use Rattle.ft_asm.specs.declared.line.Line.{Line}
use Rattle.ft_asm.specs.declared.line.Line.TheVariants as lines
use Rattle.ft_asm.specs.Operands.{Form, operand_word, form_words}
use Rattle.ft_asm.specs.InstrForms.{instr_form}
use Rattle.ft_asm.specs.Lines.{code_words, placed}
use Rattle.ft_asm.specs.Listings.{pend_line, type_lines, part_lines, rows_in, code_of, begins_at, parts_of}
use Rattle.ft_asm.specs.Reads.{spaced, line_text, text_of}
use Rattle.ft_asm.specs.Pieces.{cell_text, node_text, reg_text, pend_text, type_text, instr_text, row_text, part_of}
use Rattle.ft_asm.specs.Pieces.{part_text, HasRows}

-- LISTS

flat_of_map : {A : Type 0} (f : A → Line) (xs : List A) → flat_map line_text (map f xs)
    ≡ flat_map (λ x. line_text (f x)) xs
flat_of_map f [] = refl
flat_of_map f (x ∷ xs) = ap (λ l. line_text (f x) ++ l) (flat_of_map f xs)

flat_of_flat : {A : Type 0} (f : A → List Line) (xs : List A) → flat_map line_text (flat_map f xs)
    ≡ flat_map (λ x. flat_map line_text (f x)) xs
flat_of_flat f [] = refl
flat_of_flat f (x ∷ xs) = flat_map-append line_text (f x) (flat_map f xs)
    ∙ ap (λ l. flat_map line_text (f x) ++ l) (flat_of_flat f xs)

-- a range is its first value followed by the others
range_step : {A : Type 0} (xs : List A) (i end : ℕ) (x : A) → i < end → slice_get xs i ≡ Some x → slice_range xs i end
    ≡ x ∷ slice_range xs (suc i) end
range_step xs i end x lt e =
    let some : end - i ≡ suc (end - suc i) = omega arith in
    ap (take (end - i)) (drop_there xs i x e) ∙ ap (λ n. take n (x ∷ drop (suc i) xs)) some

-- after one more piece of a range is written, the text so far and the pieces left still make up the whole
pub range_goes : {A : Type 0} (text : A → List ℕ) (xs : List A) (i end : ℕ) (x : A) (old new all : List ℕ) → i < end →
    slice_get xs i ≡ Some x → new ≡ old ++ text x → old ++ flat_map text (slice_range xs i end) ≡ all → new
    ++ flat_map text (slice_range xs (i + 1) end) ≡ all
range_goes text xs i end x old new all lt is e h =
    let next : i + 1 ≡ suc i = omega arith in
    ap (λ l. l ++ flat_map text (slice_range xs (i + 1) end)) e
    ∙ append_assoc old (text x) (flat_map text (slice_range xs (i + 1) end))
    ∙ ap (λ k. old ++ (text x ++ flat_map text (slice_range xs k end))) next
    ∙ ap (λ l. old ++ flat_map text l) (sym (range_step xs i end x lt is)) ∙ h

-- after all of a range is written, the text so far is the whole
pub range_ends : {A : Type 0} (text : A → List ℕ) (xs : List A) (i end : ℕ) (old all : List ℕ) → end ≤ i → old
    ++ flat_map text (slice_range xs i end) ≡ all → old ≡ all
range_ends text xs i end old all le h =
    let none : 0 ≡ end - i = omega arith in
    sym (append-nil old) ∙ ap (λ n. old ++ flat_map text (take n (drop i xs))) none ∙ h

-- INSTRUCTIONS

-- a word and rows, joined by spaces, are the word followed by each row with a space before it
spaced_rows : (w : List ℕ) (rows : List ℕ) → spaced (w ∷ map decimal rows) ≡ w ++ flat_map row_text rows
spaced_rows w [] = sym (append-nil w)
spaced_rows w (n ∷ ns) =
    ap (λ l. (w ++ codes " ") ++ l) (spaced_rows (decimal n) ns)
    ∙ append_assoc w (codes " ") (decimal n ++ flat_map row_text ns)
    ∙ ap (λ l. w ++ l) (sym (append_assoc (codes " ") (decimal n) (flat_map row_text ns)))

-- likewise for several words and rows
words_rows : (w : List ℕ) (ws : List (List ℕ)) (rows : List ℕ) → spaced (w ∷ (ws ++ map decimal rows))
    ≡ spaced (w ∷ ws) ++ flat_map row_text rows
words_rows w [] rows = spaced_rows w rows
words_rows w (v ∷ vs) rows = ap (λ l. (w ++ codes " ") ++ l) (words_rows v vs rows)
    ∙ sym (append_assoc (w ++ codes " ") (spaced (v ∷ vs)) (flat_map row_text rows))

apart_form : (i : Instr) → instr_form i ≡ instr_form (placed 0 0 i)
apart_form (instrs.JmpB rd s) = refl
apart_form i = refl

-- writing the words of an instruction, then the rows of its substitution, writes its line without the line feed
pub instr_put : (old a b substs : List ℕ) (i : Instr) (s : Option Subst) → s ≡ subst_of i → a ≡ old
    ++ spaced (form_words (instr_form i)) → b ≡ a ++ flat_map row_text (rows_in substs s)
    → b ≡ old ++ spaced (code_words (code_of substs i))
instr_put old a b substs i s carried p q =
    let f = instr_form i in
    let rows = rows_in substs s in
    q ∙ ap (λ l. l ++ flat_map row_text rows) p
    ∙ append_assoc old (spaced (form_words f)) (flat_map row_text rows)
    ∙ ap (λ l. old ++ l) (sym (words_rows f.first (map operand_word f.operands) rows)
    ∙ ap (λ (g : Form). spaced (form_words g ++ map decimal rows)) (apart_form i)
    ∙ ap (λ t. spaced (form_words (instr_form (placed 0 0 i)) ++ map decimal (rows_in substs t))) carried)

-- the rows of a substitution exist
first_covered : (nodes : List Node) (substs : List ℕ) (first : ℕ) (s : Option Subst) (ss : List Subst) →
    Cover nodes (length substs) first (before s ss) → HasRows substs s × ((n : ℕ) × Cover nodes (length substs) n ss)
first_covered nodes substs first None ss h = (tt, (first, h))
first_covered nodes substs first (Some s) ss h = (h.0.there, (s.past, h.1))

covered_at : (nodes : List Node) (substs : List ℕ) (first : ℕ) (is : List Instr) (i : ℕ) (x : Instr) →
    Cover nodes (length substs) first (substs_of is) → slice_get is i ≡ Some x → HasRows substs (subst_of x)
covered_at nodes substs first [] i x h e = absurd cc
covered_at nodes substs first (y ∷ ys) zero x h e =
    let same : y ≡ x = cc in
    subst (λ (z : Instr). HasRows substs (subst_of z)) same
    (first_covered nodes substs first (subst_of y) (substs_of ys) h).0
covered_at nodes substs first (y ∷ ys) (suc i) x h e =
    let rest = (first_covered nodes substs first (subst_of y) (substs_of ys) h).1 in
    covered_at nodes substs rest.0 ys i x rest.1 e

pub rows_there : (o : Object) → IsSpellable o → (i : ℕ) (x : Instr) → slice_get o.instrs i ≡ Some x →
    HasRows o.substs (subst_of x)
rows_there o h i x e = covered_at o.nodes o.substs 0 o.instrs i x h.covered e

-- CELLS AND CODE TYPES

cell_is : (o : Option Cell) (head : CellHead) (name : List ℕ) → option_map cell_head_of o ≡ Some head →
    option_map name_of o ≡ Some name → o ≡ Some (record { name = name; basic = head.basic; init = head.init })
cell_is None head name e f = absurd cc
cell_is (Some c) head name e f =
    let same : cell_head_of c ≡ head = cc in
    let named : c.name ≡ name = cc in
    ap (λ (n : List ℕ). Some (record { name = n; basic = c.basic; init = c.init })) named
    ∙ ap (λ (h : CellHead). Some (record { name = name; basic = h.basic; init = h.init })) same

pub cell_at : (cs : List Cell) (k : ℕ) (head : CellHead) (name : List ℕ) → option_map cell_head_of (slice_get cs k)
    ≡ Some head → option_map name_of (slice_get cs k) ≡ Some name → slice_get cs k
    ≡ Some (record { name = name; basic = head.basic; init = head.init })
cell_at cs k head name e f = cell_is (slice_get cs k) head name e f

-- the head that was found is that of the code type
pub head_at : (o : Object) (t : ℕ) (u : CodeType) (head : TypeHead) → slice_get o.types t ≡ Some u →
    option_map type_head_of (slice_get o.types t) ≡ Some head → head ≡ type_head_of u
head_at o t u head e f = let both : Some (type_head_of u) ≡ Some head = ap (option_map type_head_of) (sym e) ∙ f in cc

-- `reg_rows` and `queue_rows` find the rows of the code type with this number
pub regs_at : (o : Object) (t : ℕ) (u : CodeType) → slice_get o.types t ≡ Some u → reg_rows o t ≡ u.regs
regs_at o t u e = ap (λ x. unwrap_or (option_map regs_of x) []) e

pub queue_at : (o : Object) (t : ℕ) (u : CodeType) → slice_get o.types t ≡ Some u → queue_rows o t ≡ u.queue
queue_at o t u e = ap (λ x. unwrap_or (option_map queue_of x) []) e

-- the text of a code type consists of its own line, then those of its register rows and of its queue rows
pub type_pieces : (u : CodeType) → line_text (lines.Type u.ints u.memory)
    ++ (flat_map reg_text u.regs ++ flat_map pend_text u.queue) ≡ type_text u
type_pieces u =
    ap (λ l. line_text (lines.Type u.ints u.memory) ++ l)
    (ap (λ l. l ++ flat_map pend_text u.queue) (sym (flat_of_map lines.Reg u.regs))
    ∙ ap (λ l. flat_map line_text (map lines.Reg u.regs) ++ l) (sym (flat_of_map pend_line u.queue))
    ∙ sym (flat_map-append line_text (map lines.Reg u.regs) (map pend_line u.queue)))

-- the head of a code type counts its register rows and its queue rows
pub regs_count : (o : Object) (t : ℕ) (head : TypeHead) → t < length o.types →
    option_map type_head_of (slice_get o.types t) ≡ Some head → head.regs ≡ length (reg_rows o t)
regs_count o t head lt e =
    let u = there_below o.types t lt in
    ap (λ (h : TypeHead). h.regs) (head_at o t u.0 head u.1 e) ∙ ap length (sym (regs_at o t u.0 u.1))

pub queue_count : (o : Object) (t : ℕ) (head : TypeHead) → t < length o.types →
    option_map type_head_of (slice_get o.types t) ≡ Some head → head.queue ≡ length (queue_rows o t)
queue_count o t head lt e =
    let u = there_below o.types t lt in
    ap (λ (h : TypeHead). h.queue) (head_at o t u.0 head u.1 e) ∙ ap length (sym (queue_at o t u.0 u.1))

-- writing these lines one after the other writes the text of the code type
pub type_put : (old a b c : List ℕ) (o : Object) (t : ℕ) (head : TypeHead) (u : CodeType) → slice_get o.types t
    ≡ Some u → option_map type_head_of (slice_get o.types t) ≡ Some head → a ≡ old
    ++ line_text (lines.Type head.ints head.memory)
    → b ≡ a ++ flat_map reg_text (reg_rows o t) → c ≡ b ++ flat_map pend_text (queue_rows o t) → c ≡ old ++ type_text u
type_put old a b c o t head u is e p q r =
    let own = line_text (lines.Type u.ints u.memory) in
    let first : a ≡ old ++ own = p ∙ ap (λ (h : TypeHead). old ++ line_text (lines.Type h.ints h.memory))
    (head_at o t u head is e) in
    let regs : b ≡ a ++ flat_map reg_text u.regs = q ∙ ap (λ l. a ++ flat_map reg_text l) (regs_at o t u is) in
    let queue : c ≡ b ++ flat_map pend_text u.queue = r ∙ ap (λ l. b ++ flat_map pend_text l) (queue_at o t u is) in
    queue ∙ ap (λ l. l ++ flat_map pend_text u.queue) (regs ∙ ap (λ l. l ++ flat_map reg_text u.regs) first)
    ∙ append_assoc (old ++ own) (flat_map reg_text u.regs) (flat_map pend_text u.queue)
    ∙ append_assoc old own (flat_map reg_text u.regs ++ flat_map pend_text u.queue)
    ∙ ap (λ l. old ++ l) (type_pieces u)

-- BLOCKS

-- blocks end within the code
ends_at : (end least : ℕ) (bs : List Block) (b : ℕ) (x : Block) → AreBlocks end least bs → slice_get bs b ≡ Some x →
    begins_at end (drop (suc b) bs) ≤ end
ends_at end least [] b x h e = absurd cc
ends_at end least (y ∷ []) zero x h e = omega arith
ends_at end least (y ∷ z ∷ zs) zero x h e = let low = h.2.1 in omega arith
ends_at end least (y ∷ ys) (suc b) x h e = ends_at end (suc y.start) ys b x h.2 e

pub block_ends : (o : Object) → IsSpellable o → (b : ℕ) (x : Block) → slice_get o.blocks b ≡ Some x →
    begins_at (length o.instrs) (drop (b + 1) o.blocks) ≤ length o.instrs
block_ends o h b x e =
    let next : suc b ≡ b + 1 = omega arith in
    subst (λ n. begins_at (length o.instrs) (drop n o.blocks) ≤ length o.instrs) next
    (ends_at (length o.instrs) 0 o.blocks b x h.blocks e)

-- block n begins where the blocks from number n on begin; past the last block, that is the end
pub begins_next : (end : ℕ) (bs : List Block) (n : ℕ) (x : Block) → slice_get bs n ≡ Some x → x.start
    ≡ begins_at end (drop n bs)
begins_next end bs n x e = ap (begins_at end) (sym (drop_there bs n x e))

pub begins_last : (end : ℕ) (bs : List Block) (n : ℕ) → length bs ≤ n → end ≡ begins_at end (drop n bs)
begins_last end [] zero le = refl
begins_last end [] (suc n) le = refl
begins_last end (b ∷ bs) zero le = absurd (omega arith)
begins_last end (b ∷ bs) (suc n) le = begins_last end bs n (omega arith)

-- the text of a block consists of its own line, then those of its instructions
pub part_pieces : (o : Object) (b : Block) (bs : List Block) → line_text (lines.Block b.code_type)
    ++ flat_map (instr_text o.substs) (slice_range o.instrs b.start (begins_at (length o.instrs) bs))
    ≡ part_text (part_of o b bs)
part_pieces o b bs = ap (λ l. line_text (lines.Block b.code_type)
    ++ l) (codes_text (slice_range o.instrs b.start (begins_at (length o.instrs) bs)))
  where
    codes_text : (is : List Instr) → flat_map (instr_text o.substs) is
        ≡ flat_map line_text (map lines.Code (map (code_of o.substs) is))
    codes_text [] = refl
    codes_text (i ∷ is) = ap (λ l. instr_text o.substs i ++ l) (codes_text is)

-- writing these lines one after the other writes the text of the block
pub part_put : (old a c : List ℕ) (o : Object) (b : ℕ) (y x : Block) (end : ℕ) → slice_get o.blocks b ≡ Some x →
    slice_get o.blocks b ≡ Some y → end ≡ begins_at (length o.instrs) (drop (b + 1) o.blocks) → a ≡ old
    ++ line_text (lines.Block y.code_type)
    → c ≡ a ++ flat_map (instr_text o.substs) (slice_range o.instrs y.start end) → c ≡ old
    ++ part_text (part_of o x (drop (b + 1) o.blocks))
part_put old a c o b y x end is e at p q =
    let both : Some y ≡ Some x = sym e ∙ is in
    let same : y ≡ x = cc in
    let own = line_text (lines.Block x.code_type) in
    let codes_are = flat_map (instr_text o.substs)
    (slice_range o.instrs x.start (begins_at (length o.instrs) (drop (b + 1) o.blocks))) in
    let first : a ≡ old ++ own = p ∙ ap (λ (z : Block). old ++ line_text (lines.Block z.code_type)) same in
    let rest : c ≡ a ++ codes_are = q ∙ ap (λ (z : Block). a
    ++ flat_map (instr_text o.substs) (slice_range o.instrs z.start end)) same
    ∙ ap (λ n. a ++ flat_map (instr_text o.substs) (slice_range o.instrs x.start n)) at in
    rest ∙ ap (λ l. l ++ codes_are) first ∙ append_assoc old own codes_are
    ∙ ap (λ l. old ++ l) (part_pieces o x (drop (b + 1) o.blocks))

-- after one more block is written, the text so far and the blocks left still make up the whole
pub part_goes : (o : Object) (b : ℕ) (x : Block) (old new all : List ℕ) → slice_get o.blocks b ≡ Some x → new ≡ old
    ++ part_text (part_of o x (drop (b + 1) o.blocks))
    → old ++ flat_map part_text (parts_of o.instrs o.substs (drop b o.blocks)) ≡ all → new
    ++ flat_map part_text (parts_of o.instrs o.substs (drop (b + 1) o.blocks)) ≡ all
part_goes o b x old new all is e h =
    let next : suc b ≡ b + 1 = omega arith in
    let first : drop b o.blocks ≡ x ∷ drop (b + 1) o.blocks = drop_there o.blocks b x is
    ∙ ap (λ n. x ∷ drop n o.blocks) next in
    let rest = flat_map part_text (parts_of o.instrs o.substs (drop (b + 1) o.blocks)) in
    ap (λ l. l ++ rest) e ∙ append_assoc old (part_text (part_of o x (drop (b + 1) o.blocks))) rest
    ∙ ap (λ bs. old ++ flat_map part_text (parts_of o.instrs o.substs bs)) (sym first) ∙ h

-- after all blocks are written, the text so far is the whole
pub part_ends : (o : Object) (b : ℕ) (old all : List ℕ) → length o.blocks ≤ b → old
    ++ flat_map part_text (parts_of o.instrs o.substs (drop b o.blocks)) ≡ all → old ≡ all
part_ends o b old all le h = sym (append-nil old) ∙ ap (λ bs. old ++ flat_map part_text (parts_of o.instrs o.substs bs))
    (sym (none o.blocks b le)) ∙ h
  where
    none : (bs : List Block) (n : ℕ) → length bs ≤ n → drop n bs ≡ []
    none [] zero l = refl
    none [] (suc n) l = refl
    none (x ∷ xs) zero l = absurd (omega arith)
    none (x ∷ xs) (suc n) l = none xs n (omega arith)

-- OBJECTS

-- the text of an object consists of those of its cells, nodes, code types and blocks, and the line of the entry block
pub text_pieces : (o : Object) → flat_map cell_text o.cells
    ++ (flat_map node_text o.nodes ++ (flat_map type_text o.types
    ++ (flat_map part_text (parts_of o.instrs o.substs o.blocks) ++ line_text (lines.Entry o.entry)))) ≡ text_of o
text_pieces o =
    let parts = parts_of o.instrs o.substs o.blocks in
    let last = lines.Entry o.entry ∷ [] in
    let p : flat_map part_text parts ++ line_text (lines.Entry o.entry)
    ≡ flat_map line_text (flat_map part_lines parts ++ last) =
    ap (λ l. l ++ line_text (lines.Entry o.entry)) (sym (flat_of_flat part_lines parts))
    ∙ ap (λ l. flat_map line_text (flat_map part_lines parts)
    ++ l) (sym (append-nil (line_text (lines.Entry o.entry))))
    ∙ sym (flat_map-append line_text (flat_map part_lines parts) last) in
    let t : flat_map type_text o.types ++ flat_map line_text (flat_map part_lines parts ++ last)
    ≡ flat_map line_text (flat_map type_lines o.types ++ (flat_map part_lines parts ++ last)) =
    ap (λ l. l ++ flat_map line_text (flat_map part_lines parts ++ last)) (sym (flat_of_flat type_lines o.types))
    ∙ sym (flat_map-append line_text (flat_map type_lines o.types) (flat_map part_lines parts ++ last)) in
    let n : flat_map node_text o.nodes ++ flat_map line_text (flat_map type_lines o.types
    ++ (flat_map part_lines parts ++ last)) ≡ flat_map line_text (map lines.Node o.nodes
    ++ (flat_map type_lines o.types ++ (flat_map part_lines parts ++ last))) =
    ap (λ l. l ++ flat_map line_text (flat_map type_lines o.types ++ (flat_map part_lines parts ++ last)))
    (sym (flat_of_map lines.Node o.nodes)) ∙ sym
    (flat_map-append line_text (map lines.Node o.nodes) (flat_map type_lines o.types
    ++ (flat_map part_lines parts ++ last))) in
    let c : flat_map cell_text o.cells ++ flat_map line_text (map lines.Node o.nodes
    ++ (flat_map type_lines o.types ++ (flat_map part_lines parts ++ last))) ≡ text_of o =
    ap (λ l. l ++ flat_map line_text (map lines.Node o.nodes
    ++ (flat_map type_lines o.types ++ (flat_map part_lines parts ++ last)))) (sym (flat_of_map lines.Cell o.cells))
    ∙ sym (flat_map-append line_text (map lines.Cell o.cells) (map lines.Node o.nodes
    ++ (flat_map type_lines o.types ++ (flat_map part_lines parts ++ last)))) in
    ap (λ l. flat_map cell_text o.cells ++ (flat_map node_text o.nodes ++ (flat_map type_text o.types ++ l))) p
    ∙ ap (λ l. flat_map cell_text o.cells ++ (flat_map node_text o.nodes ++ l)) t
    ∙ ap (λ l. flat_map cell_text o.cells ++ l) n
    ∙ c

-- five pieces, written one after the other, make up the whole
pub five : (a b c d e all p q r s t : List ℕ) → a ≡ [] ++ p → b ≡ a ++ q → c ≡ b ++ r → d ≡ c ++ s → e ≡ d ++ t → p
    ++ (q ++ (r ++ (s ++ t))) ≡ all → e ≡ all
five a b c d e all p q r s t pa pb pc pd pe h =
    pe ∙ ap (λ l. l ++ t) (pd ∙ ap (λ l. l ++ s) (pc ∙ ap (λ l. l ++ r) (pb ∙ ap (λ l. l ++ q) pa)))
    ∙ append_assoc (p ++ q ++ r) s t ∙ append_assoc (p ++ q) r (s ++ t) ∙ append_assoc p q (r ++ (s ++ t)) ∙ h
