-- The number of rows in a text's tables plus the number of bytes in its names is at most the number of bytes in the
-- text. So its counts are bounded, and its numbers fit.
use Rattle.std.proofs.Common.{◌≡◌, ℕ, suc, ◌+◌, ◌^◌, ◌<◌, ◌≤◌, ◌==◌, Bool, true, false, List, [], ◌∷◌, ◌++◌, length}
use Rattle.std.proofs.Common.{map, decimal, refl, ap, sym, ◌∙◌, subst, arith}
use Rattle.std.specs.Prelude.{if◌then◌else◌}
use Rattle.std.specs.List.{AllByRecursion, AllZip, flat_map}
use Rattle.std.proofs.lemmas.Fmt.{decimal_nonempty}
use Rattle.std.proofs.lemmas.List.{length-append}
use Rattle.std.proofs.lemmas.List.Concat.{flat_map-append, length-flat_map}
use Rattle.ft_isa.specs.declared.instr.Instr.{Instr}
use Rattle.ft_isa.specs.declared.instr.Instr.TheVariants.{JmpB, BzB}
use Rattle.ft_isa.proofs.Lists.{all_append}
use Rattle.ft_types.specs.declared.object.Object.{Object}
use Rattle.ft_types.specs.declared.object.Cell.{Cell}
use Rattle.ft_types.specs.declared.object.CodeType.{CodeType}
use Rattle.ft_types.specs.Objects.{name_of, regs_of, queue_of}
use Rattle.ft_format.specs.Codes.{Is32}
use Rattle.ft_format.specs.Fits.{FitsCell, FitsReg, FitsPair, FitsType, FitsBlock, HasCounts}
use Rattle.ft_format.specs.NodeRecords.{FitsNode}
use Rattle.ft_format.specs.InstrRecords.{FitsInstr}
use Rattle.ft_format.specs.Fits.{Fits}
use Rattle.ft_text.specs.Lines.{with_byte, lines_of}
use Rattle.ft_asm.specs.declared.line.Code.{Code}
use Rattle.ft_asm.specs.declared.line.Line.{Line}
use Rattle.ft_asm.specs.declared.line.Line.TheVariants as lines
use Rattle.ft_text.specs.LineWords.{is_blank, pieces_of, with_bytes, words_of}
use Rattle.ft_asm.specs.Words.{is_said, said_in}
use Rattle.ft_asm.specs.InstrForms.{instr_form}
use Rattle.ft_asm.specs.Operands.{form_words}
use Rattle.ft_asm.specs.Lines.{code_words, line_words, placed, FitsCode, FitsLine, IsForm}
use Rattle.ft_asm.specs.Listings.{Part, Listing, pend_line, type_lines, part_lines, listing_lines, rows_of, codes_of}
use Rattle.ft_asm.specs.Listings.{instrs_from, blocks_from, object_of}
use Rattle.ft_asm.specs.Reads.{Reads}
use Rattle.ft_asm.proofs.HeldLaws.{instrs_length}
use Rattle.ft_asm.proofs.Texts.{first_is_word, instr_begins, code_rows}

-- BYTES OF WORDS

-- how many bytes words have in all
abbrev bytes_in : List (List ℕ) → ℕ
bytes_in [] = 0
bytes_in (w ∷ ws) = length w + bytes_in ws

abbrev all_bytes : List (List (List ℕ)) → ℕ
all_bytes [] = 0
all_bytes (ws ∷ wss) = bytes_in ws + all_bytes wss

cut_bytes : (t : Bool) (b : ℕ) (ps : List (List ℕ)) (n : ℕ) → bytes_in ps ≤ n →
    bytes_in (if t then [] ∷ ps else with_byte b ps) ≤ suc n
cut_bytes true b ps n h = omega arith
cut_bytes false b [] n h = omega arith
cut_bytes false b (p ∷ ps) n h = omega arith

pieces_bytes : (line : List ℕ) → bytes_in (pieces_of line) ≤ length line
pieces_bytes [] = omega arith
pieces_bytes (b ∷ bs) = cut_bytes (is_blank b) b (pieces_of bs) (length bs) (pieces_bytes bs)

lines_bytes : (text : List ℕ) → bytes_in (lines_of text) ≤ length text
lines_bytes [] = omega arith
lines_bytes (b ∷ bs) = cut_bytes (b == 10) b (lines_of bs) (length bs) (lines_bytes bs)

kept_bytes : (ps : List (List ℕ)) → bytes_in (with_bytes ps) ≤ bytes_in ps
kept_bytes [] = omega arith
kept_bytes ([] ∷ ps) = let rest = kept_bytes ps in omega arith
kept_bytes ((b ∷ bs) ∷ ps) = let rest = kept_bytes ps in omega arith

words_bytes : (line : List ℕ) → bytes_in (words_of line) ≤ length line
words_bytes line = let kept = kept_bytes (pieces_of line) in let all = pieces_bytes line in omega arith

said_step : (t : Bool) (ws : List (List ℕ)) (wss : List (List (List ℕ))) (n m : ℕ) → bytes_in ws ≤ n →
    all_bytes wss ≤ m → all_bytes (if t then ws ∷ wss else wss) ≤ n + m
said_step true ws wss n m h i = omega arith
said_step false ws wss n m h i = omega arith

said_bytes : (ls : List (List ℕ)) → all_bytes (said_in ls) ≤ bytes_in ls
said_bytes [] = omega arith
said_bytes (l ∷ ls) = said_step (is_said (words_of l)) (words_of l) (said_in ls) (length l) (bytes_in ls)
    (words_bytes l) (said_bytes ls)

-- WEIGHTS OF LINES

-- what a line adds to the tables: a row, and the bytes of a name or the rows of a substitution
abbrev weight : Line → ℕ
weight (lines.Cell c) = suc (length c.name)
weight (lines.Code c) = suc (length (rows_of c))
weight line = 1

abbrev all_weights : List Line → ℕ
all_weights [] = 0
all_weights (l ∷ ls) = weight l + all_weights ls

rows_bytes : (rows : List ℕ) → AllByRecursion Is32 rows → length rows ≤ bytes_in (map decimal rows)
rows_bytes [] h = omega arith
rows_bytes (n ∷ ns) h = let some = decimal_nonempty n (omega (arith, h.0)) in let rest = rows_bytes ns h.1 in
    omega arith

bytes_on : (xs ys : List (List ℕ)) → bytes_in (xs ++ ys) ≡ bytes_in xs + bytes_in ys
bytes_on [] ys = omega arith
bytes_on (x ∷ xs) ys = let rest = bytes_on xs ys in omega arith

code_weight : (c : Code) → FitsCode c → suc (length (rows_of c)) ≤ bytes_in (code_words c)
code_weight c h =
    let f = instr_form c.instr in
    let some = (first_is_word f.first (instr_begins c.instr)).0 in
    let on = bytes_on (form_words f) (map decimal c.rows) in
    let rows = rows_bytes c.rows (code_rows c h) in
    omega arith

line_weight : (l : Line) → FitsLine l → weight l ≤ bytes_in (line_words l)
line_weight (lines.Code c) h = code_weight c h
line_weight line h = omega arith

zip_weights : (wss : List (List (List ℕ))) (ls : List Line) → AllZip IsForm wss ls → all_weights ls ≤ all_bytes wss
zip_weights [] [] h = omega arith
zip_weights [] (l ∷ ls) h = absurd h
zip_weights (ws ∷ wss) [] h = absurd h
zip_weights (ws ∷ wss) (l ∷ ls) h =
    let one = line_weight l h.0.0 in
    let same : bytes_in ws ≡ bytes_in (line_words l) = ap bytes_in h.0.1 in
    let rest = zip_weights wss ls h.1 in
    omega arith

-- the weight of what a text says is at most the number of its bytes
text_weight : (text : List ℕ) (l : Listing) → AllZip IsForm (said_in (lines_of text)) (listing_lines l) →
    all_weights (listing_lines l) ≤ length text
text_weight text l h =
    let all = zip_weights (said_in (lines_of text)) (listing_lines l) h in
    let said = said_bytes (lines_of text) in
    let bytes = lines_bytes text in
    omega arith

-- COUNTS

weights_on : (xs ys : List Line) → all_weights (xs ++ ys) ≡ all_weights xs + all_weights ys
weights_on [] ys = omega arith
weights_on (x ∷ xs) ys = let rest = weights_on xs ys in omega arith

cells_weigh : (cs : List Cell) → all_weights (map lines.Cell cs) ≡ length cs + length (flat_map name_of cs)
cells_weigh [] = omega arith
cells_weigh (c ∷ cs) = let rest = cells_weigh cs in let long = length-append c.name (flat_map name_of cs) in omega arith

-- if each line weighs 1, the total weight of the lines is their number
plain_weigh : {A : Type 0} (f : A → Line) → ((x : A) → weight (f x) ≡ 1) → (xs : List A) → all_weights (map f xs)
    ≡ length xs
plain_weigh f one [] = omega arith
plain_weigh f one (x ∷ xs) = let rest = plain_weigh f one xs in let here = one x in omega arith

types_weigh : (ts : List CodeType) → all_weights (flat_map type_lines ts)
    ≡ length ts + length (flat_map regs_of ts) + length (flat_map queue_of ts)
types_weigh [] = omega arith
types_weigh (t ∷ ts) =
    let rest = types_weigh ts in
    let on = weights_on (map lines.Reg t.regs ++ map pend_line t.queue) (flat_map type_lines ts) in
    let rows = weights_on (map lines.Reg t.regs) (map pend_line t.queue) in
    let regs = plain_weigh lines.Reg (λ r. refl) t.regs in
    let queue = plain_weigh pend_line (λ q. refl) t.queue in
    let regs_long = length-append t.regs (flat_map regs_of ts) in
    let queue_long = length-append t.queue (flat_map queue_of ts) in
    omega arith

codes_weigh : (cs : List Code) → all_weights (map lines.Code cs) ≡ length cs + length (flat_map rows_of cs)
codes_weigh [] = omega arith
codes_weigh (c ∷ cs) = let rest = codes_weigh cs in let long = length-append (rows_of c) (flat_map rows_of cs) in
    omega arith

parts_weigh : (ps : List Part) → all_weights (flat_map part_lines ps)
    ≡ length ps + length (flat_map codes_of ps) + length (flat_map rows_of (flat_map codes_of ps))
parts_weigh [] = omega arith
parts_weigh (p ∷ ps) =
    let rest = parts_weigh ps in
    let on = weights_on (map lines.Code p.codes) (flat_map part_lines ps) in
    let own = codes_weigh p.codes in
    let long = length-append p.codes (flat_map codes_of ps) in
    let rows : length (flat_map rows_of (p.codes ++ flat_map codes_of ps))
    ≡ length (flat_map rows_of p.codes) + length (flat_map rows_of (flat_map codes_of ps)) =
    ap length (flat_map-append rows_of p.codes (flat_map codes_of ps))
    ∙ length-append (flat_map rows_of p.codes) (flat_map rows_of (flat_map codes_of ps)) in
    omega arith

-- each count of a listing is at most n
record AreCounted (l : Listing) (n : ℕ) : Type 0 where
  cells : length l.cells ≤ n
  names : length (flat_map name_of l.cells) ≤ n
  nodes : length l.nodes ≤ n
  types : length l.types ≤ n
  regs : length (flat_map regs_of l.types) ≤ n
  queue : length (flat_map queue_of l.types) ≤ n
  parts : length l.parts ≤ n
  codes : length (flat_map codes_of l.parts) ≤ n
  rows : length (flat_map rows_of (flat_map codes_of l.parts)) ≤ n

are_counted : (l : Listing) (n : ℕ) → all_weights (listing_lines l) ≤ n → AreCounted l n
are_counted l n few =
    let last = lines.Entry l.entry ∷ [] in
    let parts_on = weights_on (flat_map part_lines l.parts) last in
    let types_on = weights_on (flat_map type_lines l.types) (flat_map part_lines l.parts ++ last) in
    let nodes_on = weights_on (map lines.Node l.nodes) (flat_map type_lines l.types
    ++ (flat_map part_lines l.parts ++ last)) in
    let cells_on = weights_on (map lines.Cell l.cells) (map lines.Node l.nodes
    ++ (flat_map type_lines l.types ++ (flat_map part_lines l.parts ++ last))) in
    let cells = cells_weigh l.cells in
    let nodes = plain_weigh lines.Node (λ x. refl) l.nodes in
    let types = types_weigh l.types in
    let parts = parts_weigh l.parts in
    record {
      cells = omega arith;
      names = omega arith;
      nodes = omega arith;
      types = omega arith;
      regs = omega arith;
      queue = omega arith;
      parts = omega arith;
      codes = omega arith;
      rows = omega arith;
    }

blocks_length : (start : ℕ) (ps : List Part) → length (blocks_from start ps) ≡ length ps
blocks_length start [] = refl
blocks_length start (p ∷ ps) = ap suc (blocks_length (start + length p.codes) ps)

has_counts : (l : Listing) (n : ℕ) → n < 2 ^ 32 → AreCounted l n → HasCounts (object_of l)
has_counts l n few a =
    let blocks = blocks_length 0 l.parts in
    let instrs = instrs_length 0 (flat_map codes_of l.parts) in
    record {
      cells = omega (arith, a.cells);
      nodes = omega (arith, a.nodes);
      types = omega (arith, a.types);
      regs = omega (arith, a.regs, length-flat_map regs_of l.types);
      queue = omega (arith, a.queue, length-flat_map queue_of l.types);
      blocks = omega (arith, a.parts);
      instrs = omega (arith, a.codes);
      substs = omega (arith, a.rows);
      names = omega (arith, a.names, length-flat_map name_of l.cells);
    }

-- NUMBERS

zip_fits : (wss : List (List (List ℕ))) (ls : List Line) → AllZip IsForm wss ls → AllByRecursion FitsLine ls
zip_fits [] [] h = tt
zip_fits [] (l ∷ ls) h = absurd h
zip_fits (ws ∷ wss) [] h = absurd h
zip_fits (ws ∷ wss) (l ∷ ls) h = (h.0.0, zip_fits wss ls h.1)

all_apart : (xs ys : List Line) → AllByRecursion FitsLine (xs ++ ys) → AllByRecursion FitsLine xs
    × AllByRecursion FitsLine ys
all_apart [] ys h = (tt, h)
all_apart (x ∷ xs) ys h = let rest = all_apart xs ys h.1 in ((h.0, rest.0), rest.1)

mapped : {A : Type 0} (f : A → Line) (Q : A → Type 0) → ((x : A) → FitsLine (f x) → Q x) → (xs : List A) →
    AllByRecursion FitsLine (map f xs) → AllByRecursion Q xs
mapped f Q g [] h = tt
mapped f Q g (x ∷ xs) h = (g x h.0, mapped f Q g xs h.1)

types_fit : (ts : List CodeType) → AllByRecursion FitsLine (flat_map type_lines ts) → AllByRecursion FitsType ts
types_fit [] h = tt
types_fit (t ∷ ts) h =
    let own = all_apart (map lines.Reg t.regs ++ map pend_line t.queue) (flat_map type_lines ts) h.1 in
    let rows = all_apart (map lines.Reg t.regs) (map pend_line t.queue) own.0 in (
      record {
        ints = h.0.0;
        memory = h.0.1;
        regs = mapped lines.Reg FitsReg (λ r f. f) t.regs rows.0;
        queue = mapped pend_line FitsPair (λ q f. f) t.queue rows.1;
      },
      types_fit ts own.1,
    )

codes_fit : (ps : List Part) → AllByRecursion FitsLine (flat_map part_lines ps) →
    AllByRecursion FitsCode (flat_map codes_of ps)
codes_fit [] h = tt
codes_fit (p ∷ ps) h =
    let own = all_apart (map lines.Code p.codes) (flat_map part_lines ps) h.1 in
    all_append FitsCode p.codes (flat_map codes_of ps) (mapped lines.Code FitsCode (λ c f. f) p.codes own.0)
    (codes_fit ps own.1)

blocks_fit : (start : ℕ) (ps : List Part) → start + length (flat_map codes_of ps) < 2 ^ 32 →
    AllByRecursion FitsLine (flat_map part_lines ps) → AllByRecursion FitsBlock (blocks_from start ps)
blocks_fit start [] few h = tt
blocks_fit start (p ∷ ps) few h =
    let long = length-append p.codes (flat_map codes_of ps) in
    let own = all_apart (map lines.Code p.codes) (flat_map part_lines ps) h.1 in
    let here : start < 2 ^ 32 = omega arith in
    let rest : start + length p.codes + length (flat_map codes_of ps) < 2 ^ 32 = omega arith in
    ((here, h.0), blocks_fit (start + length p.codes) ps rest own.1)

placed_fits : (first past : ℕ) (i : Instr) → first ≤ past → past < 2 ^ 32 → FitsInstr i →
    FitsInstr (placed first past i)
placed_fits first past (JmpB rd s) up few h = (omega arith, few, h.2)
placed_fits first past (BzB rz rd s) up few h = (omega arith, few, h.2)
placed_fits first past i up few h = h

instrs_fit : (first : ℕ) (cs : List Code) → first + length (flat_map rows_of cs) < 2 ^ 32 → AllByRecursion FitsCode cs →
    AllByRecursion FitsInstr (instrs_from first cs)
instrs_fit first [] few h = tt
instrs_fit first (c ∷ cs) few h =
    let long = length-append (rows_of c) (flat_map rows_of cs) in
    let here : first + length (rows_of c) < 2 ^ 32 = omega arith in
    let rest : first + length (rows_of c) + length (flat_map rows_of cs) < 2 ^ 32 = omega arith in (
      placed_fits first (first + length c.rows) c.instr (omega arith) here h.0.instr,
      instrs_fit (first + length (rows_of c)) cs rest h.1,
    )

rows_fit : (cs : List Code) → AllByRecursion FitsCode cs → AllByRecursion Is32 (flat_map rows_of cs)
rows_fit [] h = tt
rows_fit (c ∷ cs) h = all_append Is32 (rows_of c) (flat_map rows_of cs) (code_rows c h.0) (rows_fit cs h.1)

listing_fits : (l : Listing) (n : ℕ) → n < 2 ^ 32 → AreCounted l n → AllByRecursion FitsLine (listing_lines l) →
    Fits (object_of l)
listing_fits l n few a h =
    let last = lines.Entry l.entry ∷ [] in
    let cells = all_apart (map lines.Cell l.cells) (map lines.Node l.nodes
    ++ (flat_map type_lines l.types ++ (flat_map part_lines l.parts ++ last))) h in
    let nodes = all_apart (map lines.Node l.nodes) (flat_map type_lines l.types
    ++ (flat_map part_lines l.parts ++ last)) cells.1 in
    let types = all_apart (flat_map type_lines l.types) (flat_map part_lines l.parts ++ last) nodes.1 in
    let parts = all_apart (flat_map part_lines l.parts) last types.1 in
    let codes = codes_fit l.parts parts.0 in
    record {
      counts = has_counts l n few a;
      cells = mapped lines.Cell FitsCell (λ c f. f.1) l.cells cells.0;
      nodes = mapped lines.Node FitsNode (λ x f. f) l.nodes nodes.0;
      types = types_fit l.types types.0;
      blocks = blocks_fit 0 l.parts (omega (arith, a.codes)) parts.0;
      instrs = instrs_fit 0 (flat_map codes_of l.parts) (omega (arith, a.rows)) codes;
      substs = rows_fit (flat_map codes_of l.parts) codes;
      entry = parts.1.0;
    }

-- if a text has at most 134,217,728 bytes, the object that it reads as fits
pub reading_fits : (text : List ℕ) (o : Object) → length text ≤ 134217728 → Reads text o → Fits o
reading_fits text o few r =
    let weight = text_weight text r.listing r.said in
    let counted = are_counted r.listing 134217728 (omega arith) in
    subst Fits (sym r.means) (listing_fits r.listing 134217728 (omega arith) counted
    (zip_fits (said_in (lines_of text)) (listing_lines r.listing) r.said))
