-- The bytes of an object, split around a cell's initial word, and the bytes of the object with another word there.
use Rattle.std.proofs.Common.{◌≡◌, ℕ, zero, suc, ◌+◌, ◌*◌, ◌≤◌, List, [], ◌∷◌, ◌++◌, length, take, drop, map, Some}
use Rattle.std.proofs.Common.{slice_get, refl, sym, ap, subst, ◌∙◌, append_assoc, arith}
use Rattle.std.specs.List.{flat_map}
use Rattle.std.specs.Int.{w8, w16, w32, w64}
use Rattle.std.proofs.lemmas.List.{length-append}
use Rattle.std.proofs.Math.Seq.{take-append_seam, drop-append_seam, drop-append-add}
use Rattle.std.proofs.lemmas.List.Elements.{All-cons}
use Rattle.std.specs.Prelude.{All, ◌≢◌}
use Rattle.std.specs.List.{AllPairs}
use Rattle.ft_isa.specs.Words.{IsWord}
use Rattle.ft_types.specs.Spellable.{IsCell, IsInstr, IsSpellable}
use Rattle.ft_format.specs.Format.{Spells, Supports, SupportsName}
use Rattle.ft_types.specs.declared.object.Object.{Object}
use Rattle.ft_types.specs.declared.object.Cell.{Cell}
use Rattle.ft_types.specs.Objects.{name_of}
use Rattle.ft_format.specs.declared.version.Version.{Version}
use Rattle.ft_format.specs.Versions.{magic}
use Rattle.ft_format.specs.Layout.{bytes_of, written, spelled, header_layout, cell_layout, code_layout, type_layout}
use Rattle.ft_format.specs.Layout.{reg_layout, pair_layout, subst_layout}
use Rattle.ft_types.specs.NodeRows.{node_row}
use Rattle.ft_format.specs.Codes.{base_code, base_type}
use Rattle.ft_format.specs.Rows.{cell_row, cell_rows, type_rows, reg_row, queue_row, block_row, subst_row, all_regs}
use Rattle.ft_format.specs.Rows.{all_queue, all_names, spelling}
use Rattle.ft_format.specs.InstrRecords.{instr_row}
use Rattle.ft_types.specs.InitialWords.{begun_with}
use Rattle.ft_embed.specs.Cells.{with_word, object_with_word}

-- LISTS

-- replacing the eight bytes in the middle of a list, by their position, keeps the parts before and after them
replaced : (before middle after new : List ℕ) (at : ℕ) → length before ≡ at → length middle ≡ 8 →
    take at (before ++ (middle ++ after)) ++ (new ++ drop (at + 8) (before ++ (middle ++ after))) ≡ before
    ++ (new ++ after)
replaced before middle after new at a m =
    let whole : List ℕ = before ++ (middle ++ after) in
    let t : take at whole ≡ before = ap (λ n. take n whole) (sym a) ∙ take-append_seam before (middle ++ after) in
    let d : drop (at + 8) whole ≡ after = ap (λ n. drop (n + 8) whole) (sym a)
    ∙ drop-append-add before (middle ++ after) 8 ∙ ap (λ n. drop n (middle ++ after)) (sym m)
    ∙ drop-append_seam middle after in
    ap (λ l. l ++ (new ++ drop (at + 8) whole)) t ∙ ap (λ l. before ++ (new ++ l)) d

regroup : (h b i a r : List ℕ) → h ++ ((b ++ (i ++ a)) ++ r) ≡ (h ++ b) ++ (i ++ (a ++ r))
regroup h b i a r = simp append_assoc

-- CELLS

-- the records of cells in three parts, of which the middle one is the initial word of cell k
record Cut (start k : ℕ) (cs : List Cell) (c : Cell) : Type 0 where
  pub before : List ℕ
  pub after : List ℕ
  pub long : length before ≡ 16 * k + 8
  pub old : spelled cell_layout (cell_rows start cs) ≡ before ++ (bytes_of w64 c.init ++ after)
  pub new : (w : ℕ) → spelled cell_layout (cell_rows start (with_word cs k w)) ≡ before ++ (bytes_of w64 w ++ after)

-- the first half of a cell's record
abbrev head_bytes : ℕ → Cell → List ℕ
head_bytes past c = bytes_of w32 past ++ (bytes_of w8 c.basic.refs
    ++ (bytes_of w8 (base_code c.basic.base) ++ bytes_of w16 (base_type c.basic.base)))

length_head : (past : ℕ) (c : Cell) → length (head_bytes past c) ≡ 8
unfolding bytes_of
length_head past c = refl

-- a cell's record is its first half and then the initial word
halves : (past : ℕ) (c : Cell) (rest : List ℕ) → written cell_layout (cell_row past c) ++ rest ≡ head_bytes past c
    ++ (bytes_of w64 c.init ++ rest)
unfolding bytes_of written
halves past c rest = refl

length_record : (past : ℕ) (c : Cell) → length (written cell_layout (cell_row past c)) ≡ 16
unfolding bytes_of written
length_record past c = refl

cut_here : (start : ℕ) (c : Cell) (cs : List Cell) → Cut start 0 (c ∷ cs) c
cut_here start c cs =
    let past = start + length c.name in
    let rest = spelled cell_layout (cell_rows past cs) in
    record {
      before = head_bytes past c;
      after = rest;
      long = length_head past c;
      old = halves past c rest;
      new = λ w. halves past (begun_with c w) rest;
    }

cut_at : (start k : ℕ) (cs : List Cell) (c : Cell) → slice_get cs k ≡ Some c → Cut start k cs c
cut_at start k [] c e = absurd (cc)
cut_at start zero (x ∷ cs) c e = let same : x ≡ c = cc in subst (Cut start 0 (x ∷ cs)) same (cut_here start x cs)
cut_at start (suc k) (x ∷ cs) c e =
    let past = start + length x.name in
    let r = cut_at past k cs c e in
    let head = written cell_layout (cell_row past x) in
    let l = length-append head r.before in
    let m = length_record past x in
    let n = r.long in
    record {
      before = head ++ r.before;
      after = r.after;
      long = omega (arith, l, m, n);
      old = ap (λ t. head ++ t) r.old ∙ sym (append_assoc head r.before (bytes_of w64 c.init ++ r.after));
      new = λ w. ap (λ t. head ++ t) (r.new w) ∙ sym (append_assoc head r.before (bytes_of w64 w ++ r.after));
    }

names_kept : (cs : List Cell) (k w : ℕ) → map name_of (with_word cs k w) ≡ map name_of cs
names_kept [] k w = refl
names_kept (c ∷ cs) zero w = refl
names_kept (c ∷ cs) (suc k) w = ap (λ ns. c.name ∷ ns) (names_kept cs k w)

name_bytes_kept : (cs : List Cell) (k w : ℕ) → flat_map name_of (with_word cs k w) ≡ flat_map name_of cs
name_bytes_kept [] k w = refl
name_bytes_kept (c ∷ cs) zero w = refl
name_bytes_kept (c ∷ cs) (suc k) w = ap (λ ns. c.name ++ ns) (name_bytes_kept cs k w)

length_kept : (cs : List Cell) (k w : ℕ) → length (with_word cs k w) ≡ length cs
length_kept [] k w = refl
length_kept (c ∷ cs) zero w = refl
length_kept (c ∷ cs) (suc k) w = ap suc (length_kept cs k w)

-- WHOLE OBJECTS

-- the header, given the numbers of cells and name bytes
abbrev header_by : Version → Object → ℕ → ℕ → List ℕ
header_by v o cells names =
    written header_layout (magic v ∷ cells ∷ length o.nodes ∷ length o.types ∷ length (all_regs o) ∷ length
    (all_queue o)
    ∷ length o.blocks ∷ length o.instrs ∷ length o.substs ∷ names ∷ o.entry ∷ [])

length_header : (v : Version) (o : Object) (cells names : ℕ) → length (header_by v o cells names) ≡ 48
unfolding bytes_of written
length_header v o cells names = refl

-- what follows the records of the cells, given the name bytes
abbrev after_cells : Object → List ℕ → List ℕ
after_cells o names =
    spelled code_layout (map node_row o.nodes)
    ++ (spelled type_layout (type_rows 0 0 o.types)
    ++ (spelled reg_layout (map reg_row (all_regs o))
    ++ (spelled pair_layout (map queue_row (all_queue o))
    ++ (spelled pair_layout (map block_row o.blocks)
    ++ (spelled code_layout (map instr_row o.instrs)
    ++ (spelled subst_layout (map subst_row o.substs)
    ++ names))))))

in_parts : (v : Version) (o : Object) → spelling v o ≡ header_by v o (length o.cells) (length (all_names o))
    ++ (spelled cell_layout (cell_rows 0 o.cells) ++ after_cells o (all_names o))
unfolding spelling
in_parts v o = refl

-- the bytes of an object in three parts, of which the middle one is the initial word of cell k
record CutWhole (v : Version) (o : Object) (k : ℕ) (c : Cell) : Type 0 where
  pub before : List ℕ
  pub after : List ℕ
  pub long : length before ≡ 56 + 16 * k
  pub old : spelling v o ≡ before ++ (bytes_of w64 c.init ++ after)
  pub new : (w : ℕ) → spelling v (object_with_word o k w) ≡ before ++ (bytes_of w64 w ++ after)

cut_whole : (v : Version) (o : Object) (k : ℕ) (c : Cell) → slice_get o.cells k ≡ Some c → CutWhole v o k c
cut_whole v o k c e =
    let r = cut_at 0 k o.cells c e in
    let names = all_names o in
    let header = header_by v o (length o.cells) (length names) in
    let rest = after_cells o names in
    let l = length-append header r.before in
    let m = length_header v o (length o.cells) (length names) in
    let n = r.long in
    record {
      before = header ++ r.before;
      after = r.after ++ rest;
      long = omega (arith, l, m, n);
      old = in_parts v o ∙ ap (λ t. header ++ (t ++ rest)) r.old
          ∙ regroup header r.before (bytes_of w64 c.init) r.after rest;
      new = λ w.
          let s = object_with_word o k w in
          let same = name_bytes_kept o.cells k w in
          in_parts v s
          ∙ ap (λ ns. header_by v o (length s.cells) (length ns)
          ++ (spelled cell_layout (cell_rows 0 s.cells) ++ after_cells o ns)) same
          ∙ ap (λ t. header_by v o t (length names) ++ (spelled cell_layout (cell_rows 0 s.cells) ++ rest))
          (length_kept o.cells k w)
          ∙ ap (λ t. header ++ (t ++ rest)) (r.new w) ∙ regroup header r.before (bytes_of w64 w) r.after rest;
    }

-- THE RULES OF THE FORMAT

all_set : (P : Cell → Type 0) (cs : List Cell) (k w : ℕ) → ((c : Cell) → P c → P (begun_with c w)) → All P cs →
    All P (with_word cs k w)
all_set P [] k w keeps h = h
all_set P (c ∷ cs) zero w keeps h = All-cons P (begun_with c w) cs (keeps c (h 0 c (omega arith))) (λ j d lt.
    h (suc j) d (omega arith))
all_set P (c ∷ cs) (suc k) w keeps h = All-cons P c (with_word cs k w) (h 0 c (omega arith))
    (all_set P cs k w keeps (λ j d lt. h (suc j) d (omega arith)))

spellable_set : (o : Object) (k w : ℕ) → IsWord w → IsSpellable o → IsSpellable (object_with_word o k w)
spellable_set o k w word h =
    let l = length_kept o.cells k w in
    record {
      few_cells = (let g = h.few_cells in omega (arith, l, g));
      cells = all_set (IsCell (length o.types)) o.cells k w (λ c r. record {
        name = r.name;
        name_length = r.name_length;
        basic = r.basic;
        init = word;
      }) h.cells;
      names_differ = subst (AllPairs (λ x y. x ≢ y)) (sym (names_kept o.cells k w)) h.names_differ;
      nodes = h.nodes;
      some_type = h.some_type;
      few_types = h.few_types;
      few_reg_rows = h.few_reg_rows;
      few_queue_rows = h.few_queue_rows;
      types = h.types;
      few_blocks = h.few_blocks;
      first_block = h.first_block;
      blocks = h.blocks;
      block_types = h.block_types;
      some_instr = h.some_instr;
      few_instrs = h.few_instrs;
      instrs = subst (λ n. All (IsInstr (length o.types) n) o.instrs) (sym l) h.instrs;
      few_substs = h.few_substs;
      covered = h.covered;
      substs = h.substs;
      entry = h.entry;
    }

supports_set : (v : Version) (o : Object) (k w : ℕ) → Supports v o → Supports v (object_with_word o k w)
supports_set v o k w h = record {
  names = all_set (SupportsName v) o.cells k w (λ c r. record { short = r.short; bytes = r.bytes }) h.names;
  nodes = h.nodes;
  instrs = h.instrs;
}

-- THE BYTES

length_word : (w : ℕ) → length (bytes_of w64 w) ≡ 8
unfolding bytes_of
length_word w = refl

-- the initial word of an existing cell lies within the bytes
pub word_there : (bytes : List ℕ) (v : Version) (o : Object) (k : ℕ) (c : Cell) → Spells bytes v o → slice_get o.cells k
    ≡ Some c → 56 + 16 * k + 8 ≤ length bytes
word_there bytes v o k c h e =
    let r = cut_whole v o k c e in
    let whole = ap length (h.spelled ∙ r.old) in
    let a = length-append r.before (bytes_of w64 c.init ++ r.after) in
    let b = length-append (bytes_of w64 c.init) r.after in
    let m = length_word c.init in
    let n = r.long in
    omega (arith, whole, a, b, m, n)

-- if the initial word of cell k is replaced in the bytes, they spell the object with the new word
pub spells_set : (old new : List ℕ) (v : Version) (o : Object) (k w : ℕ) (c : Cell) → IsWord w → Spells old v o →
    slice_get o.cells k ≡ Some c
    → new ≡ take (56 + 16 * k) old ++ (bytes_of w64 w ++ drop (56 + 16 * k + 8) old) →
    Spells new v (object_with_word o k w)
spells_set old new v o k w c word h e is =
    let r = cut_whole v o k c e in
    let at = 56 + 16 * k in
    let from = h.spelled ∙ r.old in
    record {
      spellable = spellable_set o k w word h.spellable;
      has = supports_set v o k w h.has;
      spelled = is ∙ ap (λ l. take at l ++ (bytes_of w64 w ++ drop (at + 8) l)) from
          ∙ replaced r.before (bytes_of w64 c.init) r.after (bytes_of w64 w) at r.long (length_word c.init)
          ∙ sym (r.new w);
    }
