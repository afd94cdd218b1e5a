-- An object that obeys the rules is read back from its text.
use Rattle.std.proofs.Common.{◌≡◌, ℕ, suc, ◌+◌, ◌-◌, ◌≤◌, false, List, [], ◌∷◌, ◌++◌, length, map, drop, refl, ap, sym}
use Rattle.std.proofs.Common.{◌∙◌, append-nil, arith}
use Rattle.std.specs.Prelude.{slice_range}
use Rattle.std.specs.List.{AllByRecursion, flat_map}
use Rattle.std.proofs.lemmas.List.{length-map, map-append}
use Rattle.std.proofs.lemmas.List.Folds.{drop_split}
use Rattle.std.proofs.lemmas.List.Elements.{recursion_from_All}
use Rattle.ft_isa.specs.declared.instr.Instr.{Instr}
use Rattle.ft_isa.proofs.Lists.{all_append}
use Rattle.ft_types.specs.declared.object.Object.{Object}
use Rattle.ft_types.specs.declared.object.Block.{Block}
use Rattle.ft_types.specs.Spellable.{IsCell, IsNodeIn, IsCodeType, AreBlocks, BeginAtZero, HasCodeType, IsInstr}
use Rattle.ft_types.specs.Spellable.{IsSpellable}
use Rattle.ft_asm.specs.declared.line.Line.TheVariants as lines
use Rattle.ft_format.specs.Codes.{Is32}
use Rattle.ft_format.proofs.Nodes.{named_fits}
use Rattle.ft_asm.specs.Lines.{FitsCode, FitsLine}
use Rattle.ft_asm.specs.Listings.{type_lines, part_lines, listing_lines, rows_of, instrs_from, blocks_from, codes_of}
use Rattle.ft_asm.specs.Listings.{object_of, code_of, begins_at, parts_of, listing_of}
use Rattle.ft_asm.specs.Reads.{Reads, text_of}
use Rattle.ft_asm.proofs.Texts.{text_says}
use Rattle.ft_asm.proofs.LawfulLines.{all_map, all_flat, all_taken, all_dropped, range_length, range_rest, nodes_fit}
use Rattle.ft_asm.proofs.LawfulLines.{cell_fits, type_fits, AllShown, all_shown}

-- BLOCKS

module _ (is : List Instr) (substs : List ℕ) where
  -- a block's instructions end no earlier than they begin, and within the code
  ends_within : (least : ℕ) (b : Block) (bs : List Block) → AreBlocks (length is) least (b ∷ bs) →
      (b.start ≤ begins_at (length is) bs) × (begins_at (length is) bs ≤ length is)
  ends_within least b [] h = (let low = h.1 in omega arith, omega arith)
  ends_within least b (d ∷ ds) h = (let up = h.2.0 in omega arith, let low = h.2.1 in omega arith)

  -- the parts of blocks contain all instructions from the first block on
  parts_have : (least : ℕ) (b : Block) (bs : List Block) → AreBlocks (length is) least (b ∷ bs) →
      flat_map codes_of (parts_of is substs (b ∷ bs)) ≡ map (code_of substs) (drop b.start is)
  parts_have least b [] h = append-nil (map (code_of substs) (slice_range is b.start (length is)))
      ∙ ap (map (code_of substs)) (range_rest is b.start)
  parts_have least b (d ∷ ds) h =
      ap (λ l. map (code_of substs) (slice_range is b.start d.start) ++ l) (parts_have (suc b.start) d ds h.2)
      ∙ sym (map-append (code_of substs) (slice_range is b.start d.start) (drop d.start is))
      ∙ ap (map (code_of substs)) (sym (drop_split is b.start d.start (ends_within least b (d ∷ ds) h).0))

  -- blocks are recovered from their parts
  blocks_back : (least : ℕ) (b : Block) (bs : List Block) → AreBlocks (length is) least (b ∷ bs) →
      blocks_from b.start (parts_of is substs (b ∷ bs)) ≡ b ∷ bs
  blocks_back least b [] h = refl
  blocks_back least b (d ∷ ds) h =
      let within = ends_within least b (d ∷ ds) h in
      let long : length (map (code_of substs) (slice_range is b.start d.start))
      ≡ d.start - b.start = length-map (slice_range is b.start d.start) (code_of substs)
      ∙ range_length is b.start d.start within.0 within.1 in
      let up = within.0 in
      let next : b.start + length (map (code_of substs) (slice_range is b.start d.start)) ≡ d.start = omega arith in
      ap (λ n. b ∷ blocks_from n (parts_of is substs (d ∷ ds))) next
      ∙ ap (λ l. b ∷ l) (blocks_back (suc b.start) d ds h.2)

  -- the lines of the parts fit
  parts_fit : (types : ℕ) → types ≤ 4096 → AllByRecursion (λ i. FitsCode (code_of substs i)) is → (bs : List Block) →
      AllByRecursion (HasCodeType types) bs → AllByRecursion FitsLine (flat_map part_lines (parts_of is substs bs))
  parts_fit types few h [] g = tt
  parts_fit types few h (b ∷ bs) g =
      let cut = slice_range is b.start (begins_at (length is) bs) in
      let low = g.0 in (
        omega arith,
        all_append FitsLine (map lines.Code (map (code_of substs) cut)) (flat_map part_lines (parts_of is substs bs))
            (all_map FitsLine lines.Code FitsCode (λ c f. f) (map (code_of substs) cut)
            (all_map FitsCode (code_of substs) (λ i. FitsCode (code_of substs i)) (λ i f. f) cut
            (all_taken (λ i. FitsCode (code_of substs i)) (begins_at (length is) bs - b.start) (drop b.start is)
            (all_dropped (λ i. FitsCode (code_of substs i)) b.start is h))))
            (parts_fit types few h bs g.1),
      )

-- OBJECTS

-- if the first block begins at instruction 0, the parts of all blocks contain all instructions, and the blocks are
-- recovered from them
parts_all : (is : List Instr) (substs : List ℕ) (bs : List Block) → BeginAtZero bs → AreBlocks (length is) 0 bs →
    (flat_map codes_of (parts_of is substs bs) ≡ map (code_of substs) is) × (blocks_from 0 (parts_of is substs bs) ≡ bs)
parts_all is substs [] z h = absurd z
parts_all is substs (b ∷ bs) z h = (
  parts_have is substs 0 b bs h ∙ ap (λ n. map (code_of substs) (drop n is)) z,
  ap (λ n. blocks_from n (parts_of is substs (b ∷ bs))) (sym z) ∙ blocks_back is substs 0 b bs h,
)

rows_fit : (o : Object) → IsSpellable o → AllByRecursion Is32 o.substs
rows_fit o h = all_rows (recursion_from_All (IsNodeIn o.nodes 128 false) o.substs h.substs)
  where
    all_rows : AllByRecursion (IsNodeIn o.nodes 128 false) o.substs → AllByRecursion Is32 o.substs
    all_rows f = all_weaker o.substs f
      where
        all_weaker : (xs : List ℕ) → AllByRecursion (IsNodeIn o.nodes 128 false) xs → AllByRecursion Is32 xs
        all_weaker [] g = tt
        all_weaker (x ∷ xs) g = (named_fits o.nodes (length o.nodes) 128 false x h.nodes.few g.0, all_weaker xs g.1)

shown_of : (o : Object) (h : IsSpellable o) → AllShown (length o.types) o.nodes h.few_types h.nodes.few (length o.cells)
    h.few_cells o.substs (rows_fit o h) 0 o.instrs
shown_of o h = all_shown (length o.types) o.nodes h.few_types h.nodes.few (length o.cells) h.few_cells o.substs
    (rows_fit o h) 0 o.instrs (recursion_from_All (IsInstr (length o.types) (length o.cells)) o.instrs h.instrs)
    h.covered

-- a lawful object is recovered from what its text says
pub object_back : (o : Object) → IsSpellable o → object_of (listing_of o) ≡ o
object_back o h =
    let parts = parts_all o.instrs o.substs o.blocks h.first_block h.blocks in
    let shown = shown_of o h in
    ap (λ bs. record {
      cells = o.cells;
      nodes = o.nodes;
      types = o.types;
      blocks = bs;
      instrs = instrs_from 0 (flat_map codes_of (parts_of o.instrs o.substs o.blocks));
      substs = flat_map rows_of (flat_map codes_of (parts_of o.instrs o.substs o.blocks));
      entry = o.entry;
    }) parts.1
    ∙ ap (λ cs. record {
      cells = o.cells;
      nodes = o.nodes;
      types = o.types;
      blocks = o.blocks;
      instrs = instrs_from 0 cs;
      substs = flat_map rows_of cs;
      entry = o.entry;
    }) parts.0
    ∙ ap (λ is. record {
      cells = o.cells;
      nodes = o.nodes;
      types = o.types;
      blocks = o.blocks;
      instrs = is;
      substs = flat_map rows_of (map (code_of o.substs) o.instrs);
      entry = o.entry;
    }) shown.back
    ∙ ap (λ ns. record {
      cells = o.cells;
      nodes = o.nodes;
      types = o.types;
      blocks = o.blocks;
      instrs = o.instrs;
      substs = ns;
      entry = o.entry;
    }) shown.rows

-- each line of a lawful object's text fits
pub listing_fits : (o : Object) → IsSpellable o → AllByRecursion FitsLine (listing_lines (listing_of o))
listing_fits o h =
    let types = length o.types in
    let few = h.few_types in
    let small = h.nodes.few in
    let last = h.entry in
    let blocks = h.few_blocks in
    all_append FitsLine (map lines.Cell o.cells) _
    (all_map FitsLine lines.Cell (IsCell types) (cell_fits types o.nodes few small) o.cells
    (recursion_from_All (IsCell types) o.cells h.cells))
    (all_append FitsLine (map lines.Node o.nodes) _ (nodes_fit o.nodes h.nodes)
    (all_append FitsLine (flat_map type_lines o.types) _
    (all_flat FitsLine type_lines (IsCodeType types o.nodes) (type_fits types o.nodes few small) o.types
    (recursion_from_All (IsCodeType types o.nodes) o.types h.types))
    (all_append FitsLine (flat_map part_lines (parts_of o.instrs o.substs o.blocks)) _
    (parts_fit o.instrs o.substs types few (shown_of o h).fits o.blocks
    (recursion_from_All (HasCodeType types) o.blocks h.block_types))
    (omega arith, tt))))

-- the text of a lawful object reads as that object
pub text_reads : (o : Object) → IsSpellable o → Reads (text_of o) o
text_reads o h = record {
  listing = listing_of o;
  said = text_says (listing_lines (listing_of o)) (listing_fits o h);
  means = sym (object_back o h);
}
