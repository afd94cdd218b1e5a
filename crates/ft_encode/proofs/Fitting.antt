-- An object whose numbers fit is read back from its spelling, whether or not it obeys the rules.
use Rattle.std.proofs.Common.{◌≡◌, ℕ, ◌+◌, ◌-◌, ◌^◌, ◌<◌, List, [], ◌∷◌, length, take, drop, map, refl, sym, ap, ◌∙◌}
use Rattle.std.proofs.Common.{arith}
use Rattle.std.specs.Int.{Width}
use Rattle.std.specs.List.{AllByRecursion, flat_map}
use Rattle.std.proofs.lemmas.List.{length-append, drop-drop, drop_at, take_at}
use Rattle.std.proofs.lemmas.List.Concat.{length-flat_map}
use Rattle.ft_isa.proofs.Lists.{all_append}
use Rattle.ft_types.specs.declared.object.Object.{Object}
use Rattle.ft_types.specs.declared.object.Cell.{Cell}
use Rattle.ft_types.specs.declared.object.CodeType.{CodeType}
use Rattle.ft_types.specs.declared.object.RegType.{RegType}
use Rattle.ft_types.specs.Objects.{name_of, regs_of, queue_of}
use Rattle.ft_types.specs.NodeRows.{node_row}
use Rattle.ft_format.specs.declared.version.Version.{Version}
use Rattle.ft_format.specs.Versions.{version_of}
use Rattle.ft_format.specs.Layout.{rows, cell_layout, code_layout, type_layout, reg_layout, pair_layout, subst_layout}
use Rattle.ft_format.specs.Rows.{cell_rows, type_rows, reg_row, queue_row, block_row, subst_row, all_regs}
use Rattle.ft_format.specs.InstrRecords.{instr_row, instr_of, FitsInstr}
use Rattle.ft_format.specs.Rows.{all_queue, all_names, spelling}
use Rattle.ft_format.specs.Values.{cells_of, types_of, reg_type_of, pair_of, block_of, subst_node_of}
use Rattle.ft_format.specs.NodeRecords.{node_of, FitsNode}
use Rattle.ft_format.specs.Broken.{cells_part, cells_read, nodes_read, regs_read, queue_read, types_read, blocks_read}
use Rattle.ft_format.specs.Broken.{instrs_read, substs_read, tables_read, version_at, object_of}
use Rattle.ft_format.specs.Codes.{Is32}
use Rattle.ft_format.specs.Fits.{FitsCell, FitsReg, FitsPair, FitsType, FitsBlock, Fits}
use Rattle.ft_format.proofs.Layouts.{Fit, AllFit}
use Rattle.ft_format.proofs.Codes.{colour_small, basic_back, base_small, type_fits}
use Rattle.ft_format.proofs.Versions.{magic_small, names_magic}
use Rattle.ft_format.proofs.Nodes.{shape_fit, shape_back}
use Rattle.ft_format.proofs.Types.{types_back}
use Rattle.ft_format.proofs.SpelledSections.{header_for}
use Rattle.ft_format.proofs.SmallRows.{reg_back}
use Rattle.ft_format.proofs.InstrsFine.{instr_fit, instr_back}
use Rattle.ft_encode.proofs.Sections.{SectionsFit, Sections, sections_are}

-- LISTS

-- if the fields of a record can hold the numbers of any single value, they can hold those of a list of values
rows_fit : {X : Type 0} (ws : List Width) (row : X → List ℕ) (P : X → Type 0) → ((x : X) → P x → Fit ws (row x)) →
    (xs : List X) → AllByRecursion P xs → AllFit ws (map row xs)
rows_fit ws row P one [] h = tt
rows_fit ws row P one (x ∷ xs) h = (one x h.0, rows_fit ws row P one xs h.1)

-- if any single value is read back, so is a list of values
rows_back : {X : Type 0} (read : List ℕ → X) (row : X → List ℕ) (P : X → Type 0) → ((x : X) → P x → read (row x) ≡ x) →
    (xs : List X) → AllByRecursion P xs → map read (map row xs) ≡ xs
rows_back read row P one [] h = refl
rows_back read row P one (x ∷ xs) h = ap (λ y. y ∷ map read (map row xs)) (one x h.0)
    ∙ ap (λ ys. x ∷ ys) (rows_back read row P one xs h.1)

-- CELLS

cells_fit : (start : ℕ) (cs : List Cell) → start + length (flat_map name_of cs) < 2 ^ 32 → AllByRecursion FitsCell cs →
    AllFit cell_layout (cell_rows start cs)
cells_fit start [] few h = tt
cells_fit start (c ∷ cs) few h =
    let long = length-append c.name (flat_map name_of cs) in
    let past : start + length c.name < 2 ^ 32 = omega arith in
    let rest : start + length c.name + length (flat_map name_of cs) < 2 ^ 32 = omega arith in (
      (past, (h.0.0.0, (omega (arith, base_small c.basic.base), (type_fits c.basic.base h.0.0.1, (h.0.1, tt))))),
      cells_fit (start + length c.name) cs rest h.1,
    )

cells_back : (names : List ℕ) (start : ℕ) (cs : List Cell) → drop start names ≡ flat_map name_of cs →
    cells_of names start (cell_rows start cs) ≡ cs
cells_back names start [] e = refl
cells_back names start (c ∷ cs) e =
    let past = start + length c.name in
    let size : past - start ≡ length c.name = omega arith in
    let rest : drop past names ≡ flat_map name_of cs = sym (drop-drop (length c.name) start names)
    ∙ ap (drop (length c.name)) e ∙ drop_at c.name (flat_map name_of cs) (length c.name) refl in
    let name : take (past - start) (drop start names) ≡ c.name = ap (λ n. take n (drop start names)) size
    ∙ ap (take (length c.name)) e ∙ take_at c.name (flat_map name_of cs) (length c.name) refl in
    rw (name, basic_back c.basic, cells_back names past cs rest) refl

-- TYPES AND THEIR ROWS

types_fit : (start queue_start : ℕ) (ts : List CodeType) → start + length (flat_map regs_of ts) < 2 ^ 32 →
    queue_start + length (flat_map queue_of ts) < 2 ^ 32 → AllByRecursion FitsType ts →
    AllFit type_layout (type_rows start queue_start ts)
types_fit start queue_start [] r q h = tt
types_fit start queue_start (t ∷ ts) r q h =
    let long = length-append t.regs (flat_map regs_of ts) in
    let queue_long = length-append t.queue (flat_map queue_of ts) in
    let end : start + length t.regs < 2 ^ 32 = omega arith in
    let queue_end : queue_start + length t.queue < 2 ^ 32 = omega arith in
    let rest : start + length t.regs + length (flat_map regs_of ts) < 2 ^ 32 = omega arith in
    let queue_rest : queue_start + length t.queue + length (flat_map queue_of ts) < 2 ^ 32 = omega arith in (
      (end, (queue_end, (h.0.memory, (h.0.ints, (omega arith, (omega arith, (omega arith, tt))))))),
      types_fit (start + length t.regs) (queue_start + length t.queue) ts rest queue_rest h.1,
    )

reg_fits : (r : RegType) → FitsReg r → Fit reg_layout (reg_row r)
reg_fits r h = (
  omega (arith, r.reg.in_range),
  (
    omega (arith, colour_small r.colour),
    (omega arith, (h.0.0, (omega (arith, base_small r.basic.base), (type_fits r.basic.base h.0.1, (h.1, tt))))),
  ),
)

all_regs_fit : (ts : List CodeType) → AllByRecursion FitsType ts → AllByRecursion FitsReg (flat_map regs_of ts)
all_regs_fit [] h = tt
all_regs_fit (t ∷ ts) h = all_append FitsReg t.regs (flat_map regs_of ts) h.0.regs (all_regs_fit ts h.1)

all_queue_fit : (ts : List CodeType) → AllByRecursion FitsType ts → AllByRecursion FitsPair (flat_map queue_of ts)
all_queue_fit [] h = tt
all_queue_fit (t ∷ ts) h = all_append FitsPair t.queue (flat_map queue_of ts) h.0.queue (all_queue_fit ts h.1)

-- OBJECTS

sections_fit : (v : Version) (o : Object) → Fits o → SectionsFit v o
sections_fit v o f =
    let n = f.counts in
    let regs : length (all_regs o) < 2 ^ 32 = omega (arith, length-flat_map regs_of o.types, n.regs) in
    let queue : length (all_queue o) < 2 ^ 32 = omega (arith, length-flat_map queue_of o.types, n.queue) in
    let names : length (all_names o) < 2 ^ 32 = omega (arith, length-flat_map name_of o.cells, n.names) in
    record {
      header = (
        magic_small v,
        (
          n.cells,
          (
            n.nodes,
            (n.types, (regs, (queue, (n.blocks, (n.instrs, (n.substs, (names, (f.entry, tt)))))))),
          ),
        ),
      );
      cells = cells_fit 0 o.cells (omega arith) f.cells;
      nodes = rows_fit code_layout node_row FitsNode (λ x h. shape_fit x.scope x.shape h.0 h.1) o.nodes f.nodes;
      types = types_fit 0 0 o.types (omega arith) (omega arith) f.types;
      regs = rows_fit reg_layout reg_row FitsReg reg_fits (all_regs o) (all_regs_fit o.types f.types);
      queue = rows_fit pair_layout queue_row FitsPair (λ q h. (h.0, (h.1, tt))) (all_queue o)
          (all_queue_fit o.types f.types);
      blocks = rows_fit pair_layout block_row FitsBlock (λ b h. (h.0, (h.1, tt))) o.blocks f.blocks;
      instrs = rows_fit code_layout instr_row FitsInstr instr_fit o.instrs f.instrs;
      substs = rows_fit subst_layout subst_row Is32 (λ s h. (h, tt)) o.substs f.substs;
    }

tables_back : (bytes : List ℕ) (v : Version) (o : Object) → Fits o → Sections bytes v o →
    tables_read (header_for v o) bytes ≡ o
unfolding tables_read
tables_back bytes v o f s =
    let h = header_for v o in
    let cells_are : cells_read h bytes ≡ o.cells = ap (λ l. cells_of l 0 (rows cell_layout h.cells (cells_part bytes)))
    s.names ∙ ap (cells_of (all_names o) 0) s.cells ∙ cells_back (all_names o) 0 o.cells refl in
    let nodes_are : nodes_read h bytes ≡ o.nodes = ap (map node_of) s.nodes
    ∙ rows_back node_of node_row FitsNode (λ x k. shape_back x.scope x.shape) o.nodes f.nodes in
    let regs_are : regs_read h bytes ≡ all_regs o = ap (map reg_type_of) s.regs
    ∙ rows_back reg_type_of reg_row FitsReg (λ r k. reg_back r) (all_regs o) (all_regs_fit o.types f.types) in
    let queue_are : queue_read h bytes ≡ all_queue o = ap (map pair_of) s.queue
    ∙ rows_back pair_of queue_row FitsPair (λ q k. refl) (all_queue o) (all_queue_fit o.types f.types) in
    let types_are : types_read h bytes ≡ o.types = ap (λ l. types_of 0 0 l (regs_read h bytes) (queue_read h bytes))
    s.types ∙ ap (λ l. types_of 0 0 (type_rows 0 0 o.types) l (queue_read h bytes)) regs_are
    ∙ ap (λ l. types_of 0 0 (type_rows 0 0 o.types) (all_regs o) l) queue_are ∙ types_back 0 0 o.types in
    let blocks_are : blocks_read h bytes ≡ o.blocks = ap (map block_of) s.blocks
    ∙ rows_back block_of block_row FitsBlock (λ b k. refl) o.blocks f.blocks in
    let instrs_are : instrs_read h bytes ≡ o.instrs = ap (map instr_of) s.instrs
    ∙ rows_back instr_of instr_row FitsInstr instr_back o.instrs f.instrs in
    let substs_are : substs_read h bytes ≡ o.substs = ap (map subst_node_of) s.substs
    ∙ rows_back subst_node_of subst_row Is32 (λ n k. refl) o.substs f.substs in
    rw (cells_are, nodes_are, types_are, blocks_are, instrs_are, substs_are) refl

-- the object is read back
pub fitting_read : (v : Version) (o : Object) → Fits o → object_of (spelling v o) ≡ o
fitting_read v o f =
    let s = sections_are (spelling v o) v o (sections_fit v o f) refl in
    ap (λ h. tables_read h (spelling v o)) s.header ∙ tables_back (spelling v o) v o f s

-- the version is read back
pub fitting_version : (v : Version) (o : Object) → Fits o → version_at (spelling v o) ≡ v
fitting_version v o f =
    let s = sections_are (spelling v o) v o (sections_fit v o f) refl in
    ap version_of s.header ∙ names_magic (header_for v o) v refl
