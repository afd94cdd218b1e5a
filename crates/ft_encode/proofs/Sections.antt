-- The sections of an object's spelling, if their fields can hold the object's numbers.
use Rattle.std.proofs.Common.{◌≡◌, ℕ, ◌+◌, ◌*◌, List, ◌++◌, length, drop, map, ap, ◌∙◌, arith}
use Rattle.std.specs.Int.{Width}
use Rattle.std.proofs.lemmas.List.{length-append, length-map, drop_at}
use Rattle.ft_types.specs.declared.object.Object.{Object}
use Rattle.ft_types.specs.NodeRows.{node_row}
use Rattle.ft_format.specs.declared.version.Version.{Version}
use Rattle.ft_format.specs.Layout.{size, numbers, written, rows, spelled, header_layout, cell_layout, code_layout}
use Rattle.ft_format.specs.Layout.{type_layout, reg_layout, pair_layout, subst_layout}
use Rattle.ft_format.specs.Rows.{cell_rows, type_rows, reg_row, queue_row, block_row, subst_row, all_regs}
use Rattle.ft_format.specs.InstrRecords.{instr_row}
use Rattle.ft_format.specs.Rows.{all_queue, all_names, header_row, spelling}
use Rattle.ft_format.specs.Values.{header_of}
use Rattle.ft_format.specs.Broken.{nodes_at, types_at, regs_at, queue_at, blocks_at, instrs_at, substs_at, names_at}
use Rattle.ft_format.specs.Broken.{total, header_at}
use Rattle.ft_format.proofs.SpelledSections.{header_for, length_cell_rows, length_type_rows, after_section}
use Rattle.ft_format.proofs.SpelledSections.{section_rows}
use Rattle.ft_format.proofs.Layouts.{Fit, AllFit, numbers_back, length_written, length_spelled}

-- the bytes of a spelling after a section
abbrev pub after_instrs : Object → List ℕ
after_instrs o = spelled subst_layout (map subst_row o.substs) ++ all_names o

abbrev pub after_blocks : Object → List ℕ
after_blocks o = spelled code_layout (map instr_row o.instrs) ++ after_instrs o

abbrev pub after_queue : Object → List ℕ
after_queue o = spelled pair_layout (map block_row o.blocks) ++ after_blocks o

abbrev pub after_regs : Object → List ℕ
after_regs o = spelled pair_layout (map queue_row (all_queue o)) ++ after_queue o

abbrev pub after_types : Object → List ℕ
after_types o = spelled reg_layout (map reg_row (all_regs o)) ++ after_regs o

abbrev pub after_nodes : Object → List ℕ
after_nodes o = spelled type_layout (type_rows 0 0 o.types) ++ after_types o

abbrev pub after_cells : Object → List ℕ
after_cells o = spelled code_layout (map node_row o.nodes) ++ after_nodes o

abbrev pub after_header : Object → List ℕ
after_header o = spelled cell_layout (cell_rows 0 o.cells) ++ after_cells o

section_long : (ws : List Width) (rs : List (List ℕ)) (n : ℕ) (tail : List ℕ) → AllFit ws rs → length rs ≡ n →
    length (spelled ws rs ++ tail) ≡ size ws * n + length tail
section_long ws rs n tail fit count =
    length-append (spelled ws rs) tail ∙ ap (λ k. k + length tail) (length_spelled ws rs fit
    ∙ ap (λ k. size ws * k) count)

-- the fields of all records can hold their numbers
pub record SectionsFit (v : Version) (o : Object) : Type 0 where
  pub header : Fit header_layout (header_row v o)
  pub cells : AllFit cell_layout (cell_rows 0 o.cells)
  pub nodes : AllFit code_layout (map node_row o.nodes)
  pub types : AllFit type_layout (type_rows 0 0 o.types)
  pub regs : AllFit reg_layout (map reg_row (all_regs o))
  pub queue : AllFit pair_layout (map queue_row (all_queue o))
  pub blocks : AllFit pair_layout (map block_row o.blocks)
  pub instrs : AllFit code_layout (map instr_row o.instrs)
  pub substs : AllFit subst_layout (map subst_row o.substs)

-- what the bytes contain: the header, the rows of each section, and the bytes after the types, after the register rows
-- and after the substitution rows
pub record Sections (bytes : List ℕ) (v : Version) (o : Object) : Type 0 where
  pub header : header_at bytes ≡ header_for v o
  pub total_is : length bytes ≡ total (header_for v o)
  pub cells : rows cell_layout (length o.cells) (drop 48 bytes) ≡ cell_rows 0 o.cells
  pub nodes : rows code_layout (length o.nodes) (drop (nodes_at (header_for v o)) bytes) ≡ map node_row o.nodes
  pub types : rows type_layout (length o.types) (drop (types_at (header_for v o)) bytes) ≡ type_rows 0 0 o.types
  pub regs : rows reg_layout (length (all_regs o)) (drop (regs_at (header_for v o)) bytes) ≡ map reg_row (all_regs o)
  pub queue : rows pair_layout (length (all_queue o)) (drop (queue_at (header_for v o)) bytes)
      ≡ map queue_row (all_queue o)
  pub blocks : rows pair_layout (length o.blocks) (drop (blocks_at (header_for v o)) bytes) ≡ map block_row o.blocks
  pub instrs : rows code_layout (length o.instrs) (drop (instrs_at (header_for v o)) bytes) ≡ map instr_row o.instrs
  pub substs : rows subst_layout (length o.substs) (drop (substs_at (header_for v o)) bytes) ≡ map subst_row o.substs
  pub from_regs : drop (regs_at (header_for v o)) bytes ≡ after_types o
  pub from_queue : drop (queue_at (header_for v o)) bytes ≡ after_regs o
  pub names : drop (names_at (header_for v o)) bytes ≡ all_names o

pub sections_are : (bytes : List ℕ) (v : Version) (o : Object) → SectionsFit v o → bytes ≡ spelling v o →
    Sections bytes v o
unfolding spelling
sections_are bytes v o f e =
    let h = header_for v o in
    let head = written header_layout (header_row v o) in
    let head_long : length head ≡ 48 = length_written header_layout (header_row v o) f.header in
    let cells = cell_rows 0 o.cells in
    let types = type_rows 0 0 o.types in
    let n_cells = length_cell_rows 0 o.cells in
    let n_nodes = length-map o.nodes node_row in
    let n_types = length_type_rows 0 0 o.types in
    let n_regs = length-map (all_regs o) reg_row in
    let n_queue = length-map (all_queue o) queue_row in
    let n_blocks = length-map o.blocks block_row in
    let n_instrs = length-map o.instrs instr_row in
    let n_substs = length-map o.substs subst_row in
    let d_cells : drop 48 bytes ≡ after_header o = ap (drop 48) e ∙ drop_at head (after_header o) 48 head_long in
    let d_nodes : drop (nodes_at h) bytes ≡ after_cells o =
    after_section cell_layout cells 48 (length o.cells) bytes (after_cells o) f.cells n_cells d_cells in
    let d_types : drop (types_at h) bytes ≡ after_nodes o =
    after_section code_layout (map node_row o.nodes) (nodes_at h) (length o.nodes) bytes (after_nodes o) f.nodes
    n_nodes d_nodes in
    let d_regs : drop (regs_at h) bytes ≡ after_types o = after_section type_layout types (types_at h) (length o.types)
    bytes (after_types o) f.types n_types d_types in
    let d_queue : drop (queue_at h) bytes ≡ after_regs o =
    after_section reg_layout (map reg_row (all_regs o)) (regs_at h) (length (all_regs o)) bytes (after_regs o) f.regs
    n_regs d_regs in
    let d_blocks : drop (blocks_at h) bytes ≡ after_queue o =
    after_section pair_layout (map queue_row (all_queue o)) (queue_at h) (length (all_queue o)) bytes (after_queue o)
    f.queue n_queue d_queue in
    let d_instrs : drop (instrs_at h) bytes ≡ after_blocks o =
    after_section pair_layout (map block_row o.blocks) (blocks_at h) (length o.blocks) bytes (after_blocks o) f.blocks
    n_blocks d_blocks in
    let d_substs : drop (substs_at h) bytes ≡ after_instrs o =
    after_section code_layout (map instr_row o.instrs) (instrs_at h) (length o.instrs) bytes (after_instrs o) f.instrs
    n_instrs d_instrs in
    let l_instrs = section_long subst_layout (map subst_row o.substs) (length o.substs) (all_names o) f.substs n_substs
    in
    let l_blocks = section_long code_layout (map instr_row o.instrs) (length o.instrs) (after_instrs o) f.instrs
    n_instrs in
    let l_queue = section_long pair_layout (map block_row o.blocks) (length o.blocks) (after_blocks o) f.blocks n_blocks
    in
    let l_regs = section_long pair_layout (map queue_row (all_queue o)) (length (all_queue o)) (after_queue o) f.queue
    n_queue in
    let l_types = section_long reg_layout (map reg_row (all_regs o)) (length (all_regs o)) (after_regs o) f.regs n_regs
    in
    let l_nodes = section_long type_layout types (length o.types) (after_types o) f.types n_types in
    let l_cells = section_long code_layout (map node_row o.nodes) (length o.nodes) (after_nodes o) f.nodes n_nodes in
    let l_header = section_long cell_layout cells (length o.cells) (after_cells o) f.cells n_cells in
    record {
      header = ap header_of (ap (numbers header_layout) e
          ∙ numbers_back header_layout (header_row v o) (after_header o) f.header);
      total_is = ap length e ∙ length-append head (after_header o)
          ∙ omega (arith, head_long, l_header, l_cells, l_nodes, l_types, l_regs, l_queue, l_blocks, l_instrs);
      cells = section_rows cell_layout cells 48 (length o.cells) bytes (after_cells o) f.cells n_cells d_cells;
      nodes = section_rows code_layout (map node_row o.nodes) (nodes_at h) (length o.nodes) bytes (after_nodes o)
          f.nodes n_nodes d_nodes;
      types = section_rows type_layout types (types_at h) (length o.types) bytes (after_types o) f.types n_types
          d_types;
      regs = section_rows reg_layout (map reg_row (all_regs o)) (regs_at h) (length (all_regs o)) bytes (after_regs o)
          f.regs n_regs d_regs;
      queue = section_rows pair_layout (map queue_row (all_queue o)) (queue_at h) (length (all_queue o)) bytes
          (after_queue o) f.queue n_queue d_queue;
      blocks = section_rows pair_layout (map block_row o.blocks) (blocks_at h) (length o.blocks) bytes (after_blocks o)
          f.blocks n_blocks d_blocks;
      instrs = section_rows code_layout (map instr_row o.instrs) (instrs_at h) (length o.instrs) bytes (after_instrs o)
          f.instrs n_instrs d_instrs;
      substs = section_rows subst_layout (map subst_row o.substs) (substs_at h) (length o.substs) bytes (all_names o)
          f.substs n_substs d_substs;
      from_regs = d_regs;
      from_queue = d_queue;
      names = after_section subst_layout (map subst_row o.substs) (substs_at h) (length o.substs) bytes (all_names o)
          f.substs n_substs d_substs;
    }
