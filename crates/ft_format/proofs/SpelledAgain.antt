-- The sections of an object's spelling break no rule, and decode to the object.
use Rattle.std.proofs.Common.{◌≡◌, ℕ, ◌+◌, ◌*◌, false, List, [], ◌++◌, length, drop, map, None, refl, sym, ap, ◌∙◌}
use Rattle.std.proofs.Common.{subst, arith}
use Rattle.std.specs.Prelude.{◌==◌}
use Rattle.ft_static.specs.NodeRules.{IsNode}
use Rattle.ft_types.specs.declared.object.Object.{Object}
use Rattle.ft_types.specs.Spellable.{IsCell, IsCodeType, HasCodeType, IsInstr, IsNodeIn, IsSpellable}
use Rattle.ft_types.specs.NodeRows.{node_row}
use Rattle.ft_format.specs.declared.object_error.ObjectError.TheVariants as errors
use Rattle.ft_format.specs.declared.version.Version.{Version}
use Rattle.ft_format.specs.Versions.{version_of}
use Rattle.ft_format.specs.Format.{SupportsName, Supports}
use Rattle.ft_format.specs.NodeRecords.{SupportsNode, node_of}
use Rattle.ft_format.specs.InstrRecords.{SupportsInstr, instr_row, instr_of}
use Rattle.ft_format.specs.Layout.{numbers, written, rows, spelled, header_layout, cell_layout, code_layout}
use Rattle.ft_format.specs.Layout.{type_layout, reg_layout, pair_layout, subst_layout}
use Rattle.ft_format.specs.Rules.{must}
use Rattle.ft_format.specs.Rows.{cell_rows, type_rows, reg_row, queue_row, block_row, subst_row, all_regs}
use Rattle.ft_format.specs.Rows.{all_queue, all_names, header_row, spelling}
use Rattle.ft_format.specs.Values.{cells_of, types_of, reg_type_of, pair_of, block_of, subst_node_of, header_of}
use Rattle.ft_format.specs.Broken.{cells_broken, nodes_broken, types_broken, regs_broken, queues_broken, blocks_broken}
use Rattle.ft_format.specs.Broken.{instrs_broken, rows_taken, subst_rows_broken, nodes_at, types_at, regs_at, queue_at}
use Rattle.ft_format.specs.Broken.{blocks_at, instrs_at, substs_at, names_at, total, cells_part, nodes_part, regs_part}
use Rattle.ft_format.specs.Broken.{queue_part, blocks_part, substs_part, type_rows_of, instr_rows_of, cells_read}
use Rattle.ft_format.specs.Broken.{nodes_read, regs_read, queue_read, types_read, blocks_read, instrs_read, substs_read}
use Rattle.ft_format.specs.Broken.{tables_read, code_types_broken, tables_broken, header_at}
use Rattle.std.proofs.lemmas.List.{length-append, length-map, drop_at}
use Rattle.std.proofs.lemmas.List.Elements.{recursion_from_All}
use Rattle.ft_format.proofs.Layouts.{numbers_back, length_written, length_spelled}
use Rattle.ft_format.proofs.Codes.{eq_true}
use Rattle.ft_format.proofs.Nodes.{Follow, nodes_follow, nodes_fine}
use Rattle.ft_format.proofs.InstrsFine.{instrs_fine}
use Rattle.ft_format.proofs.SmallRows.{all_blocks_fine, substs_fine}
use Rattle.ft_format.proofs.Cells.{cells_fine, names_fine}
use Rattle.ft_format.proofs.Versions.{names_magic}
use Rattle.ft_format.proofs.Types.{AreFewRows, type_rows_fine, all_regs_fine, all_queue_fine, types_back}
use Rattle.ft_format.proofs.SpelledSections.{header_for, cells_but, named, length_cell_rows, length_type_rows}
use Rattle.ft_format.proofs.SpelledSections.{after_section, section_rows, small_for, header_fit}

-- the spelling of an object breaks no rule, and decodes to that object
pub record Again (bytes : List ℕ) (v : Version) (o : Object) : Type 0 where
  pub header : header_at bytes ≡ header_for v o
  pub total_is : length bytes ≡ total (header_for v o)
  pub unbroken : tables_broken (header_for v o) bytes ≡ None
  pub back : tables_read (header_for v o) bytes ≡ o

pub spelled_again : (bytes : List ℕ) (v : Version) (o : Object) → IsSpellable o → Supports v o → bytes ≡ spelling v o →
    Again bytes v o
unfolding spelling tables_broken code_types_broken tables_read
spelled_again bytes v o s has e =
    let h = header_for v o in
    let m = small_for v o s has in
    let w = version_of h in
    let own : Supports w o = subst (λ x. Supports x o) (sym (names_magic h v refl)) has in
    let with_names = recursion_from_All (SupportsName w) o.cells own.names in
    let ns = o.nodes in
    let cs = recursion_from_All (IsCell (length o.types)) o.cells s.cells in
    let of_cells = cells_fine h (all_names o) 0 48 o.cells m.types m.names refl (omega arith)
    (cells_but w (length o.types) o.cells cs with_names) refl in
    let follow : Follow [] ns = nodes_follow [] ns (λ k node f. let place : k ≡ 0 + k = omega arith in
    subst (λ i. IsNode ns i node) place (s.nodes.each k node f)) in
    let of_nodes = nodes_fine w [] (nodes_at h) ns s.nodes.few follow (recursion_from_All (SupportsNode w) ns own.nodes)
    in
    let few : AreFewRows h ns = record { types = m.types; regs = m.regs; queue = m.queue; node_count = s.nodes.few } in
    let ts = recursion_from_All (IsCodeType (length o.types) ns) o.types s.types in
    let of_types = type_rows_fine h ns 0 0 (types_at h) o.types few ts (omega arith) (omega arith) in
    let of_regs = all_regs_fine h ns 0 0 (regs_at h) o.types (spelled pair_layout (map queue_row (all_queue o))
    ++ (spelled pair_layout (map block_row o.blocks)
    ++ (spelled code_layout (map instr_row o.instrs)
    ++ (spelled subst_layout (map subst_row o.substs) ++ all_names o)))) few ts (omega arith) in
    let of_queue = all_queue_fine h ns 0 0 (queue_at h) o.types (spelled pair_layout (map block_row o.blocks)
    ++ (spelled code_layout (map instr_row o.instrs)
    ++ (spelled subst_layout (map subst_row o.substs) ++ all_names o))) few ts (omega arith) in
    let of_blocks = all_blocks_fine h (blocks_at h) o.blocks m.types m.instrs s.first_block s.blocks
    (recursion_from_All (HasCodeType (length o.types)) o.blocks s.block_types) in
    let of_instrs = instrs_fine h ns 0 (instrs_at h) o.instrs (record {
      types = m.types;
      cells = m.cells;
      substs = m.substs;
      node_count = s.nodes.few;
    }) (recursion_from_All (IsInstr (length o.types) (length o.cells))
    o.instrs s.instrs) (recursion_from_All (SupportsInstr w) o.instrs own.instrs) s.covered in
    let of_substs = substs_fine ns (substs_at h) o.substs s.nodes.few
    (recursion_from_All (IsNodeIn ns 128 false) o.substs s.substs) in
    let of_names = names_fine w (total h) [] (names_at h) o.cells (named w (length o.types) o.cells cs with_names)
    s.names_differ refl in
    let head = written header_layout (header_row v o) in
    let head_long : length head ≡ 48 = length_written header_layout (header_row v o) (header_fit v o s has) in
    let d_cells : drop 48 bytes ≡ (spelled cell_layout (cell_rows 0 o.cells)
    ++ (spelled code_layout (map node_row o.nodes)
    ++ (spelled type_layout (type_rows 0 0 o.types)
    ++ (spelled reg_layout (map reg_row (all_regs o))
    ++ (spelled pair_layout (map queue_row (all_queue o))
    ++ (spelled pair_layout (map block_row o.blocks)
    ++ (spelled code_layout (map instr_row o.instrs)
    ++ (spelled subst_layout (map subst_row o.substs) ++ all_names o)))))))) = ap (drop 48) e
    ∙ drop_at head (spelled cell_layout (cell_rows 0 o.cells)
    ++ (spelled code_layout (map node_row o.nodes)
    ++ (spelled type_layout (type_rows 0 0 o.types)
    ++ (spelled reg_layout (map reg_row (all_regs o))
    ++ (spelled pair_layout (map queue_row (all_queue o))
    ++ (spelled pair_layout (map block_row o.blocks)
    ++ (spelled code_layout (map instr_row o.instrs)
    ++ (spelled subst_layout (map subst_row o.substs) ++ all_names o)))))))) 48 head_long in
    let d_nodes : drop (nodes_at h) bytes ≡ (spelled code_layout (map node_row o.nodes)
    ++ (spelled type_layout (type_rows 0 0 o.types)
    ++ (spelled reg_layout (map reg_row (all_regs o))
    ++ (spelled pair_layout (map queue_row (all_queue o))
    ++ (spelled pair_layout (map block_row o.blocks)
    ++ (spelled code_layout (map instr_row o.instrs)
    ++ (spelled subst_layout (map subst_row o.substs) ++ all_names o))))))) =
    after_section cell_layout (cell_rows 0 o.cells) 48 (length o.cells) bytes
    (spelled code_layout (map node_row o.nodes) ++ (spelled type_layout (type_rows 0 0 o.types)
    ++ (spelled reg_layout (map reg_row (all_regs o))
    ++ (spelled pair_layout (map queue_row (all_queue o))
    ++ (spelled pair_layout (map block_row o.blocks)
    ++ (spelled code_layout (map instr_row o.instrs)
    ++ (spelled subst_layout (map subst_row o.substs) ++ all_names o))))))) of_cells.fit (length_cell_rows 0 o.cells)
    d_cells in
    let d_types : drop (types_at h) bytes ≡ (spelled type_layout (type_rows 0 0 o.types)
    ++ (spelled reg_layout (map reg_row (all_regs o))
    ++ (spelled pair_layout (map queue_row (all_queue o))
    ++ (spelled pair_layout (map block_row o.blocks)
    ++ (spelled code_layout (map instr_row o.instrs)
    ++ (spelled subst_layout (map subst_row o.substs) ++ all_names o)))))) =
    after_section code_layout (map node_row o.nodes) (nodes_at h) (length o.nodes) bytes
    (spelled type_layout (type_rows 0 0 o.types)
    ++ (spelled reg_layout (map reg_row (all_regs o))
    ++ (spelled pair_layout (map queue_row (all_queue o))
    ++ (spelled pair_layout (map block_row o.blocks)
    ++ (spelled code_layout (map instr_row o.instrs)
    ++ (spelled subst_layout (map subst_row o.substs) ++ all_names o)))))) of_nodes.2 (length-map o.nodes node_row)
    d_nodes in
    let d_regs : drop (regs_at h) bytes ≡ (spelled reg_layout (map reg_row (all_regs o))
    ++ (spelled pair_layout (map queue_row (all_queue o))
    ++ (spelled pair_layout (map block_row o.blocks)
    ++ (spelled code_layout (map instr_row o.instrs)
    ++ (spelled subst_layout (map subst_row o.substs) ++ all_names o))))) =
    after_section type_layout (type_rows 0 0 o.types) (types_at h) (length o.types) bytes
    (spelled reg_layout (map reg_row (all_regs o))
    ++ (spelled pair_layout (map queue_row (all_queue o))
    ++ (spelled pair_layout (map block_row o.blocks)
    ++ (spelled code_layout (map instr_row o.instrs)
    ++ (spelled subst_layout (map subst_row o.substs) ++ all_names o))))) of_types.fit (length_type_rows 0 0 o.types)
    d_types in
    let d_queue : drop (queue_at h) bytes ≡ (spelled pair_layout (map queue_row (all_queue o))
    ++ (spelled pair_layout (map block_row o.blocks)
    ++ (spelled code_layout (map instr_row o.instrs)
    ++ (spelled subst_layout (map subst_row o.substs) ++ all_names o)))) =
    after_section reg_layout (map reg_row (all_regs o)) (regs_at h) (length (all_regs o)) bytes
    (spelled pair_layout (map queue_row (all_queue o))
    ++ (spelled pair_layout (map block_row o.blocks)
    ++ (spelled code_layout (map instr_row o.instrs)
    ++ (spelled subst_layout (map subst_row o.substs) ++ all_names o)))) of_regs.fit (length-map (all_regs o) reg_row)
    d_regs in
    let d_blocks : drop (blocks_at h) bytes ≡ (spelled pair_layout (map block_row o.blocks)
    ++ (spelled code_layout (map instr_row o.instrs)
    ++ (spelled subst_layout (map subst_row o.substs) ++ all_names o))) =
    after_section pair_layout (map queue_row (all_queue o)) (queue_at h) (length (all_queue o)) bytes
    (spelled pair_layout (map block_row o.blocks)
    ++ (spelled code_layout (map instr_row o.instrs)
    ++ (spelled subst_layout (map subst_row o.substs) ++ all_names o))) of_queue.fit
    (length-map (all_queue o) queue_row) d_queue in
    let d_instrs : drop (instrs_at h) bytes ≡ (spelled code_layout (map instr_row o.instrs)
    ++ (spelled subst_layout (map subst_row o.substs) ++ all_names o)) =
    after_section pair_layout (map block_row o.blocks) (blocks_at h) (length o.blocks) bytes
    (spelled code_layout (map instr_row o.instrs) ++ (spelled subst_layout (map subst_row o.substs) ++ all_names o))
    of_blocks.fit (length-map o.blocks block_row) d_blocks in
    let d_substs : drop (substs_at h) bytes ≡ (spelled subst_layout (map subst_row o.substs) ++ all_names o) =
    after_section code_layout (map instr_row o.instrs) (instrs_at h) (length o.instrs) bytes
    (spelled subst_layout (map subst_row o.substs) ++ all_names o) of_instrs.fit (length-map o.instrs instr_row)
    d_instrs in
    let d_names : drop (names_at h) bytes ≡ all_names o =
    after_section subst_layout (map subst_row o.substs) (substs_at h) (length o.substs) bytes (all_names o)
    of_substs.fit (length-map o.substs subst_row) d_substs in
    let r_cells : rows cell_layout (length o.cells) (drop 48 bytes)
    ≡ (cell_rows 0 o.cells) = section_rows cell_layout (cell_rows 0 o.cells) 48 (length o.cells) bytes
    (spelled code_layout (map node_row o.nodes) ++ (spelled type_layout (type_rows 0 0 o.types)
    ++ (spelled reg_layout (map reg_row (all_regs o))
    ++ (spelled pair_layout (map queue_row (all_queue o))
    ++ (spelled pair_layout (map block_row o.blocks)
    ++ (spelled code_layout (map instr_row o.instrs)
    ++ (spelled subst_layout (map subst_row o.substs) ++ all_names o))))))) of_cells.fit (length_cell_rows 0 o.cells)
    d_cells in
    let r_nodes : rows code_layout (length o.nodes) (drop (nodes_at h) bytes)
    ≡ (map node_row o.nodes) = section_rows code_layout (map node_row o.nodes) (nodes_at h) (length o.nodes) bytes
    (spelled type_layout (type_rows 0 0 o.types)
    ++ (spelled reg_layout (map reg_row (all_regs o))
    ++ (spelled pair_layout (map queue_row (all_queue o))
    ++ (spelled pair_layout (map block_row o.blocks)
    ++ (spelled code_layout (map instr_row o.instrs)
    ++ (spelled subst_layout (map subst_row o.substs) ++ all_names o)))))) of_nodes.2 (length-map o.nodes node_row)
    d_nodes in
    let r_types : rows type_layout (length o.types) (drop (types_at h) bytes)
    ≡ (type_rows 0 0 o.types) = section_rows type_layout (type_rows 0 0 o.types) (types_at h) (length o.types) bytes
    (spelled reg_layout (map reg_row (all_regs o))
    ++ (spelled pair_layout (map queue_row (all_queue o))
    ++ (spelled pair_layout (map block_row o.blocks)
    ++ (spelled code_layout (map instr_row o.instrs)
    ++ (spelled subst_layout (map subst_row o.substs) ++ all_names o))))) of_types.fit (length_type_rows 0 0 o.types)
    d_types in
    let r_regs : rows reg_layout (length (all_regs o)) (drop (regs_at h) bytes) ≡ (map reg_row (all_regs o)) =
    section_rows reg_layout (map reg_row (all_regs o)) (regs_at h) (length (all_regs o)) bytes
    (spelled pair_layout (map queue_row (all_queue o))
    ++ (spelled pair_layout (map block_row o.blocks)
    ++ (spelled code_layout (map instr_row o.instrs)
    ++ (spelled subst_layout (map subst_row o.substs) ++ all_names o)))) of_regs.fit (length-map (all_regs o) reg_row)
    d_regs in
    let r_queue : rows pair_layout (length (all_queue o)) (drop (queue_at h) bytes) ≡ (map queue_row (all_queue o)) =
    section_rows pair_layout (map queue_row (all_queue o)) (queue_at h) (length (all_queue o)) bytes
    (spelled pair_layout (map block_row o.blocks)
    ++ (spelled code_layout (map instr_row o.instrs)
    ++ (spelled subst_layout (map subst_row o.substs) ++ all_names o))) of_queue.fit
    (length-map (all_queue o) queue_row) d_queue in
    let r_blocks : rows pair_layout (length o.blocks) (drop (blocks_at h) bytes)
    ≡ (map block_row o.blocks) = section_rows pair_layout (map block_row o.blocks) (blocks_at h) (length o.blocks)
    bytes (spelled code_layout (map instr_row o.instrs)
    ++ (spelled subst_layout (map subst_row o.substs) ++ all_names o)) of_blocks.fit (length-map o.blocks block_row)
    d_blocks in
    let r_instrs : rows code_layout (length o.instrs) (drop (instrs_at h) bytes)
    ≡ (map instr_row o.instrs) = section_rows code_layout (map instr_row o.instrs) (instrs_at h) (length o.instrs)
    bytes (spelled subst_layout (map subst_row o.substs) ++ all_names o) of_instrs.fit (length-map o.instrs instr_row)
    d_instrs in
    let r_substs : rows subst_layout (length o.substs) (drop (substs_at h) bytes)
    ≡ (map subst_row o.substs) = section_rows subst_layout (map subst_row o.substs) (substs_at h) (length o.substs)
    bytes (all_names o) of_substs.fit (length-map o.substs subst_row) d_substs in
    let cells_are : cells_read h bytes ≡ o.cells = ap (λ l. cells_of l 0 (rows cell_layout h.cells (cells_part bytes)))
    d_names ∙ ap (cells_of (all_names o) 0) r_cells ∙ of_cells.back in
    let nodes_are : nodes_read h bytes ≡ ns = ap (map node_of) r_nodes ∙ of_nodes.1 in
    let regs_are : regs_read h bytes ≡ all_regs o = ap (map reg_type_of) r_regs ∙ of_regs.back in
    let queue_are : queue_read h bytes ≡ all_queue o = ap (map pair_of) r_queue ∙ of_queue.back in
    let types_are : types_read h bytes ≡ o.types = ap (λ l. types_of 0 0 l (regs_read h bytes) (queue_read h bytes))
    r_types ∙ ap (λ l. types_of 0 0 (type_rows 0 0 o.types) l (queue_read h bytes)) regs_are
    ∙ ap (λ l. types_of 0 0 (type_rows 0 0 o.types) (all_regs o) l) queue_are ∙ types_back 0 0 o.types in
    let blocks_are : blocks_read h bytes ≡ o.blocks = ap (map block_of) r_blocks ∙ of_blocks.back in
    let instrs_are : instrs_read h bytes ≡ o.instrs = ap (map instr_of) r_instrs ∙ of_instrs.back in
    let substs_are : substs_read h bytes ≡ o.substs = ap (map subst_node_of) r_substs ∙ of_substs.back in
    let taken : rows_taken 0 (instr_rows_of h bytes) ≡ length o.substs = ap (rows_taken 0) r_instrs ∙ of_instrs.taken in
    let p1 : cells_broken h 0 48 (rows cell_layout h.cells (cells_part bytes)) ≡ None = ap (cells_broken h 0 48) r_cells
    ∙ of_cells.unbroken in
    let p2 : nodes_broken w [] (nodes_at h) (rows code_layout h.nodes (nodes_part h bytes))
    ≡ None = ap (nodes_broken w [] (nodes_at h)) r_nodes ∙ of_nodes.0 in
    let p3 : types_broken h ns 0 0 (types_at h) (type_rows_of h bytes)
    ≡ None = ap (types_broken h ns 0 0 (types_at h)) r_types ∙ of_types.unbroken in
    let p4 : regs_broken h ns 0 (regs_at h) (type_rows_of h bytes) (regs_part h bytes)
    ≡ None = ap (λ l. regs_broken h ns 0 (regs_at h) l (regs_part h bytes)) r_types
    ∙ ap (regs_broken h ns 0 (regs_at h) (type_rows 0 0 o.types)) d_regs ∙ of_regs.unbroken in
    let p5 : queues_broken h ns 0 (queue_at h) (type_rows_of h bytes) (queue_part h bytes)
    ≡ None = ap (λ l. queues_broken h ns 0 (queue_at h) l (queue_part h bytes)) r_types
    ∙ ap (queues_broken h ns 0 (queue_at h) (type_rows 0 0 o.types)) d_queue ∙ of_queue.unbroken in
    let p6 : blocks_broken h None (blocks_at h) (rows pair_layout h.blocks (blocks_part h bytes))
    ≡ None = ap (blocks_broken h None (blocks_at h)) r_blocks ∙ of_blocks.unbroken in
    let p7 : instrs_broken h ns 0 (instrs_at h) (instr_rows_of h bytes)
    ≡ None = ap (instrs_broken h ns 0 (instrs_at h)) r_instrs ∙ of_instrs.unbroken in
    let p8 : subst_rows_broken ns (substs_at h) (rows subst_layout (length o.substs) (substs_part h bytes))
    ≡ None = ap (subst_rows_broken ns (substs_at h)) r_substs ∙ of_substs.unbroken in
    let p9 : must (length o.substs == length o.substs) (errors.Order (substs_at h + 4 * length o.substs))
    ≡ None = rw (eq_true (length o.substs) (length o.substs) refl) refl in
    record {
      header = ap header_of (ap (numbers header_layout) e
          ∙ numbers_back header_layout (header_row v o) (spelled cell_layout (cell_rows 0 o.cells)
          ++ (spelled code_layout (map node_row o.nodes)
          ++ (spelled type_layout (type_rows 0 0 o.types)
          ++ (spelled reg_layout (map reg_row (all_regs o))
          ++ (spelled pair_layout (map queue_row (all_queue o))
          ++ (spelled pair_layout (map block_row o.blocks)
          ++ (spelled code_layout (map instr_row o.instrs)
          ++ (spelled subst_layout (map subst_row o.substs) ++ all_names o)))))))) (header_fit v o s has));
      total_is = omega (
        arith,
        ap length e,
        length-append head (spelled cell_layout (cell_rows 0 o.cells)
            ++ (spelled code_layout (map node_row o.nodes)
            ++ (spelled type_layout (type_rows 0 0 o.types)
            ++ (spelled reg_layout (map reg_row (all_regs o))
            ++ (spelled pair_layout (map queue_row (all_queue o))
            ++ (spelled pair_layout (map block_row o.blocks)
            ++ (spelled code_layout (map instr_row o.instrs)
            ++ (spelled subst_layout (map subst_row o.substs) ++ all_names o)))))))),
        head_long,
        length-append (spelled cell_layout (cell_rows 0 o.cells)) (spelled code_layout (map node_row o.nodes)
            ++ (spelled type_layout (type_rows 0 0 o.types)
            ++ (spelled reg_layout (map reg_row (all_regs o))
            ++ (spelled pair_layout (map queue_row (all_queue o))
            ++ (spelled pair_layout (map block_row o.blocks)
            ++ (spelled code_layout (map instr_row o.instrs)
            ++ (spelled subst_layout (map subst_row o.substs) ++ all_names o))))))),
        length_spelled cell_layout (cell_rows 0 o.cells) of_cells.fit,
        length_cell_rows 0 o.cells,
        length-append (spelled code_layout (map node_row o.nodes)) (spelled type_layout (type_rows 0 0 o.types)
            ++ (spelled reg_layout (map reg_row (all_regs o))
            ++ (spelled pair_layout (map queue_row (all_queue o))
            ++ (spelled pair_layout (map block_row o.blocks)
            ++ (spelled code_layout (map instr_row o.instrs)
            ++ (spelled subst_layout (map subst_row o.substs) ++ all_names o)))))),
        length_spelled code_layout (map node_row o.nodes) of_nodes.2,
        length-map o.nodes node_row,
        length-append (spelled type_layout (type_rows 0 0 o.types)) (spelled reg_layout (map reg_row (all_regs o))
            ++ (spelled pair_layout (map queue_row (all_queue o))
            ++ (spelled pair_layout (map block_row o.blocks)
            ++ (spelled code_layout (map instr_row o.instrs)
            ++ (spelled subst_layout (map subst_row o.substs) ++ all_names o))))),
        length_spelled type_layout (type_rows 0 0 o.types) of_types.fit,
        length_type_rows 0 0 o.types,
        length-append (spelled reg_layout (map reg_row (all_regs o))) (spelled pair_layout (map queue_row (all_queue o))
            ++ (spelled pair_layout (map block_row o.blocks)
            ++ (spelled code_layout (map instr_row o.instrs)
            ++ (spelled subst_layout (map subst_row o.substs) ++ all_names o)))),
        length_spelled reg_layout (map reg_row (all_regs o)) of_regs.fit,
        length-map (all_regs o) reg_row,
        length-append (spelled pair_layout (map queue_row (all_queue o))) (spelled pair_layout (map block_row o.blocks)
            ++ (spelled code_layout (map instr_row o.instrs)
            ++ (spelled subst_layout (map subst_row o.substs) ++ all_names o))),
        length_spelled pair_layout (map queue_row (all_queue o)) of_queue.fit,
        length-map (all_queue o) queue_row,
        length-append (spelled pair_layout (map block_row o.blocks)) (spelled code_layout (map instr_row o.instrs)
            ++ (spelled subst_layout (map subst_row o.substs) ++ all_names o)),
        length_spelled pair_layout (map block_row o.blocks) of_blocks.fit,
        length-map o.blocks block_row,
        length-append (spelled code_layout (map instr_row o.instrs)) (spelled subst_layout (map subst_row o.substs)
            ++ all_names o),
        length_spelled code_layout (map instr_row o.instrs) of_instrs.fit,
        length-map o.instrs instr_row,
        length-append (spelled subst_layout (map subst_row o.substs)) (all_names o),
        length_spelled subst_layout (map subst_row o.substs) of_substs.fit,
        length-map o.substs subst_row,
      );
      unbroken = rw (cells_are, nodes_are, taken, p1, p2, p3, p4, p5, p6, p7, p8, p9) of_names;
      back = rw (cells_are, nodes_are, types_are, blocks_are, instrs_are, substs_are) refl;
    }
