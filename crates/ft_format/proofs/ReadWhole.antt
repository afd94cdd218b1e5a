-- Valid bytes are the spelling of the object read from them: all sections together.
use Rattle.std.proofs.Common.{◌≡◌, ℕ, ◌+◌, ◌*◌, ◌≤◌, false, min, List, [], ◌∷◌, ◌++◌, length, take, drop, map, None}
use Rattle.std.proofs.Common.{Some, sym, ap, ◌∙◌, subst, arith}
use Rattle.std.specs.Prelude.{◌==◌, nat_le, slice_get}
use Rattle.std.specs.List.{All, flat_map}
use Rattle.std.proofs.lemmas.List.{length-drop, length-map, take-append-drop}
use Rattle.std.proofs.lemmas.List.Concat.{length-flat_map}
use Rattle.std.proofs.lemmas.List.Elements.{All-from_recursion}
use Rattle.ft_static.specs.declared.node.Node.{Node}
use Rattle.ft_static.specs.NodeRules.{IsNode}
use Rattle.ft_types.specs.Objects.{name_of, regs_of, queue_of}
use Rattle.ft_types.specs.Spellable.{IsCell, IsCodeType, HasCodeType, IsInstr, IsNodeIn, IsSpellable}
use Rattle.ft_types.specs.NodeRows.{node_row}
use Rattle.ft_format.specs.declared.object_error.ObjectError.TheVariants as errors
use Rattle.ft_format.specs.declared.header.Header.{Header}
use Rattle.ft_format.specs.Fields.{header_numbers}
use Rattle.ft_format.specs.Format.{AreBytes, SupportsName, Supports, Spells}
use Rattle.ft_format.specs.NodeRecords.{SupportsNode, node_of}
use Rattle.ft_format.specs.InstrRecords.{SupportsInstr, instr_row, instr_of}
use Rattle.ft_format.specs.Versions.{version_of}
use Rattle.ft_format.specs.Layout.{numbers, written, rows, spelled, header_layout, cell_layout, code_layout}
use Rattle.ft_format.specs.Layout.{type_layout, reg_layout, pair_layout, subst_layout}
use Rattle.ft_format.specs.Rules.{must, ◌next◌, header_broken}
use Rattle.ft_format.specs.Rows.{cell_rows, type_rows, reg_row, queue_row, block_row, subst_row, header_row, spelling}
use Rattle.ft_format.specs.Values.{reg_type_of, pair_of, block_of, subst_node_of}
use Rattle.ft_format.specs.Broken.{cells_broken, nodes_broken, blocks_broken, instrs_broken, rows_taken}
use Rattle.ft_format.specs.Broken.{subst_rows_broken, substs_broken, names_broken, nodes_at, types_at, regs_at}
use Rattle.ft_format.specs.Broken.{queue_at, blocks_at, instrs_at, substs_at, names_at, total, cells_part, nodes_part}
use Rattle.ft_format.specs.Broken.{types_part, regs_part, queue_part, blocks_part, instrs_part, substs_part, names_part}
use Rattle.ft_format.specs.Broken.{type_rows_of, instr_rows_of, cells_read, nodes_read, regs_read, queue_read}
use Rattle.ft_format.specs.Broken.{types_read, blocks_read, instrs_read, substs_read, tables_read, code_types_broken}
use Rattle.ft_format.specs.Broken.{tables_broken, header_at, version_at, front_broken, broken, object_of}
use Rattle.ft_format.proofs.Layouts.{numbers_again, rows_fit, length_rows, bytes_after}
use Rattle.ft_format.proofs.Unbroken.{both}
use Rattle.ft_format.proofs.Codes.{le_held, eq_held}
use Rattle.ft_format.proofs.References.{AreNarrowNodes}
use Rattle.ft_format.proofs.Nodes.{nodes_again, each_node}
use Rattle.ft_format.proofs.InstrsAgain.{instrs_again}
use Rattle.ft_format.proofs.SmallRows.{blocks_again, begins_at_zero, substs_again}
use Rattle.ft_format.proofs.Cells.{cells_again, names_again}
use Rattle.ft_format.proofs.Read.{IsHeader, header_again, section, length_cells_of, length_types_of, whole_cells}
use Rattle.ft_format.proofs.Read.{named_cells, types_whole, nothing_left}

-- what holds of sections that break no rule
pub record TablesAgain (h : Header) (bytes : List ℕ) : Type 0 where
  pub spellable : IsSpellable (tables_read h bytes)
  pub has : Supports (version_of h) (tables_read h bytes)
  pub header : header_row (version_of h) (tables_read h bytes) ≡ header_numbers h
  pub instrs : map instr_row (instrs_read h bytes) ≡ instr_rows_of h bytes
  pub sections : written header_layout (header_row (version_of h) (tables_read h bytes)) ++ drop 48 bytes
      ≡ spelling (version_of h) (tables_read h bytes)

pub tables_again : (h : Header) (bytes : List ℕ) → AreBytes bytes → IsHeader h → length bytes ≡ total h →
    tables_broken h bytes ≡ None → TablesAgain h bytes
unfolding tables_broken tables_read spelling
tables_again h bytes b head long n =
    let v = version_of h in
    let nodes = nodes_read h bytes in
    let cs = cells_read h bytes in
    let ts = types_read h bytes in
    let irs = instr_rows_of h bytes in
    let taken = rows_taken 0 irs in
    let p1 = cells_broken h 0 48 (rows cell_layout h.cells (cells_part bytes)) in
    let p2 = nodes_broken v [] (nodes_at h) (rows code_layout h.nodes (nodes_part h bytes)) in
    let p3 = code_types_broken h nodes bytes in
    let p4 = blocks_broken h None (blocks_at h) (rows pair_layout h.blocks (blocks_part h bytes)) in
    let p5 = instrs_broken h nodes 0 (instrs_at h) irs in
    let p6 = substs_broken h nodes taken (substs_at h) (substs_part h bytes) in
    let p7 = names_broken v (total h) [] (names_at h) cs in
    let r1 = both p1 (p2 next (p3 next (p4 next (p5 next (p6 next p7))))) n in
    let r2 = both p2 (p3 next (p4 next (p5 next (p6 next p7)))) r1.1 in
    let r3 = both p3 (p4 next (p5 next (p6 next p7))) r2.1 in
    let r4 = both p4 (p5 next (p6 next p7)) r3.1 in
    let r5 = both p5 (p6 next p7) r4.1 in
    let r6 = both p6 p7 r5.1 in
    let r7 = both (subst_rows_broken nodes (substs_at h) (rows subst_layout taken (substs_part h bytes)))
    (must (taken == h.substs) (errors.Order (substs_at h + 4 * taken))) r6.0 in
    let all_taken : taken ≡ h.substs = eq_held taken h.substs (errors.Order (substs_at h + 4 * taken)) r7.1 in
    let name_bytes : length (names_part h bytes) ≡ h.names = omega (arith, length-drop (names_at h) bytes, long) in
    let cells = cells_again h (names_part h bytes) 0 48 (rows cell_layout h.cells (cells_part bytes)) name_bytes
    (rows_fit cell_layout h.cells (drop 48 bytes) (tt, (tt, (tt, (tt, (tt, tt))))) (bytes_after 48 bytes b)) r1.0 in
    let of_nodes = nodes_again v [] (nodes_at h) (rows code_layout h.nodes (nodes_part h bytes))
    (rows_fit code_layout h.nodes (drop (nodes_at h) bytes) (tt, (tt, (tt, (tt, (tt, (tt, (tt, tt)))))))
    (bytes_after (nodes_at h) bytes b)) r2.0 in
    let each : (k : ℕ) (node : Node) → slice_get nodes k ≡ Some node → IsNode nodes k node =
    λ k node e. let place : 0 + k ≡ k = omega arith in
    subst (λ i. IsNode nodes i node) place (each_node [] nodes of_nodes.follow k node e) in
    let slim : AreNarrowNodes nodes = λ k node e. (each k node e).scope in
    let of_types = types_whole h nodes bytes b r3.0 in
    let block_fit = rows_fit pair_layout h.blocks (drop (blocks_at h) bytes) (
      tt,
      (tt, tt),
    ) (bytes_after (blocks_at h) bytes b) in
    let of_blocks = blocks_again h None (blocks_at h) (rows pair_layout h.blocks (blocks_part h bytes)) block_fit r4.0
    in
    let zero_first = begins_at_zero h (blocks_at h) (rows pair_layout h.blocks (blocks_part h bytes)) block_fit
    (omega (arith, length_rows pair_layout h.blocks (blocks_part h bytes), head.some_block)) r4.0 in
    let of_instrs = instrs_again h nodes 0 (instrs_at h) irs slim
    (rows_fit code_layout h.instrs (drop (instrs_at h) bytes) (tt, (tt, (tt, (tt, (tt, (tt, (tt, tt)))))))
    (bytes_after (instrs_at h) bytes b)) r5.0 all_taken in
    let subst_rule : subst_rows_broken nodes (substs_at h) (rows subst_layout h.substs (substs_part h bytes))
    ≡ None = subst (λ k. subst_rows_broken nodes (substs_at h) (rows subst_layout k (substs_part h bytes))
    ≡ None) all_taken r7.0 in
    let of_substs = substs_again nodes (substs_at h) (rows subst_layout h.substs (substs_part h bytes)) slim
    (rows_fit subst_layout h.substs (drop (substs_at h) bytes) (tt, tt) (bytes_after (substs_at h) bytes b))
    subst_rule in
    let of_names = names_again v h.types (total h) [] (names_at h) cs cells.cells (λ i j d lt le.
    absurd (omega arith)) r6.1 in
    let cell_count : length cs ≡ h.cells = length_cells_of (names_part h bytes) 0
    (rows cell_layout h.cells (cells_part bytes)) ∙ length_rows cell_layout h.cells (cells_part bytes) in
    let node_count : length nodes ≡ h.nodes = length-map (rows code_layout h.nodes (nodes_part h bytes)) node_of
    ∙ length_rows code_layout h.nodes (nodes_part h bytes) in
    let type_count : length ts ≡ h.types = length_types_of 0 0 (type_rows_of h bytes) (regs_read h bytes)
    (queue_read h bytes) ∙ length_rows type_layout h.types (types_part h bytes) in
    let reg_count : length (flat_map regs_of ts) ≡ h.regs = ap length of_types.are.all_regs
    ∙ length-map (rows reg_layout h.regs (regs_part h bytes)) reg_type_of
    ∙ length_rows reg_layout h.regs (regs_part h bytes) in
    let queue_count : length (flat_map queue_of ts) ≡ h.queue = ap length of_types.are.all_queue
    ∙ length-map (rows pair_layout h.queue (queue_part h bytes)) pair_of
    ∙ length_rows pair_layout h.queue (queue_part h bytes) in
    let block_count : length (blocks_read h bytes)
    ≡ h.blocks = length-map (rows pair_layout h.blocks (blocks_part h bytes)) block_of
    ∙ length_rows pair_layout h.blocks (blocks_part h bytes) in
    let instr_count : length (instrs_read h bytes) ≡ h.instrs = length-map irs instr_of
    ∙ length_rows code_layout h.instrs (instrs_part h bytes) in
    let subst_count : length (substs_read h bytes)
    ≡ h.substs = length-map (rows subst_layout h.substs (substs_part h bytes)) subst_node_of
    ∙ length_rows subst_layout h.substs (substs_part h bytes) in
    let name_count : length (flat_map name_of cs) ≡ h.names = omega (arith, of_names.ends) in
    let names_are : names_part h bytes ≡ flat_map name_of cs =
    nothing_left (names_part h bytes) (flat_map name_of cs) cells.left cells.split
    (omega (arith, name_count, name_bytes)) in
    let s_cells = section cell_layout 48 h.cells bytes (tt, (tt, (tt, (tt, (tt, tt))))) b (omega (arith, long)) in
    let s_nodes = section code_layout (nodes_at h) h.nodes bytes (tt, (tt, (tt, (tt, (tt, (tt, (tt, tt))))))) b
    (omega (arith, long)) in
    let s_types = section type_layout (types_at h) h.types bytes (tt, (tt, (tt, (tt, (tt, (tt, (tt, tt))))))) b
    (omega (arith, long)) in
    let s_regs = section reg_layout (regs_at h) h.regs bytes (tt, (tt, (tt, (tt, (tt, (tt, (tt, tt))))))) b
    (omega (arith, long)) in
    let s_queue = section pair_layout (queue_at h) h.queue bytes (tt, (tt, tt)) b (omega (arith, long)) in
    let s_blocks = section pair_layout (blocks_at h) h.blocks bytes (tt, (tt, tt)) b (omega (arith, long)) in
    let s_instrs = section code_layout (instrs_at h) h.instrs bytes (tt, (tt, (tt, (tt, (tt, (tt, (tt, tt))))))) b
    (omega (arith, long)) in
    let s_substs = section subst_layout (substs_at h) h.substs bytes (tt, tt) b (omega (arith, long)) in
    record {
      spellable = record {
        few_cells = omega (arith, cell_count, head.small.cells);
        cells = subst (λ k. All (IsCell k) cs) (sym type_count)
            (All-from_recursion (IsCell h.types) cs (whole_cells v h.types cs cells.cells of_names.named));
        names_differ = of_names.apart;
        nodes = record { few = omega (arith, node_count, head.small.nodes); each = each };
        some_type = omega (arith, type_count, head.some_type);
        few_types = omega (arith, type_count, head.small.types);
        few_reg_rows = omega (arith, length-flat_map regs_of ts, reg_count, head.small.regs);
        few_queue_rows = omega (arith, length-flat_map queue_of ts, queue_count, head.small.queue);
        types = subst (λ k. All (IsCodeType k nodes) ts) (sym type_count)
            (All-from_recursion (IsCodeType h.types nodes) ts of_types.are.types);
        few_blocks = omega (arith, block_count, head.small.blocks);
        first_block = zero_first;
        blocks = rw instr_count of_blocks.blocks;
        block_types = subst (λ k. All (HasCodeType k) (blocks_read h bytes)) (sym type_count)
            (All-from_recursion (HasCodeType h.types) (blocks_read h bytes) of_blocks.types);
        some_instr = omega (arith, instr_count, head.some_instr);
        few_instrs = omega (arith, instr_count, head.small.instrs);
        instrs = subst (λ k. All (IsInstr k (length cs)) (instrs_read h bytes)) (sym type_count)
            (subst (λ k. All (IsInstr h.types k) (instrs_read h bytes)) (sym cell_count)
            (All-from_recursion (IsInstr h.types h.cells) (instrs_read h bytes) of_instrs.instrs));
        few_substs = omega (arith, subst_count, head.small.substs);
        covered = rw subst_count of_instrs.cover;
        substs = All-from_recursion (IsNodeIn nodes 128 false) (substs_read h bytes) of_substs.1;
        entry = omega (arith, block_count, head.entry);
      };
      has = record {
        names = All-from_recursion (SupportsName v) cs (named_cells v h.types cs cells.cells of_names.named);
        nodes = All-from_recursion (SupportsNode v) nodes of_nodes.has;
        instrs = All-from_recursion (SupportsInstr v) (instrs_read h bytes) of_instrs.has;
      };
      header = rw (
        cell_count,
        node_count,
        type_count,
        reg_count,
        queue_count,
        block_count,
        instr_count,
        subst_count,
        name_count,
      ) (ap (λ m. m ∷ h.cells ∷ h.nodes ∷ h.types ∷ h.regs ∷ h.queue ∷ h.blocks ∷ h.instrs ∷ h.substs ∷
          h.names ∷ h.entry ∷ []) (sym head.magic_is));
      instrs = of_instrs.written;
      sections = ap (λ l. written header_layout (header_row v (tables_read h bytes)) ++ l)
          (s_cells ∙ ap (λ l. spelled cell_layout l ++ drop (nodes_at h) bytes) (sym cells.written)
          ∙ ap (λ l. spelled cell_layout (cell_rows 0 cs) ++ l) (s_nodes
          ∙ ap (λ l. spelled code_layout l ++ drop (types_at h) bytes) (sym of_nodes.written)
          ∙ ap (λ l. spelled code_layout (map node_row nodes) ++ l) (s_types
          ∙ ap (λ l. spelled type_layout l ++ drop (regs_at h) bytes) (sym of_types.are.written)
          ∙ ap (λ l. spelled type_layout (type_rows 0 0 ts) ++ l) (s_regs
          ∙ ap (λ l. spelled reg_layout l ++ drop (queue_at h) bytes) (sym (ap (map reg_row) of_types.are.all_regs
          ∙ of_types.regs_written)) ∙ ap (λ l. spelled reg_layout (map reg_row (flat_map regs_of ts)) ++ l) (s_queue
          ∙ ap (λ l. spelled pair_layout l ++ drop (blocks_at h) bytes)
          (sym (ap (map queue_row) of_types.are.all_queue ∙ of_types.queue_written))
          ∙ ap (λ l. spelled pair_layout (map queue_row (flat_map queue_of ts)) ++ l) (s_blocks
          ∙ ap (λ l. spelled pair_layout l ++ drop (instrs_at h) bytes) (sym of_blocks.written)
          ∙ ap (λ l. spelled pair_layout (map block_row (blocks_read h bytes)) ++ l) (s_instrs
          ∙ ap (λ l. spelled code_layout l ++ drop (substs_at h) bytes) (sym of_instrs.written)
          ∙ ap (λ l. spelled code_layout (map instr_row (instrs_read h bytes)) ++ l) (s_substs
          ∙ ap (λ l. spelled subst_layout l ++ drop (names_at h) bytes) (sym of_substs.0)
          ∙ ap (λ l. spelled subst_layout (map subst_row (substs_read h bytes)) ++ l) names_are))))))));
    }

-- valid bytes contain a header, and sections that break no rule
pub tables_of : (bytes : List ℕ) → AreBytes bytes → broken bytes ≡ None → (48 ≤ length bytes)
    × TablesAgain (header_at bytes) bytes
unfolding broken
tables_of bytes b n =
    let h = header_at bytes in
    let whole = must (length bytes == total h) (errors.Length (min (length bytes) (total h))) in
    let enough = must (nat_le 48 (length bytes)) (errors.Length (length bytes)) in
    let r0 = both (front_broken bytes) (tables_broken h bytes) n in
    let r1 = both (must (nat_le (length bytes) 67108864) (errors.Length 67108864))
    (enough next header_broken h next whole) r0.0 in
    let r2 = both enough (header_broken h next whole) r1.1 in
    let r3 = both (header_broken h) whole r2.1 in
    let long = eq_held (length bytes) (total h) (errors.Length (min (length bytes) (total h))) r3.1 in (
      le_held 48 (length bytes) (errors.Length (length bytes)) r2.0,
      tables_again h bytes b (header_again h r3.0) long r0.1,
    )

-- valid bytes are the spelling of the object read from them
pub read_spells : (bytes : List ℕ) → AreBytes bytes → broken bytes ≡ None →
    Spells bytes (version_at bytes) (object_of bytes)
unfolding numbers
read_spells bytes b n =
    let t = tables_of bytes b n in
    let row = header_row (version_at bytes) (object_of bytes) in
    let head : take 48 bytes ≡ written header_layout row =
    sym (numbers_again header_layout bytes (tt, (tt, (tt, (tt, (tt, (tt, (tt, (tt, (tt, (tt, (tt, tt))))))))))) b t.0)
    ∙ ap (written header_layout) (sym t.1.header) in
    record {
      spellable = t.1.spellable;
      has = t.1.has;
      spelled = sym (take-append-drop 48 bytes) ∙ ap (λ l. l ++ drop 48 bytes) head ∙ t.1.sections;
    }
