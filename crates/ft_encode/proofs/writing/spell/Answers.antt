use Rattle.std.proofs.Common.{map, subst}
use Rattle.ft_types.specs.Objects.{regs_of, queue_of}
use Rattle.ft_types.specs.NodeRows.{node_row}
use Rattle.ft_format.specs.Puts.{Puts}
use Rattle.ft_format.specs.Layout.{written, spelled, header_layout, cell_layout, code_layout, type_layout, reg_layout}
use Rattle.ft_format.specs.Layout.{pair_layout, subst_layout}
use Rattle.ft_format.specs.Rows.{header_row, cell_rows, type_rows, reg_row, queue_row, block_row, subst_row}
use Rattle.ft_format.specs.InstrRecords.{instr_row}
use Rattle.ft_format.specs.Rows.{all_regs, all_queue, all_names, spelling}
use Rattle.ft_encode.proofs.Puts.{spelled_map, spelled_parts}
use Rattle.ft_format.specs.declared.version.Version.TheVariants.{Second}
use Rattle.ft_format.proofs.Written.{before}
use Rattle.ft_encode.proofs.writing.spell.Goals as goal

pub returns : goal.returns
unfolding spelling
returns c =
    let o = c.args.object.now in
    let p0 : Puts c.in_ok-out.out.items c.write.new.out.items (written header_layout (header_row Second o)) =
    rw c.header_of-header.ensures at c.in_ok-write.ensures in
    let p1 : Puts c.write.new.out.items c.write_cells.new.out.items (spelled cell_layout (cell_rows 0 o.cells)) =
    rw c.as_slice.ensures at c.in_ok-write_cells.ensures in
    let p2 : Puts c.write_cells.new.out.items c.write_all.new.out.items (spelled code_layout (map node_row o.nodes)) =
    subst (Puts c.write_cells.new.out.items c.write_all.new.out.items) (spelled_map code_layout node_row o.nodes)
    (rw c.as_slice-2.ensures at c.in_ok-write_all.ensures) in
    let p3 : Puts c.write_all.new.out.items c.write_types.new.out.items (spelled type_layout (type_rows 0 0 o.types)) =
    rw c.as_slice-3.ensures at c.in_ok-write_types.ensures in
    let p4 : Puts c.write_types.new.out.items c.write_regs.new.out.items (spelled reg_layout (map reg_row (all_regs o)))
    =
    subst (Puts c.write_types.new.out.items c.write_regs.new.out.items)
    (spelled_parts reg_layout reg_row regs_of o.types) (rw c.as_slice-4.ensures at c.in_ok-write_regs.ensures) in
    let p5 : Puts c.write_regs.new.out.items c.write_queue.new.out.items
    (spelled pair_layout (map queue_row (all_queue o))) =
    subst (Puts c.write_regs.new.out.items c.write_queue.new.out.items)
    (spelled_parts pair_layout queue_row queue_of o.types) (rw c.as_slice-5.ensures at c.in_ok-write_queue.ensures) in
    let p6 : Puts c.write_queue.new.out.items c.write_all-2.new.out.items (spelled pair_layout (map block_row o.blocks))
    =
    subst (Puts c.write_queue.new.out.items c.write_all-2.new.out.items) (spelled_map pair_layout block_row o.blocks)
    (rw c.as_slice-6.ensures at c.in_ok-write_all-2.ensures) in
    let p7 : Puts c.write_all-2.new.out.items c.write_all-3.new.out.items (spelled code_layout (map instr_row o.instrs))
    =
    subst (Puts c.write_all-2.new.out.items c.write_all-3.new.out.items) (spelled_map code_layout instr_row o.instrs)
    (rw c.as_slice-7.ensures at c.in_ok-write_all-3.ensures) in
    let p8 : Puts c.write_all-3.new.out.items c.write_rows.new.out.items (spelled subst_layout (map subst_row o.substs))
    =
    subst (Puts c.write_all-3.new.out.items c.write_rows.new.out.items) (spelled_map subst_layout subst_row o.substs)
    (rw c.as_slice-8.ensures at c.in_ok-write_rows.ensures) in
    let p9 : Puts c.write_rows.new.out.items c.write_names.new.out.items (all_names o) =
    rw c.as_slice-9.ensures at c.in_ok-write_names.ensures in
    let all = before p0 (before p1 (before p2 (before p3
    (before p4 (before p5 (before p6 (before p7 (before p8 p9)))))))) in
    rw c.in_ok-out.ensures.items at all.added
