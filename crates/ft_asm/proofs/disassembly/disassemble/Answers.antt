use Rattle.std.proofs.Common.{◌≡◌, ◌++◌, sym, ap, ◌∙◌, subst}
use Rattle.std.specs.List.{flat_map}
use Rattle.ft_asm.specs.declared.line.Line.TheVariants as lines
use Rattle.ft_asm.specs.Pieces.{cell_text}
use Rattle.ft_asm.specs.Reads.{Reads, line_text, text_of}
use Rattle.ft_asm.proofs.Lawful.{text_reads}
use Rattle.ft_asm.proofs.Order.{one_reading}
use Rattle.ft_asm.proofs.PieceLaws.{text_pieces, five}
use Rattle.ft_asm.proofs.disassembly.disassemble.Goals as goal

pub returns : goal.returns
returns g c =
    let o = g.P.Program.object c.args.program.now in
    let first = c.in_ok-put_cells.ensures ∙ ap (λ l. l ++ flat_map cell_text o.cells) c.new-out.ensures.items in
    let last = c.in_ok-put_entry.ensures ∙ ap (λ b. c.put_parts.new.out.items
    ++ line_text (lines.Entry b)) c.entry.ensures in
    let is : c.put_entry.new.out.items ≡ text_of o =
    five _ _ _ _ _ (text_of o) _ _ _ _ _ first c.in_ok-put_nodes.ensures c.in_ok-put_types.ensures
    c.in_ok-put_parts.ensures last (text_pieces o) in
    let reads = subst (λ t. Reads t o) (sym is) (text_reads o c.requires) in
    record { text = is; reads = reads; only = λ other r. one_reading c.put_entry.new.out.items other o r reads }
