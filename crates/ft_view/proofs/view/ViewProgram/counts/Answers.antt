use Rattle.std.proofs.Common.{sym, ap, ◌∙◌}
use Rattle.ft_view.proofs.CountedParts.{cell_count, type_count, block_count, subst_count}
use Rattle.ft_view.proofs.Opened.{instr_count}
use Rattle.ft_format.specs.Broken.{header_at}
use Rattle.ft_view.proofs.view.ViewProgram.counts.Goals as goal

pub returns-clause-cells : goal.returns-clause-cells
returns-clause-cells c = ap (λ h. h.cells) c.self.invariant.header ∙ ap (λ b. (header_at b).cells) c.self.view_is
    ∙ sym (cell_count c.args.self.now)

pub returns-clause-types : goal.returns-clause-types
returns-clause-types c = ap (λ h. h.types) c.self.invariant.header ∙ ap (λ b. (header_at b).types) c.self.view_is
    ∙ sym (type_count c.args.self.now)

pub returns-clause-blocks : goal.returns-clause-blocks
returns-clause-blocks c = ap (λ h. h.blocks) c.self.invariant.header ∙ ap (λ b. (header_at b).blocks) c.self.view_is
    ∙ sym (block_count c.args.self.now)

pub returns-clause-instrs : goal.returns-clause-instrs
returns-clause-instrs c = ap (λ h. h.instrs) c.self.invariant.header ∙ ap (λ b. (header_at b).instrs) c.self.view_is
    ∙ sym (instr_count c.args.self.now)

pub returns-clause-substs : goal.returns-clause-substs
returns-clause-substs c = ap (λ h. h.substs) c.self.invariant.header ∙ ap (λ b. (header_at b).substs) c.self.view_is
    ∙ sym (subst_count c.args.self.now)
