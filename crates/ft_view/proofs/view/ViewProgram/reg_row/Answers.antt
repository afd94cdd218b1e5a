use Rattle.std.proofs.Common.{sym, ap, ◌∙◌, arith}
use Rattle.ft_view.proofs.CountedParts.{type_count, type_ends, reg_inside, reg_is}
use Rattle.ft_view.proofs.Opened.{sections}
use Rattle.ft_format.specs.Broken.{header_at}
use Rattle.ft_view.proofs.view.ViewProgram.reg_row.Goals as goal

pub rows_before-start-requires : goal.rows_before-start-requires
rows_before-start-requires c = omega (arith, c.requires.there, type_count c.args.self.now)

pub overflow_add-start : goal.overflow_add-start
overflow_add-start c =
    let seen = c.args.self.now in
    let e = type_ends c.self.inside.header c.self.inside.at c.self.inside.bytes.now seen c.self.invariant c.self.view_is
    in
    let i = reg_inside seen c.args.t c.args.j _ _ e.0 e.1 c.requires.there c.rows_before-start.ensures.regs
    c.rows_before-start.ensures.queue c.requires.row in
    let u = sections c.self.inside.header c.self.inside.at c.self.inside.bytes.now c.self.invariant in
    let same = ap (λ b. header_at b) (sym c.self.view_is) ∙ sym c.self.invariant.header in
    let count = ap (λ h. h.regs) same in
    omega (arith, i.0, i.1, u.whole.small.regs, count)

pub reg_record-requires : goal.reg_record-requires
reg_record-requires c =
    let seen = c.args.self.now in
    let e = type_ends c.self.inside.header c.self.inside.at c.self.inside.bytes.now seen c.self.invariant c.self.view_is
    in
    let i = reg_inside seen c.args.t c.args.j _ _ e.0 e.1 c.requires.there c.rows_before-start.ensures.regs
    c.rows_before-start.ensures.queue c.requires.row in
    omega (arith, i.0, i.1)

pub returns : goal.returns
returns c =
    let seen = c.args.self.now in
    let e = type_ends c.self.inside.header c.self.inside.at c.self.inside.bytes.now seen c.self.invariant c.self.view_is
    in
    reg_is seen _ c.args.t c.args.j _ _ _ e.0 e.1 c.requires.there c.rows_before-start.ensures.regs
    c.rows_before-start.ensures.queue c.requires.row c.reg_record.ensures.there c.read_reg.ensures
