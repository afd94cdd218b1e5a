use Rattle.std.proofs.Common.{refl, arith}
use Rattle.ft_format.specs.Fields.{type_numbers}
use Rattle.ft_format.specs.Values.{regs_end_of, queue_end_of}
use Rattle.ft_format.specs.Broken.{header_at}
use Rattle.ft_view.specs.Viewed.{type_records}
use Rattle.ft_view.proofs.At.{ends_at}
use Rattle.ft_view.proofs.CountedParts.{type_count, type_ends, head_is}
use Rattle.ft_view.proofs.view.ViewProgram.code_type.Goals as goal

pub type_record-row-requires : goal.type_record-row-requires
type_record-row-requires c = omega (arith, c.requires.there, type_count c.args.self.now)

pub rows_before-regs-requires : goal.rows_before-regs-requires
rows_before-regs-requires c = omega (arith, c.requires.there, type_count c.args.self.now)

pub overflow_sub-result : goal.overflow_sub-result
overflow_sub-result c =
    let seen = c.args.self.now in
    let a = ends_at regs_end_of (header_at seen).regs 0 (type_records seen) c.args.t
    (type_numbers c.type_record-row.result) (type_ends c.self.inside.header c.self.inside.at c.self.inside.bytes.now
    seen c.self.invariant c.self.view_is).0 c.type_record-row.ensures in
    omega (arith, a.0, c.rows_before-regs.ensures.regs)

pub overflow_sub-result-2 : goal.overflow_sub-result-2
overflow_sub-result-2 c =
    let seen = c.args.self.now in
    let a = ends_at queue_end_of (header_at seen).queue 0 (type_records seen) c.args.t
    (type_numbers c.type_record-row.result) (type_ends c.self.inside.header c.self.inside.at c.self.inside.bytes.now
    seen c.self.invariant c.self.view_is).1 c.type_record-row.ensures in
    omega (arith, a.0, c.rows_before-regs.ensures.queue)

pub returns : goal.returns
returns c =
    let seen = c.args.self.now in
    let e = type_ends c.self.inside.header c.self.inside.at c.self.inside.bytes.now seen c.self.invariant c.self.view_is
    in
    head_is seen _ c.args.t _ _ _ e.0 e.1 c.type_record-row.ensures c.rows_before-regs.ensures.regs
    c.rows_before-regs.ensures.queue refl
