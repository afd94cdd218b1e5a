use Rattle.std.proofs.Common.{◌≡◌, suc, ◌-◌, take, sym, subst, arith}
use Rattle.ft_format.specs.Fields.{type_numbers}
use Rattle.ft_format.specs.Values.{regs_end_of, queue_end_of}
use Rattle.ft_view.specs.Viewed.{last_end, type_records}
use Rattle.ft_view.proofs.At.{last_at}
use Rattle.ft_view.proofs.view.View.rows_before.Goals as goal

pub returns-clause-regs : goal.returns-clause-regs
returns-clause-regs c =
    let e : suc (c.args.t - 1) ≡ c.args.t = omega arith in
    subst (λ n. c.type_record-row.result.regs ≡ last_end regs_end_of 0 (take n (type_records c.args.self.now))) e
    (sym (last_at regs_end_of 0 (type_records c.args.self.now) (c.args.t - 1) (type_numbers c.type_record-row.result)
    c.type_record-row.ensures))

pub returns-clause-queue : goal.returns-clause-queue
returns-clause-queue c =
    let e : suc (c.args.t - 1) ≡ c.args.t = omega arith in
    subst (λ n. c.type_record-row.result.queue ≡ last_end queue_end_of 0 (take n (type_records c.args.self.now))) e
    (sym (last_at queue_end_of 0 (type_records c.args.self.now) (c.args.t - 1) (type_numbers c.type_record-row.result)
    c.type_record-row.ensures))
