use Rattle.std.proofs.Common.{◌≡◌, suc, ◌-◌, take, sym, subst, arith}
use Rattle.ft_format.specs.Fields.{cell_numbers}
use Rattle.ft_format.specs.Values.{past_of}
use Rattle.ft_view.specs.Viewed.{last_end, cell_records}
use Rattle.ft_view.proofs.At.{last_at}
use Rattle.ft_view.proofs.view.View.name_before.Goals as goal

pub returns : goal.returns
returns c =
    let e : suc (c.args.k - 1) ≡ c.args.k = omega arith in
    subst (λ n. c.cell_record.result.past ≡ last_end past_of 0 (take n (cell_records c.args.self.now))) e
    (sym (last_at past_of 0 (cell_records c.args.self.now) (c.args.k - 1) (cell_numbers c.cell_record.result)
    c.cell_record.ensures))
