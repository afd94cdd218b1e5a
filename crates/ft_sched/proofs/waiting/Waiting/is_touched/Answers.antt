use Rattle.std.proofs.Common.{ap, ◌∙◌, nat_lt}
use Rattle.std.specs.List.{list_any}
use Rattle.ft_sched.specs.Registers.{number_of, meets}
use Rattle.ft_sched.proofs.Kept.{meets_behind}
use Rattle.ft_sched.proofs.waiting.Waiting.is_touched.Goals as goal

pub returns : goal.returns
returns c =
    ap (nat_lt c.self.inside.front) c.at.ensures
    ∙ meets_behind c.self.inside.instrs.items c.self.inside.front c.self.inside.written c.self.inside.touched
    c.self.inside.blue_store c.args.register c.self.invariant
    ∙ ap (list_any (meets (number_of c.args.register))) c.self.view_is
