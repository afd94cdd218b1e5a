use Rattle.std.proofs.Common.{◌||◌, sym, ◌∙◌}
use Rattle.std.specs.List.{list_any}
use Rattle.ft_sched.specs.Registers.{writes, meets}
use Rattle.ft_sched.proofs.Kept.{conflict_behind}
use Rattle.ft_sched.proofs.waiting.Waiting.has_conflict.Goals as goal

pub returns : goal.returns
returns c =
    let is = c.args.self.now in
    c.any_of.ensures
    ∙ (λ j. (c.is_written-first.ensures j || c.is_written-second.ensures j) || c.is_touched-either.ensures j)
    ∙ (λ j. (list_any (writes (c.first_read.ensures j)) is || list_any (writes (c.second_read.ensures j)) is) ||
    list_any (meets (c.written.ensures j)) is)
    ∙ sym (conflict_behind c.args.instr.now is)
