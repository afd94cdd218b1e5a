use Rattle.std.proofs.Common.{sym, ◌∙◌}
use Rattle.ft_embed.specs.Tasks.{TaskRun}
use Rattle.ft_embed.proofs.Tasked.{no_strike, task_struck}
use Rattle.ft_embed.proofs.task.Task.strike.Goals as goal

pub invariant_of-self : goal.invariant_of-self
invariant_of-self c =
    let r : TaskRun = record {
      object = c.self.inside.object;
      strike = c.self.inside.strike;
      taken = c.self.inside.taken;
    } in
    task_struck r c.self.inside.machine c.strike-struck.new.self c.args.site c.args.value c.self.invariant
    (no_strike c.self.inside.strike (sym c.is_some.ensures ∙ c.if-is_some.false)) c.strike-struck.ensures.struck
