use Rattle.std.proofs.Common.{◌+◌, subst, sym, ◌∙◌, arith}
use Rattle.ft_embed.specs.declared.answer.RunAnswer.{RunAnswer}
use Rattle.ft_embed.specs.Outputs.{Ends}
use Rattle.ft_embed.specs.Tasks.{TaskRun, WentOn}
use Rattle.ft_embed.proofs.Tasked.{task_cells, task_next, task_went}
use Rattle.ft_embed.proofs.task.Task.advance.Goals as goal

pub fill-filled-requires-clause-cells : goal.fill-filled-requires-clause-cells
fill-filled-requires-clause-cells c =
    let r : TaskRun = record {
      object = c.self.inside.object;
      strike = c.self.inside.strike;
      taken = c.self.inside.taken;
    } in
    task_cells r c.self.inside.machine c.self.invariant

pub invariant_of-self : goal.invariant_of-self
invariant_of-self c =
    let r : TaskRun = record {
      object = c.self.inside.object;
      strike = c.self.inside.strike;
      taken = c.self.inside.taken;
    } in
    task_next r c.self.inside.machine c.fill-filled.new.machine c.new-wild.result c.fill-filled.new.wild
    c.fill-filled.result.taken c.fill-filled.result.count c.args.out.now c.fill-filled.new.out
    c.self.invariant c.new-wild.ensures c.fill-filled.ensures.fills

pub returns-clause-went : goal.returns-clause-went
returns-clause-went c =
    let r : TaskRun = record {
      object = c.self.inside.object;
      strike = c.self.inside.strike;
      taken = c.self.inside.taken;
    } in
    let n = c.fill-filled.result.taken in
    let count = c.fill-filled.result.count in
    let status = c.end_of-status.result in
    let out = c.fill-filled.new.out in
    let next : TaskRun = record { object = r.object; strike = r.strike; taken = r.taken + n } in
    let went : WentOn r next status c.args.steps n count out =
    task_went r c.self.inside.machine c.fill-filled.new.machine c.new-wild.result c.fill-filled.new.wild n count
    c.args.out.now out c.self.invariant c.new-wild.ensures c.fill-filled.ensures.fills
    c.args.steps c.limit-most.result status c.limit-most.ensures.limit c.fill-filled.ensures.few
    (λ none. c.fill-filled.ensures.no_room (omega (arith, none, c.fill-filled.ensures.same)))
    c.fill-filled.ensures.within c.fill-filled.ensures.same c.fill-filled.ensures.all
    (λ k room le few all. subst (Ends status c.limit-most.result n k room) c.status.ensures
    (c.end_of-status.ensures.ends k room le few (λ running. all (sym c.status.ensures ∙ running)))) in
    subst (λ (x : TaskRun). WentOn x next c.has_run.result.status c.args.steps c.has_run.result.ran.steps
    c.has_run.result.ran.count out) c.self.view_is
    (subst (λ (a : RunAnswer). WentOn r next a.status c.args.steps a.ran.steps a.ran.count out) (sym c.has_run.ensures)
    went)
