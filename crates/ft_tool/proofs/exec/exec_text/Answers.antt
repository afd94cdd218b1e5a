use Rattle.std.proofs.Common.{◌≡◌, [], None}
use Rattle.ft_semantics.specs.Run.{run}
use Rattle.ft_tool.specs.Replies.{ran}
use Rattle.ft_tool.specs.Sources.{OverText, ExecutesProgram, IsSourceRefused}
use Rattle.ft_tool.proofs.Answered.{Ends-map}
use Rattle.ft_tool.proofs.Compiled.{source_refused, object_executed}
use Rattle.ft_tool.proofs.exec.exec_text.Goals as goal

pub returns-in-Err : goal.returns-in-Err
returns-in-Err g c =
    Ends-map c.refuse_source.result (IsSourceRefused c.in-Err.error)
    (OverText (ExecutesProgram c.args.steps) c.args.text.now) _ _ ⊥ ⊥
    (source_refused (ExecutesProgram c.args.steps) c.args.text.now c.in-Err.error c.in-Err.ensures.err) (λ x. x)
    c.refuse_source.ensures

pub run_accepted-requires-clause-accepted : goal.run_accepted-requires-clause-accepted
run_accepted-requires-clause-accepted g c = c.in-Ok.ensures.ok.2.accepted

pub returns-in-Ok : goal.returns-in-Ok
returns-in-Ok g c =
    let o = c.in-Ok.object in
    Ends-map c.run_accepted.result (λ a. a ≡ ran o (run o None [] c.args.steps))
    (OverText (ExecutesProgram c.args.steps) c.args.text.now) _ _ ⊥ ⊥
    (object_executed c.args.steps c.args.text.now o c.in-Ok.ensures.object) (λ x. x) c.run_accepted.ensures
