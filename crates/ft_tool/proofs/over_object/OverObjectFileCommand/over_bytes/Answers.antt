use Rattle.std.proofs.Common.{◌≡◌, inl, inr}
use Rattle.ft_format.specs.Broken.{object_of, version_at}
use Rattle.ft_tool.specs.Objects.{refused, OverBytes}
use Rattle.ft_tool.proofs.Answered.{Ends-map}
use Rattle.ft_tool.proofs.over_object.OverObjectFileCommand.over_bytes.Goals as goal

pub returns-in-Ok : goal.returns-in-Ok
returns-in-Ok g c =
    let Over = g.C.ObjectCommand.answer c.args.self.now.command in
    Ends-map c.over_object.result (Over (object_of c.in-Ok.view)) (OverBytes Over c.args.bytes.now) _ _ ⊥ ⊥
    (λ a is. inl (object_of c.in-Ok.view, ((version_at c.args.bytes.now, c.in-Ok.ensures.spelled), is))) (λ n. n)
    c.over_object.ensures

pub returns-in-Err : goal.returns-in-Err
returns-in-Err g c =
    Ends-map c.refuse_bytes.result (λ a. a ≡ refused c.in-Err.error)
    (OverBytes (g.C.ObjectCommand.answer c.args.self.now.command) c.args.bytes.now) _ _ ⊥ ⊥
    (λ a is. inr (c.in-Err.error, (c.in-Err.ensures.judged, is))) (λ n. n) c.refuse_bytes.ensures
