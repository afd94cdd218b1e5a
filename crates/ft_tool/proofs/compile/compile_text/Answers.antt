use Rattle.ft_tool.specs.Sources.{OverText, CompilesProgram, IsSourceRefused}
use Rattle.ft_tool.specs.Objects.{UpgradesObject}
use Rattle.ft_tool.proofs.Answered.{Ends-map}
use Rattle.ft_tool.proofs.Compiled.{source_refused, object_compiled}
use Rattle.ft_tool.proofs.compile.compile_text.Goals as goal

pub returns-in-Ok : goal.returns-in-Ok
returns-in-Ok g c =
    Ends-map c.put_object.result (UpgradesObject c.in-Ok.object) (OverText CompilesProgram c.args.text.now) _ _ ⊥ ⊥
    (object_compiled c.args.text.now c.in-Ok.object c.in-Ok.ensures.object) (λ x. x) c.put_object.ensures

pub returns-in-Err : goal.returns-in-Err
returns-in-Err g c =
    Ends-map c.refuse_source.result (IsSourceRefused c.in-Err.error) (OverText CompilesProgram c.args.text.now) _ _ ⊥ ⊥
    (source_refused CompilesProgram c.args.text.now c.in-Err.error c.in-Err.ensures.err) (λ x. x)
    c.refuse_source.ensures
