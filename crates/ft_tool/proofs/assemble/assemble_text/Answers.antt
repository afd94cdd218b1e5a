use Rattle.std.proofs.Common.{sym, subst}
use Rattle.ft_format.specs.declared.version.Version.TheVariants.{Second}
use Rattle.ft_format.specs.Format.{Spells}
use Rattle.ft_tool.specs.Objects.{UpgradesObject}
use Rattle.ft_tool.specs.Answers.{OverAssembly}
use Rattle.ft_tool.specs.Files.{IsTextRefused}
use Rattle.ft_tool.proofs.Answered.{Ends-map}
use Rattle.ft_tool.proofs.Assembled.{object_assembled, text_refused}
use Rattle.ft_tool.proofs.assemble.assemble_text.Goals as goal

pub returns-in-Ok : goal.returns-in-Ok
returns-in-Ok g c =
    let text = c.args.text.now in
    let read = c.in-Ok.ensures.reads in
    let spelled = subst (λ b. Spells b Second read.object) (sym c.as_slice.ensures.value) read.spelled in
    Ends-map c.put_spelling.result (UpgradesObject read.object) (OverAssembly text) _ _ ⊥ ⊥
    (object_assembled text read.object read.reads) (λ x. x) (c.put_spelling.ensures read.object spelled)

pub returns-in-Err : goal.returns-in-Err
returns-in-Err g c =
    Ends-map c.refuse_text.result (IsTextRefused c.in-Err.error) (OverAssembly c.args.text.now) _ _ ⊥ ⊥
    (text_refused c.args.text.now c.in-Err.error c.in-Err.ensures.refused) (λ x. x) c.refuse_text.ensures
