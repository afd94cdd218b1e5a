use Rattle.std.proofs.Common.{◌∙◌, sym, subst}
use Rattle.ft_format.specs.Format.{Spells}
use Rattle.ft_format.specs.Broken.{object_of, version_at}
use Rattle.ft_tool.specs.Replies.{IsToldFile}
use Rattle.ft_tool.proofs.load.load_object.Goals as goal

pub returns-in-Ok-over-clause-loads : goal.returns-in-Ok-over-clause-loads
returns-in-Ok-over-clause-loads g c = λ told may. (
  subst (IsToldFile told c.args.name.now) (sym (c.in-Ok-over.ensures.seen ∙ c.as_slice.ensures.value))
      (c.in-Ok.ensures.loads told may),
  subst (λ b. Spells b (version_at b) (object_of c.in-Ok-over.view)) (sym c.in-Ok-over.ensures.seen)
      c.in-Ok-over.ensures.spelled,
)

pub returns-in-Err-over-clause-loads : goal.returns-in-Err-over-clause-loads
returns-in-Err-over-clause-loads g c = λ told may. (
  c.as_slice.result.now,
  (
    subst (IsToldFile told c.args.name.now) (sym c.as_slice.ensures.value) (c.in-Ok.ensures.loads told may),
    c.in-Err-over.ensures.judged,
  ),
)
