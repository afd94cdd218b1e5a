use Rattle.std.proofs.Common.{subst, sym}
use Rattle.ft_embed.specs.Plans.{AreAnswers}
use Rattle.ft_embed.proofs.running.run.Goals as goal

pub returns-in-Ok-read_answers-clause-runs : goal.returns-in-Ok-read_answers-clause-runs
returns-in-Ok-read_answers-clause-runs c = λ _ five seven eight.
    c.run_bytes.ensures.runs five seven eight c.args.fault.now c.args.wild.now c.in-Ok.ensures.ok
    (subst (AreAnswers c.args.wild.now) (sym c.as_slice.ensures.value) c.in-Ok-read_answers.ensures.ok)
