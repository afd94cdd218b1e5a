use Rattle.std.proofs.Common.{subst, sym}
use Rattle.ft_embed.specs.Plans.{AreAnswers}
use Rattle.ft_embed.proofs.recovering.recover.Goals as goal

pub returns-in-Ok-read_answers-clause-recovers : goal.returns-in-Ok-read_answers-clause-recovers
returns-in-Ok-read_answers-clause-recovers c = λ _ five seven eight.
    c.recover_bytes.ensures.recovers five seven eight c.args.fault.now c.args.wild.now c.in-Ok.ensures.ok
    (subst (AreAnswers c.args.wild.now) (sym c.as_slice.ensures.value) c.in-Ok-read_answers.ensures.ok)
