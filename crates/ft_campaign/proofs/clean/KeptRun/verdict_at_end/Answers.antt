use Rattle.ft_campaign.proofs.Judgements.{ended_masked, ended_detected, ended_corrupt, refuted}
use Rattle.ft_campaign.proofs.clean.KeptRun.verdict_at_end.Goals as goal

pub returns-then-ends_alike : goal.returns-then-ends_alike
returns-then-ends_alike c = λ o x w n clean h. ended_masked o x w n c.args.at c.args.status c.args.last c.args.self.now
    clean h (c.ends_alike.ensures.0 c.if-ends_alike.true)

pub returns-then-is_detected : goal.returns-then-is_detected
returns-then-is_detected c = λ o x w n clean h.
    ended_detected o x w n c.args.at c.args.status c.args.last c.args.self.now clean h
    (refuted c.ends_alike.result c.ends_alike.ensures c.if-ends_alike.false)
    (c.is_detected.ensures.0 c.if-is_detected.true)

pub returns : goal.returns
returns c = λ o x w n clean h.
    ended_corrupt o x w n c.args.at c.args.status c.args.last c.args.self.now clean h
    (refuted c.ends_alike.result c.ends_alike.ensures c.if-ends_alike.false)
    (refuted c.is_detected.result c.is_detected.ensures c.if-is_detected.false)
