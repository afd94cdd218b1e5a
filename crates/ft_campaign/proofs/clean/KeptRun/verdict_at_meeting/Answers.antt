use Rattle.ft_campaign.proofs.Judgements.{met_masked, met_detected, met_corrupt, refuted}
use Rattle.ft_campaign.proofs.clean.KeptRun.verdict_at_meeting.Goals as goal

pub returns-then-at-count : goal.returns-then-at-count
returns-then-at-count c = λ o x w n m clean h. met_masked o x w n c.args.at m c.args.count c.args.self.now clean h
    c.if-at-count.true

pub returns-then-is_noticed : goal.returns-then-is_noticed
returns-then-is_noticed c = λ o x w n m clean h.
    met_detected o x w n c.args.at m c.args.count c.args.self.now clean h c.if-at-count.false
    (c.is_noticed.ensures.0 c.if-is_noticed.true)

pub returns : goal.returns
returns c = λ o x w n m clean h.
    met_corrupt o x w n c.args.at m c.args.count c.args.self.now clean h c.if-at-count.false
    (refuted c.is_noticed.result c.is_noticed.ensures c.if-is_noticed.false)
