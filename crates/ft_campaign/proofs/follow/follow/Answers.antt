use Rattle.std.proofs.Common.{sym, subst}
use Rattle.ft_campaign.specs.declared.follow.How.{How}
use Rattle.ft_campaign.specs.Follows.{Follows}
use Rattle.ft_campaign.proofs.Following.{follows_so}
use Rattle.ft_campaign.proofs.follow.follow.Goals as goal

pub returns-clause-follows : goal.returns-clause-follows
returns-clause-follows g c =
    let o = g.P.Program.object c.args.program.now in
    let gone = c.go-gone in
    let whole = c.args.expected.now.whole.now in
    let at = c.args.expected.now.at in
    subst (λ (how : How). Follows o c.args.machine.now c.args.wild.now gone.new.self gone.new.wild whole at
    gone.new.outlet.at c.args.number (record { done = gone.result.taken; how = how })) (sym c.how_of.ensures)
    (follows_so _ o c.args.machine.now gone.new.self c.args.wild.now gone.new.wild _ _ gone.result.taken c.args.number
    whole at gone.new.outlet.at gone.ensures.few
    gone.result.pause gone.ensures.goes (gone.ensures.heard.1 c.requires.within) gone.ensures.all gone.ensures.early)
