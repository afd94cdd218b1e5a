use Rattle.ft_edge.specs.Logs.{LoadFails}
use Rattle.ft_command.specs.Asked.{campaign_view}
use Rattle.ft_tool.specs.Lists.{NoneCorrupt}
use Rattle.ft_tool.specs.Told.{OverListOf, CampaignsListOf}
use Rattle.ft_tool.proofs.Answered.{Ends-map, undetected}
use Rattle.ft_tool.proofs.campaign.campaign_checked.Goals as goal

pub returns-clause-ends : goal.returns-clause-ends
returns-clause-ends g c = λ told may own.
    let asked = campaign_view c.args.asked.now in
    let o = g.P.Program.object c.args.checked.now in
    let fails = LoadFails c.args.asked.now.faults.now (g.F.Shelf.log c.args.shelf.now)
    (g.F.Shelf.log c.over_list.new.shelf) in
    Ends-map c.over_list.result (OverListOf NoneCorrupt asked told c.args.bytes.now o)
    (CampaignsListOf asked told c.args.bytes.now o) _ _ fails fails
    (λ a is. (is, undetected o asked.wild c.requires.spellable c.requires.accepted)) (λ x.
    x) (c.over_list.ensures.ends told may own)
