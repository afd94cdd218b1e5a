use Rattle.std.proofs.Common.{length, ◌*◌}
use Rattle.ft_command.specs.Asked.{campaign_view}
use Rattle.ft_typing.proofs.Acceptance.{accepted_is_unrefused}
use Rattle.ft_campaign.proofs.Judged.{none_corrupt as never_corrupt}
use Rattle.ft_tool.specs.Lists.{NoneCorrupt}
use Rattle.ft_tool.proofs.Tried.{at_most, tried_concludes, tried_breaks_off, none_corrupt}
use Rattle.ft_tool.proofs.campaign.campaign_faults.Goals as goal

pub returns-in-Finished : goal.returns-in-Finished
returns-in-Finished g c =
    let o = g.P.Program.object c.args.checked.now in
    let faults = c.args.faults.now in
    let asked = c.args.asked.now in
    let h = c.in-Finished.ensures in
    let few = at_most 1000000000 (length faults * asked.steps) (λ above. let e = h.too_much above in cc) in
    tried_concludes NoneCorrupt (campaign_view asked) o faults c.in-Finished.field-0 0
    (g.K.Sink.log c.args.out.now) (g.K.Sink.log c.campaign_counted.new.out) h.ends few
    (λ vs are. never_corrupt o faults asked.wild.items asked.steps vs c.requires.spellable
    ((accepted_is_unrefused o).1 c.requires.accepted) are) (λ vs is. none_corrupt c.in-Finished.field-0 vs h.uncorrupted
    is)

pub returns-in-WriteFault : goal.returns-in-WriteFault
returns-in-WriteFault g c =
    let o = g.P.Program.object c.args.checked.now in
    let faults = c.args.faults.now in
    let asked = c.args.asked.now in
    let h = c.in-WriteFault.ensures in
    let few = at_most 1000000000 (length faults * asked.steps) (λ above. let e = h.too_much above in cc) in
    tried_breaks_off NoneCorrupt (campaign_view asked) o faults (g.K.Sink.log c.args.out.now)
    (g.K.Sink.log c.campaign_counted.new.out) h.ends few
    (λ vs are. never_corrupt o faults asked.wild.items asked.steps vs c.requires.spellable
    ((accepted_is_unrefused o).1 c.requires.accepted) are)
