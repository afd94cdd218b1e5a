use Rattle.std.proofs.Common.{length, ◌*◌}
use Rattle.ft_command.specs.Asked.{campaign_view}
use Rattle.ft_tool.specs.Lists.{AnyVerdicts}
use Rattle.ft_tool.proofs.Tried.{at_most, tried_concludes, tried_breaks_off, none_corrupt, some_corrupt}
use Rattle.ft_tool.proofs.survey.survey_faults.Goals as goal

pub returns-then-totals-eq0 : goal.returns-then-totals-eq0
returns-then-totals-eq0 g c =
    let few = at_most 1000000000 (length c.args.faults.now * c.args.asked.now.steps) (λ above.
    let e = c.in-Finished.ensures.too_much above in cc) in
    tried_concludes AnyVerdicts (campaign_view c.args.asked.now) (g.P.Program.object c.args.program.now)
    c.args.faults.now c.in-Finished.totals 0 (g.K.Sink.log c.args.out.now)
    (g.K.Sink.log c.survey_counted.new.out)
    c.in-Finished.ensures.ends few (λ vs h. tt)
    (λ vs is. none_corrupt c.in-Finished.totals vs c.if-totals-eq0.true is)

pub returns-else-totals-eq0 : goal.returns-else-totals-eq0
returns-else-totals-eq0 g c =
    let few = at_most 1000000000 (length c.args.faults.now * c.args.asked.now.steps) (λ above.
    let e = c.in-Finished.ensures.too_much above in cc) in
    tried_concludes AnyVerdicts (campaign_view c.args.asked.now) (g.P.Program.object c.args.program.now)
    c.args.faults.now c.in-Finished.totals 10 (g.K.Sink.log c.args.out.now)
    (g.K.Sink.log c.survey_counted.new.out)
    c.in-Finished.ensures.ends few (λ vs h. tt)
    (λ vs is. some_corrupt c.in-Finished.totals vs c.if-totals-eq0.false is)

pub returns-in-WriteFault : goal.returns-in-WriteFault
returns-in-WriteFault g c =
    let few = at_most 1000000000 (length c.args.faults.now * c.args.asked.now.steps) (λ above.
    let e = c.in-WriteFault.ensures.too_much above in cc) in
    tried_breaks_off AnyVerdicts (campaign_view c.args.asked.now) (g.P.Program.object c.args.program.now)
    c.args.faults.now (g.K.Sink.log c.args.out.now) (g.K.Sink.log c.survey_counted.new.out)
    c.in-WriteFault.ensures.ends few (λ vs h. tt)
