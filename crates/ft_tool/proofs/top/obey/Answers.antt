use Rattle.std.proofs.Common.{◌≡◌, refl, ap, subst}
use Rattle.ft_command.specs.Commands.{Usage, Campaigns, Surveys, Demonstrates, Links, HasFewSteps}
use Rattle.ft_command.specs.Asked.{campaign_view, debugging_view, asked}
use Rattle.ft_tool.specs.Demonstrations.{ShowsSample}
use Rattle.ft_tool.specs.Answers.{usage, CampaignsObject, SurveysObject, OverFile}
use Rattle.ft_tool.specs.Links.{LinksFile}
use Rattle.ft_tool.specs.Told.{OfFiles}
use Rattle.ft_tool.specs.Known.{revealing}
use Rattle.ft_tool.specs.Does.{FailsLoading}
use Rattle.ft_tool.proofs.Mapped.{some_files}
use Rattle.ft_tool.proofs.Obeyed.{does_files, does_alone, does_untaken, does_session, takes_session}
use Rattle.ft_tool.proofs.top.obey.Goals as goal

pub returns-in-Check-clause-does : goal.returns-in-Check-clause-does
returns-in-Check-clause-does g c = λ told may left begin.
    does_untaken (ap asked c.in-Check.is) (c.over_object.ensures told may left)

pub returns-in-Run-clause-does : goal.returns-in-Run-clause-does
returns-in-Run-clause-does g c = λ told may left begin.
    does_untaken (ap asked c.in-Run.is) (c.over_object-in-Run.ensures told may left)

pub returns-in-Trial-clause-does : goal.returns-in-Trial-clause-does
returns-in-Trial-clause-does g c = λ told may left begin.
    does_untaken (ap asked c.in-Trial.is) (c.over_object-in-Trial.ensures told may left)

pub returns-in-Recover-clause-does : goal.returns-in-Recover-clause-does
returns-in-Recover-clause-does g c = λ told may left begin.
    does_untaken (ap asked c.in-Recover.is) (c.over_object-in-Recover.ensures told may left)

pub returns-in-Disassemble-clause-does : goal.returns-in-Disassemble-clause-does
returns-in-Disassemble-clause-does g c = λ told may left begin. does_untaken (ap asked c.in-Disassemble.is)
    (c.over_object-in-Disassemble.ensures told may left)

pub returns-in-Schedule-clause-does : goal.returns-in-Schedule-clause-does
returns-in-Schedule-clause-does g c = λ told may left begin.
    does_untaken (ap asked c.in-Schedule.is) (c.over_object-in-Schedule.ensures told may left)

pub returns-in-Compile-clause-does : goal.returns-in-Compile-clause-does
returns-in-Compile-clause-does g c = λ told may left begin.
    does_untaken (ap asked c.in-Compile.is) (c.over_file.ensures told may left)

pub returns-in-Exec-clause-does : goal.returns-in-Exec-clause-does
returns-in-Exec-clause-does g c = λ told may left begin.
    does_untaken (ap asked c.in-Exec.is) (c.over_file-in-Exec.ensures told may left)

pub returns-in-Mean-clause-does : goal.returns-in-Mean-clause-does
returns-in-Mean-clause-does g c = λ told may left begin.
    does_untaken (ap asked c.in-Mean.is) (c.over_file-in-Mean.ensures told may left)

pub returns-in-Upgrade-clause-does : goal.returns-in-Upgrade-clause-does
returns-in-Upgrade-clause-does g c = λ told may left begin.
    does_untaken (ap asked c.in-Upgrade.is) (c.over_file-in-Upgrade.ensures told may left)

pub returns-in-Assemble-clause-does : goal.returns-in-Assemble-clause-does
returns-in-Assemble-clause-does g c = λ told may left begin.
    does_untaken (ap asked c.in-Assemble.is) (c.over_file-in-Assemble.ensures told may left)

pub returns-in-Usage-clause-does : goal.returns-in-Usage-clause-does
returns-in-Usage-clause-does g c = λ told may left begin.
    does_untaken (ap asked c.in-Usage.is)
    (does_alone Usage c.put_usage.result (revealing told (g.F.Shelf.log c.args.shelf.now)) (λ a. a
    ≡ usage) c.put_usage.ensures
    (λ files script a h. h) (λ files. refl))

pub returns-in-Demo-clause-does : goal.returns-in-Demo-clause-does
returns-in-Demo-clause-does g c = λ told may left begin.
    let turns = c.in-Demo.turns in
    does_untaken (ap asked c.in-Demo.is)
    (does_alone (Demonstrates turns) c.demonstrate.result (revealing told (g.F.Shelf.log c.args.shelf.now))
    (ShowsSample turns)
    c.demonstrate.ensures (λ files script a h. h) (λ files. refl))

pub campaign_file-requires : goal.campaign_file-requires
campaign_file-requires g c = subst (λ x. HasFewSteps (asked x)) c.in-Campaign.is c.requires.few_steps

pub returns-in-Campaign-clause-does : goal.returns-in-Campaign-clause-does
returns-in-Campaign-clause-does g c = λ told may left begin.
    let shelf = revealing told (g.F.Shelf.log c.args.shelf.now) in
    let new = revealing told (g.F.Shelf.log c.campaign_file.new.shelf) in
    let campaign = campaign_view c.in-Campaign.asked in
    let done = c.campaign_file.ensures in
    does_untaken (ap asked c.in-Campaign.is)
    (does_files (Campaigns campaign) c.campaign_file.result (FailsLoading (Campaigns campaign) shelf new)
    (λ a. OfFiles shelf.files (λ files. OverFile (CampaignsObject campaign files) campaign.object files a))
    (done.ends told may)
    (λ a h. (h.0, (h.1.0, λ script. h.1.1))) (λ h. h) done.load_failures (done.made told may))

pub survey_file-requires : goal.survey_file-requires
survey_file-requires g c = subst (λ x. HasFewSteps (asked x)) c.in-Survey.is c.requires.few_steps

pub returns-in-Survey-clause-does : goal.returns-in-Survey-clause-does
returns-in-Survey-clause-does g c = λ told may left begin.
    let shelf = revealing told (g.F.Shelf.log c.args.shelf.now) in
    let new = revealing told (g.F.Shelf.log c.survey_file.new.shelf) in
    let campaign = campaign_view c.in-Survey.asked in
    let done = c.survey_file.ensures in
    does_untaken (ap asked c.in-Survey.is)
    (does_files (Surveys campaign) c.survey_file.result (FailsLoading (Surveys campaign) shelf new)
    (λ a. OfFiles shelf.files (λ files. OverFile (SurveysObject campaign files) campaign.object files a))
    (done.ends told may)
    (λ a h. (h.0, (h.1.0, λ script. h.1.1))) (λ h. h) done.load_failures (done.made told may))

pub returns-in-Link-clause-does : goal.returns-in-Link-clause-does
returns-in-Link-clause-does g c = λ told may left begin.
    let shelf = revealing told (g.F.Shelf.log c.args.shelf.now) in
    let new = revealing told (g.F.Shelf.log c.link_file.new.shelf) in
    let name = c.in-Link.name.now in
    let done = c.link_file.ensures in
    let m = some_files shelf.files in
    does_untaken (ap asked c.in-Link.is)
    (does_files (Links name) c.link_file.result (FailsLoading (Links name) shelf new) (LinksFile shelf.files name)
    (done.ends told may) (λ a h. (m.0, (m.1.0, λ script. h))) (λ h. h) done.load_failures (
      m.0,
      (m.1.0, (done.made told may)),
    ))

pub returns-in-Debug-clause-does : goal.returns-in-Debug-clause-does
returns-in-Debug-clause-does g c = λ told may left begin.
    let shelf = revealing told (g.F.Shelf.log c.args.shelf.now) in
    let new = revealing told (g.F.Shelf.log c.debug_file.new.shelf) in
    let script = g.I.Source.log c.args.script.now in
    let done = c.debug_file.ensures in
    does_session (debugging_view c.in-Debug.asked) c.debug_file.result shelf new left script
    (g.I.Source.log c.debug_file.new.script) (ap asked c.in-Debug.is) (done.ends told may left begin) done.load_failures
    done.made

pub returns-in-Debug-clause-script : goal.returns-in-Debug-clause-script
returns-in-Debug-clause-script g c = λ told may.
    takes_session (debugging_view c.in-Debug.asked) told
    (g.I.Source.log c.args.script.now) (g.I.Source.log c.debug_file.new.script) (ap asked c.in-Debug.is)
    (c.debug_file.ensures.script told may)
