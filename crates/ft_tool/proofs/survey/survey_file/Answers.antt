use Rattle.std.proofs.Common.{◌≡◌, inl, refl}
use Rattle.std.specs.Prelude.{IsTrue}
use Rattle.ft_edge.specs.Logs.{LoadFails}
use Rattle.ft_format.specs.Broken.{object_of}
use Rattle.ft_command.specs.Commands.{Surveys}
use Rattle.ft_command.specs.Asked.{campaign_view}
use Rattle.ft_tool.specs.Lists.{AnyVerdicts}
use Rattle.ft_tool.specs.Answers.{SurveysObject, OverFile, FailsIn}
use Rattle.ft_tool.specs.Endings.{ends_early}
use Rattle.ft_tool.specs.Known.{revealing}
use Rattle.ft_tool.proofs.Held.{held_before, held_between}
use Rattle.ft_tool.specs.Told.{OfFiles, OverListOf}
use Rattle.ft_tool.proofs.Tried.{own_bytes, over_surveyed_between, over_unstruck, survey_failed, survey_unloaded}
use Rattle.ft_tool.proofs.Tried.{surveys_loaded}
use Rattle.ft_tool.specs.declared.load.ObjectFault.TheVariants.{Failed}
use Rattle.ft_tool.specs.Files.{IsRefusedBy}
use Rattle.ft_tool.proofs.Answered.{Ends-map, unspelled, object_failed, failed_in}
use Rattle.ft_tool.specs.Known.{revealed}
use Rattle.ft_tool.proofs.survey.survey_file.Goals as goal

pub returns-in-Ok-clause-ends : goal.returns-in-Ok-clause-ends
returns-in-Ok-clause-ends g c = λ told may.
    let first = c.in-Ok.ensures.loads told (held_before c.over_list.ensures.earlier may) in
    let asked = campaign_view c.args.asked.now in
    let shelf = revealing told (g.F.Shelf.log c.args.shelf.now) in
    let between = revealing told (g.F.Shelf.log c.load_object.new.shelf) in
    let new = revealing told (g.F.Shelf.log c.over_list.new.shelf) in
    Ends-map c.over_list.result (OverListOf AnyVerdicts asked between.files c.bytes.result.now (object_of c.in-Ok.view))
    (λ a. OfFiles shelf.files (λ files. OverFile (SurveysObject asked files) asked.object files a)) _ _
    (LoadFails asked.faults between new) (OfFiles shelf.files (λ files. FailsIn (Surveys asked) files shelf new))
    (λ a is. over_surveyed_between asked shelf.files between.files c.in-Ok.view c.bytes.result.now
    refl c.bytes.ensures first a is)
    (survey_failed asked c.in-Ok.view shelf between new first c.in-Ok.ensures.cause.0)
    (c.over_list.ensures.ends told (held_between c.load_object.ensures.files may)
    (own_bytes told told c.args.asked.now.object.now c.in-Ok.view c.bytes.result.now refl c.bytes.ensures first))

pub returns-clause-ends : goal.returns-clause-ends
returns-clause-ends g c = λ told may.
    let asked = campaign_view c.args.asked.now in
    let shelf = revealing told (g.F.Shelf.log c.args.shelf.now) in
    let new = revealing told (g.F.Shelf.log c.load_object.new.shelf) in
    Ends-map c.refuse_object.result (IsRefusedBy c.in-Err.fault)
    (λ a. OfFiles shelf.files (λ files. OverFile (SurveysObject asked files) asked.object files a)) _ _
    (c.in-Err.fault ≡ Failed)
    (OfFiles shelf.files (λ files. FailsIn (Surveys asked) files shelf new))
    (λ a is. over_unstruck (SurveysObject asked) shelf.files asked.object c.in-Err.fault
    (c.in-Err.ensures.loads told may) a is)
    (λ e. failed_in (Surveys asked) shelf new asked.object (λ files. inl refl)
    (object_failed asked.object c.in-Err.fault (g.F.Shelf.log c.args.shelf.now)
    (g.F.Shelf.log c.load_object.new.shelf) c.in-Err.ensures.cause e)) c.refuse_object.ensures.ends

pub returns-in-Ok-clause-made : goal.returns-in-Ok-clause-made
returns-in-Ok-clause-made g c = λ told may.
    let first = c.in-Ok.ensures.loads told (held_before c.over_list.ensures.earlier may) in
    surveys_loaded (campaign_view c.args.asked.now) told c.in-Ok.view
    (IsTrue (ends_early c.over_list.result)) (g.F.Shelf.log c.args.shelf.now).asked
    (g.F.Shelf.log c.load_object.new.shelf).asked (g.F.Shelf.log c.over_list.new.shelf).asked
    first c.load_object.ensures.made c.over_list.ensures.made

pub returns-clause-made : goal.returns-clause-made
returns-clause-made g c = λ told may.
    survey_unloaded (campaign_view c.args.asked.now) told (IsTrue (ends_early c.refuse_object.result))
    (g.F.Shelf.log c.args.shelf.now).asked (g.F.Shelf.log c.load_object.new.shelf).asked
    (unspelled told c.args.asked.now.object.now c.in-Err.fault c.refuse_object.result _ _ (c.in-Err.fault
    ≡ Failed) (c.in-Err.ensures.loads told may) c.refuse_object.ensures.ends) c.load_object.ensures.made

pub over_list-requires-clause-known : goal.over_list-requires-clause-known
over_list-requires-clause-known g c = (c.in-Ok.ensures.loads (g.F.Shelf.log c.args.shelf.now).files
    (revealed refl)).1.spellable
