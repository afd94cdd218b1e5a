use Rattle.std.proofs.Common.{◌≡◌, None, inl, refl}
use Rattle.std.specs.Prelude.{IsTrue}
use Rattle.ft_edge.specs.Logs.{LoadFails}
use Rattle.ft_format.specs.Broken.{object_of}
use Rattle.ft_command.specs.Commands.{Campaigns}
use Rattle.ft_command.specs.Asked.{campaign_view}
use Rattle.ft_typing.specs.Accepted.{refusal}
use Rattle.ft_tool.specs.Answers.{CampaignsUnless, CampaignsObject, OverFile, FailsIn}
use Rattle.ft_tool.specs.Endings.{ends_early}
use Rattle.ft_tool.specs.Known.{revealing}
use Rattle.ft_tool.proofs.Held.{held_before, held_between}
use Rattle.ft_tool.specs.Told.{OfFiles, CampaignsListOf}
use Rattle.ft_tool.proofs.Tried.{own_bytes, over_struck_between, over_unstruck, campaign_failed, campaign_unloaded}
use Rattle.ft_tool.proofs.Tried.{campaigns_loaded}
use Rattle.ft_tool.specs.declared.load.ObjectFault.TheVariants.{Failed}
use Rattle.ft_tool.specs.Files.{IsRefusedBy}
use Rattle.ft_tool.proofs.Answered.{Ends-map, unspelled, object_failed, failed_in}
use Rattle.ft_tool.specs.Known.{revealed}
use Rattle.ft_tool.proofs.campaign.campaign_file.Goals as goal

pub returns-in-Ok-clause-ends : goal.returns-in-Ok-clause-ends
returns-in-Ok-clause-ends g c = λ told may.
    let first = c.in-Ok.ensures.loads told (held_before c.campaign_object.ensures.earlier may) in
    let asked = campaign_view c.args.asked.now in
    let shelf = revealing told (g.F.Shelf.log c.args.shelf.now) in
    let between = revealing told (g.F.Shelf.log c.load_object.new.shelf) in
    let new = revealing told (g.F.Shelf.log c.campaign_object.new.shelf) in
    let o = object_of c.in-Ok.view in
    Ends-map c.campaign_object.result (CampaignsUnless (refusal o)
    (CampaignsListOf asked between.files c.bytes.result.now o)) (λ a. OfFiles shelf.files
    (λ files. OverFile (CampaignsObject asked files) asked.object files a)) _ _
    (LoadFails asked.faults between new × (refusal o ≡ None))
    (OfFiles shelf.files (λ files. FailsIn (Campaigns asked) files shelf new))
    (λ a is. over_struck_between asked shelf.files between.files c.in-Ok.view c.bytes.result.now
    refl c.bytes.ensures first a is)
    (campaign_failed asked c.in-Ok.view shelf between new first c.in-Ok.ensures.cause.0)
    (c.campaign_object.ensures.ends told (held_between c.load_object.ensures.files may)
    (own_bytes told told c.args.asked.now.object.now c.in-Ok.view c.bytes.result.now refl c.bytes.ensures first))

pub returns-clause-ends : goal.returns-clause-ends
returns-clause-ends g c = λ told may.
    let asked = campaign_view c.args.asked.now in
    let shelf = revealing told (g.F.Shelf.log c.args.shelf.now) in
    let new = revealing told (g.F.Shelf.log c.load_object.new.shelf) in
    Ends-map c.refuse_object.result (IsRefusedBy c.in-Err.fault)
    (λ a. OfFiles shelf.files (λ files. OverFile (CampaignsObject asked files) asked.object files a)) _ _
    (c.in-Err.fault ≡ Failed)
    (OfFiles shelf.files (λ files. FailsIn (Campaigns asked) files shelf new))
    (λ a is. over_unstruck (CampaignsObject asked) shelf.files asked.object c.in-Err.fault
    (c.in-Err.ensures.loads told may) a is)
    (λ e. failed_in (Campaigns asked) shelf new asked.object (λ files. inl refl)
    (object_failed asked.object c.in-Err.fault (g.F.Shelf.log c.args.shelf.now)
    (g.F.Shelf.log c.load_object.new.shelf) c.in-Err.ensures.cause e)) c.refuse_object.ensures.ends

pub returns-in-Ok-clause-made : goal.returns-in-Ok-clause-made
returns-in-Ok-clause-made g c = λ told may.
    let first = c.in-Ok.ensures.loads told (held_before c.campaign_object.ensures.earlier may) in
    campaigns_loaded (campaign_view c.args.asked.now) told c.in-Ok.view
    (IsTrue (ends_early c.campaign_object.result)) (g.F.Shelf.log c.args.shelf.now).asked
    (g.F.Shelf.log c.load_object.new.shelf).asked (g.F.Shelf.log c.campaign_object.new.shelf).asked
    first c.load_object.ensures.made c.campaign_object.ensures.made

pub returns-clause-made : goal.returns-clause-made
returns-clause-made g c = λ told may.
    campaign_unloaded (campaign_view c.args.asked.now) told (IsTrue (ends_early c.refuse_object.result))
    (g.F.Shelf.log c.args.shelf.now).asked (g.F.Shelf.log c.load_object.new.shelf).asked
    (unspelled told c.args.asked.now.object.now c.in-Err.fault c.refuse_object.result _ _ (c.in-Err.fault
    ≡ Failed) (c.in-Err.ensures.loads told may) c.refuse_object.ensures.ends) c.load_object.ensures.made

pub campaign_object-requires-clause-spellable : goal.campaign_object-requires-clause-spellable
campaign_object-requires-clause-spellable g c = (c.in-Ok.ensures.loads (g.F.Shelf.log c.args.shelf.now).files
    (revealed refl)).1.spellable
