use Rattle.std.proofs.Common.{refl, inl}
use Rattle.ft_typing.specs.Accepted.{refusal}
use Rattle.ft_tool.proofs.Answered.{unaccepted}
use Rattle.std.proofs.Common.{rules, ◌≡◌, None, sym, subst}
use Rattle.ft_edge.specs.Logs.{LoadFails}
use Rattle.ft_command.specs.Asked.{campaign_view}
use Rattle.ft_tool.specs.Answers.{CampaignsUnless}
use Rattle.ft_tool.specs.Told.{CampaignsListOf}
use Rattle.ft_tool.proofs.Answered.{Ends-map}
use Rattle.ft_tool.proofs.campaign.campaign_object.Goals as goal

pub returns-in-Err-clause-made : goal.returns-in-Err-clause-made
returns-in-Err-clause-made g c =
    inl (
      unaccepted (refusal (g.P.Program.object c.args.program.now)) c.in-Err.error c.refuse_check.result _ _ ⊥
          c.in-Err.ensures.judged c.refuse_check.ensures,
      refl,
    )

pub returns-in-Ok-clause-ends : goal.returns-in-Ok-clause-ends
returns-in-Ok-clause-ends g c = λ told may own.
    let asked = campaign_view c.args.asked.now in
    let o = g.P.Program.object c.args.program.now in
    let fails = LoadFails c.args.asked.now.faults.now (g.F.Shelf.log c.args.shelf.now)
    (g.F.Shelf.log c.campaign_checked.new.shelf) in
    let checked : c.in-Ok.checked ≡ c.args.program.now = c.in-Ok.ensures.program in
    let unrefused : refusal o ≡ None = c.in-Ok.ensures.judged in
    Ends-map c.campaign_checked.result (CampaignsListOf asked told c.args.bytes.now
    (g.P.Program.object c.in-Ok.checked))
    (CampaignsUnless (refusal o) (CampaignsListOf asked told c.args.bytes.now o)) _ _ fails
    (fails × (refusal o ≡ None))
    (λ a is. subst (λ x. CampaignsUnless x (CampaignsListOf asked told c.args.bytes.now o) a) (sym unrefused)
    (subst (λ p. CampaignsListOf asked told c.args.bytes.now (g.P.Program.object p) a) checked is))
    (λ f. (f, unrefused)) (c.campaign_checked.ensures.ends told may own)
