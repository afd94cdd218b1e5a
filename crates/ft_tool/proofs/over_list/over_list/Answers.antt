use Rattle.std.proofs.Common.{◌≡◌, Vec, Global, subst}
use Rattle.ft_edge.specs.Logs.{LoadFails}
use Rattle.ft_isa.specs.declared.plan.Strike.{Strike}
use Rattle.ft_command.specs.Asked.{campaign_view}
use Rattle.ft_tool.specs.declared.load.ListFault.TheVariants.{Failed}
use Rattle.ft_tool.specs.Told.{OverListOf}
use Rattle.ft_tool.specs.Files.{IsListRefusedBy}
use Rattle.ft_tool.specs.Lists.{OverFaults}
use Rattle.ft_tool.proofs.Answered.{Ends-map}
use Rattle.ft_tool.proofs.Tried.{over_listed, over_refused_list, list_failed}
use Rattle.ft_tool.proofs.over_list.over_list.Goals as goal

pub returns-in-Ok-clause-ends : goal.returns-in-Ok-clause-ends
returns-in-Ok-clause-ends g c = λ told may own.
    let asked = campaign_view c.args.asked.now in
    let object = g.T.Target.object c.args.target.now in
    let Promised = g.T.Target.promised c.args.target.now in
    Ends-map c.over_faults.result (OverFaults Promised asked object c.as_slice.result.now)
    (OverListOf Promised asked told c.args.bytes.now object) _ _ ⊥
    (LoadFails c.args.asked.now.faults.now (g.F.Shelf.log c.args.shelf.now)
    (g.F.Shelf.log c.list_of.new.shelf))
    (λ a is. over_listed {V = Vec Strike Global} (λ v. v.items) Promised asked told c.args.bytes.now object
    c.in-Ok.faults (c.in-Ok.ensures.gets told may own) a (subst (λ faults. OverFaults Promised asked object faults a)
    c.as_slice.ensures.value is))
    (λ x. absurd x) c.over_faults.ensures

pub returns-in-Err-clause-ends : goal.returns-in-Err-clause-ends
returns-in-Err-clause-ends g c = λ told may own.
    let asked = campaign_view c.args.asked.now in
    let object = g.T.Target.object c.args.target.now in
    let Promised = g.T.Target.promised c.args.target.now in
    Ends-map c.refuse_list.result (IsListRefusedBy c.in-Err.fault)
    (OverListOf Promised asked told c.args.bytes.now object) _ _ (c.in-Err.fault ≡ Failed)
    (LoadFails c.args.asked.now.faults.now (g.F.Shelf.log c.args.shelf.now)
    (g.F.Shelf.log c.list_of.new.shelf))
    (λ a is. over_refused_list {V = Vec Strike Global} (λ v. v.items) Promised asked told c.args.bytes.now object
    c.in-Err.fault (c.in-Err.ensures.gets told may own) a is)
    (λ e. list_failed (Vec Strike Global) _ c.in-Err.fault (g.F.Shelf.log c.args.shelf.now)
    (g.F.Shelf.log c.list_of.new.shelf) c.in-Err.ensures.cause e) c.refuse_list.ensures.ends
