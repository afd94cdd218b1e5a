use Rattle.std.proofs.Common.{rules, ◌≡◌, ◌≢◌, Vec, Global}
use Rattle.ft_isa.specs.declared.plan.Strike.{Strike}
use Rattle.ft_command.specs.Asked.{campaign_view}
use Rattle.ft_tool.specs.Replies.{IsToldFile}
use Rattle.ft_tool.specs.Told.{IsListOf}
use Rattle.ft_tool.proofs.Held.{gets_map}
use Rattle.ft_tool.proofs.load.list_of.Goals as goal

pub returns-clause-gets : goal.returns-clause-gets
returns-clause-gets g c = λ told may own.
    let other : c.args.asked.now.faults.now ≢ c.args.asked.now.object.now = search rules in
    gets_map {V = Vec Strike Global} (λ v. v.items) (IsToldFile told c.args.asked.now.faults.now)
    (IsListOf (campaign_view c.args.asked.now) told c.args.bytes.now) c.load_list.result
    (λ list is. record { file = is; own = λ same. absurd (other same) }) (c.load_list.ensures.gets told may)
