use Rattle.std.proofs.Common.{◌+◌, ◌-◌, ◌%◌, ap, sym, subst, ◌∙◌}
use Rattle.ft_isa.specs.declared.instr.Instr.TheVariants.{St}
use Rattle.ft_campaign.specs.Snapshots.{LeadsOn}
use Rattle.ft_campaign.proofs.Queues.{green_leads_on, blue_leads_on, others_lead_on}
use Rattle.ft_campaign.proofs.lengths.entries_after.Goals as goal

pub returns-in-Green : goal.returns-in-Green
returns-in-Green c =
    subst (λ i. LeadsOn i c.args.entries ((c.args.entries + 1) % 256))
    (sym (c.in-St.is ∙ ap (λ d. St d c.in-St.rd c.in-St.rs) c.in-Green.is))
    (green_leads_on c.in-St.rd c.in-St.rs c.args.entries)

pub returns-in-Blue : goal.returns-in-Blue
returns-in-Blue c =
    subst (LeadsOn c.args.instr c.args.entries) (sym c.saturating_sub.ensures)
    (subst (λ i. LeadsOn i c.args.entries (c.args.entries - 1))
    (sym (c.in-St.is ∙ ap (λ d. St d c.in-St.rd c.in-St.rs) c.in-Blue.is))
    (blue_leads_on c.in-St.rd c.in-St.rs c.args.entries))

pub returns-in_default : goal.returns-in_default
returns-in_default c =
    others_lead_on c.args.instr c.args.entries c.in_default.not-St c.in_default.not-JmpB c.in_default.not-BzB
    c.in_default.not-Halt
