use Rattle.std.proofs.Common.{◌≡◌, ◌∙◌, length, take, map, ap, sym, subst, arith}
use Rattle.ft_campaign.specs.Texts.{totals_of}
use Rattle.ft_embed.specs.declared.trial.FaultTotals.{FaultTotals}
use Rattle.ft_embed.specs.Trials.{Tries, fault_totals, fault_verdict}
use Rattle.ft_embed.proofs.Tried.{as_many, tried}
use Rattle.ft_embed.proofs.trying.try_faults.Goals as goal

pub totals_of-totals-requires : goal.totals_of-totals-requires
totals_of-totals-requires g c =
    let long = as_many (g.P.Program.object c.args.program.now) c.args.faults.now c.args.trial.wild.now
    c.args.trial.steps c.in-Ok.verdicts.items c.in-Ok.ensures in
    let same = ap length c.as_slice.ensures.value in
    let few = c.requires.few in
    omega (arith, long, same, few)

pub put_verdicts-requires : goal.put_verdicts-requires
put_verdicts-requires g c =
    let long = as_many (g.P.Program.object c.args.program.now) c.args.faults.now c.args.trial.wild.now
    c.args.trial.steps c.in-Ok.verdicts.items c.in-Ok.ensures in
    let same = ap length c.as_slice-2.ensures.value in
    let room = c.requires.room in
    omega (arith, long, same, room)

pub returns-clause-tries : goal.returns-clause-tries
returns-clause-tries g c = λ _.
    let o = g.P.Program.object c.args.program.now in
    let faults = c.args.faults.now in
    let found = c.in-Ok.verdicts.items in
    let new = c.put_verdicts.new.out in
    let totals : c.fault_totals.result ≡ fault_totals (length faults) (totals_of found) =
    c.fault_totals.ensures ∙ ap (fault_totals (length faults)) (c.totals_of-totals.ensures
    ∙ ap totals_of c.as_slice.ensures.value) in
    subst (λ (t : FaultTotals). Tries o faults c.args.trial.wild.now c.args.trial.steps t new) (sym totals)
    (tried o faults c.args.trial.wild.now c.args.trial.steps found c.args.out.now new c.requires.spellable
    c.requires.accepted c.in-Ok.ensures c.requires.room c.put_verdicts.ensures.same
    (subst (λ vs. take (length vs) new ≡ map fault_verdict vs) c.as_slice-2.ensures.value
    c.put_verdicts.ensures.written))
