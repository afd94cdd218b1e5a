use Rattle.std.proofs.Common.{length, ap, ◌∙◌, arith}
use Rattle.std.proofs.lemmas.Slice.Zip.{AllZip-long}
use Rattle.ft_campaign.proofs.campaigns.survey.Goals as goal

pub totals_of-totals-requires : goal.totals_of-totals-requires
totals_of-totals-requires g c =
    let long = AllZip-long _ c.args.faults.now c.in-Ok.verdicts.items c.in-Ok.ensures.verdicts in
    let same = ap length c.as_slice.ensures.value in
    omega (arith, long, same)

pub report-requires-clause-long : goal.report-requires-clause-long
report-requires-clause-long g c =
    let long = AllZip-long _ c.args.faults.now c.in-Ok.verdicts.items c.in-Ok.ensures.verdicts in
    ap length c.as_slice-2.ensures.value ∙ long
