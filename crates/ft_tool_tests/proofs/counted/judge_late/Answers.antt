use Rattle.std.proofs.Common.{◌≡◌, ◌*◌, ◌-◌, ◌/◌, refl, ap, arith}
use Rattle.ft_campaign.specs.Snapshots.{first, upto, last}
use Rattle.ft_tool_tests.proofs.counted.judge_late.Goals as goal

pub returns : goal.returns
returns g c =
    let snapshot : 1024 * (c.args.fault.step / 1024) ≡ 98304 = ap (λ s. 1024 * (s / 1024)) c.requires in
    let cost = c.campaign.ensures.cost (λ x. 100000 - first x) (λ x. upto 100000 (last refl) refl) in
    omega (arith, snapshot, cost)
