use Rattle.std.proofs.Common.{refl, arith}
use Rattle.ft_demo.proofs.Outputs.{tally_whole}
use Rattle.ft_demo.proofs.tally.tally_run.Goals as goal

pub returns : goal.returns
returns g c =
    let gone = c.run_clean in
    tally_whole c.args.start.object (record { count = 0; last = 0 }) gone.new.outlet gone.result.taken 131072
    gone.result.pause refl refl (omega arith) gone.ensures.whole gone.ensures.heard.0 gone.ensures.heard.1
