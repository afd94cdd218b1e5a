use Rattle.std.proofs.Common.{◌≤◌, length, arith}
use Rattle.ft_linker.proofs.Joining.{join_next, all_joined}
use Rattle.ft_linker.proofs.joins.joined.Goals as goal

pub loop-n-preserved : goal.loop-n-preserved
loop-n-preserved c = join_next c.args.linkage.now c.loop-n.joins.items c.push_join.new.joins.items c.loop-n.n
    c.at-import.result.now c.at-import.ensures c.loop-n.invariant c.in_ok-push_join.ensures

pub returns : goal.returns
returns c =
    let all : length c.args.linkage.now.imports ≤ c.loop-n.n = omega (
      arith,
      c.len-n-end.ensures,
      c.loop-n-test.false,
    ) in
    all_joined c.args.linkage.now c.loop-n.joins.items c.loop-n.n c.loop-n.invariant all
