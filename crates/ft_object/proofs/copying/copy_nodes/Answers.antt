use Rattle.std.proofs.Common.{arith}
use Rattle.ft_format.specs.Broken.{object_of}
use Rattle.ft_object.proofs.Copied.{copied_more, copied_all}
use Rattle.ft_object.proofs.copying.copy_nodes.Goals as goal

pub loop-i-preserved : goal.loop-i-preserved
loop-i-preserved c = rw c.in_ok-push.ensures.ok (record {
  items =
      copied_more (object_of c.args.view.now).nodes _ c.loop-i.i _ c.node.ensures c.loop-i.invariant.items;
})

pub returns-clause-copied : goal.returns-clause-copied
returns-clause-copied c = copied_all (object_of c.args.view.now).nodes _ c.loop-i.i (omega arith)
    c.loop-i.invariant.items
