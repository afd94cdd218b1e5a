use Rattle.std.proofs.Common.{◌≡◌, ◌++◌, drop}
use Rattle.std.specs.List.{flat_map}
use Rattle.ft_encode.proofs.record.write_all.Given as goal

abbrev pub invariant-loop-item : goal.invariant-loop-item
invariant-loop-item g l = l.out.items ++ flat_map g.T.Record.bytes (drop l.item-index l.records) ≡ l.fn.out.items
    ++ flat_map g.T.Record.bytes l.records
