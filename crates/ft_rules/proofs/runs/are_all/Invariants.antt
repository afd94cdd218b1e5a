use Rattle.std.proofs.Common.{◌≡◌, map, slice_range}
use Rattle.std.specs.List.{list_all}
use Rattle.ft_types.specs.Objects.{basic_of}
use Rattle.ft_typing.specs.TypedWord.{same_basic}
use Rattle.ft_rules.proofs.runs.are_all.Given as goal

abbrev pub invariant-loop-k : goal.invariant-loop-k
invariant-loop-k g l = let o = g.P.Program.object l.program in
    list_all (same_basic l.basic) (map basic_of (slice_range o.cells l.k l.past))
    ≡ list_all (same_basic l.basic) (map basic_of (slice_range o.cells l.fn.from l.past))
