use Rattle.std.proofs.Common.{◌≡◌, slice_range, nat_le}
use Rattle.std.specs.List.{list_all}
use Rattle.ft_types.specs.Objects.{scope_of}
use Rattle.ft_typing.specs.Context.{rows_of}
use Rattle.ft_contexts.proofs.likeness.are_within.Given as goal

abbrev pub invariant-loop-n : goal.invariant-loop-n
invariant-loop-n g l = let o = g.P.Program.object l.program in
    list_all (λ n. nat_le (scope_of o n) l.ints) (slice_range o.substs l.n l.fn.subst.past)
    ≡ list_all (λ n. nat_le (scope_of o n) l.ints) (rows_of o l.fn.subst)
