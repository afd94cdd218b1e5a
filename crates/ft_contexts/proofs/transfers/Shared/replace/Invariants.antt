use Rattle.std.proofs.Common.{◌≡◌, ◌+◌, ◌-◌, ◌*◌, ◌≤◌, ◌++◌, slice_range, map}
use Rattle.ft_contexts.specs.Costs.{tree_cost}
use Rattle.ft_norm.specs.Held.{Keeps, AreIntegers, polynomials}
use Rattle.ft_typing.specs.Context.{rows_of, integer_form_of}
use Rattle.ft_contexts.specs.Contexts.{HoldsShared}
use Rattle.ft_contexts.proofs.transfers.Shared.replace.Given as goal

abbrev pub invariant-loop-n : goal.invariant-loop-n
invariant-loop-n g l = let o = g.P.Program.object l.program in record {
  kept : Keeps l.fn.forms l.forms;
  from : l.fn.subst.first ≤ l.n;
  steps : (g.M.Meter.counted l.meter) ≤ (g.M.Meter.counted l.fn.meter) + (l.n - l.fn.subst.first) * tree_cost o 0;
  shared : HoldsShared o l.forms l.self;
  held : AreIntegers l.forms l.self.next;
  left : polynomials l.forms l.self.next ++ map (integer_form_of o) (slice_range o.substs l.n l.fn.subst.past)
      ≡ map (integer_form_of o) (rows_of o l.fn.subst);
}
