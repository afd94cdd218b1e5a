use Rattle.std.proofs.Common.{◌≡◌, ◌+◌, ◌-◌, ◌*◌, ◌^◌, ◌≤◌, length}
use Rattle.ft_format.specs.Layout.{rows, subst_layout}
use Rattle.ft_format.specs.Broken.{subst_rows_broken}
use Rattle.ft_view.proofs.sections.substs.check_rows.Given as goal

abbrev pub invariant-loop : goal.invariant-loop
invariant-loop l = record {
  there : 4 * (l.count - l.counter) ≤ length l.rest;
  places : l.place + 4 * (l.count - l.counter) ≤ 2 ^ 27;
  broken : subst_rows_broken l.nodes l.place (rows subst_layout (l.count - l.counter) l.rest)
      ≡ subst_rows_broken l.nodes l.at (rows subst_layout l.count l.bytes);
}
