use Rattle.std.proofs.Common.{◌≡◌, ◌+◌, ◌-◌, ◌*◌, ◌^◌, ◌≤◌, length}
use Rattle.ft_format.specs.Layout.{rows, code_layout}
use Rattle.ft_format.specs.Broken.{instrs_broken, rows_taken}
use Rattle.ft_view.proofs.sections.instrs.check_instrs.Given as goal

abbrev pub invariant-loop : goal.invariant-loop
invariant-loop l = record {
  there : 16 * (l.header.instrs - l.counter) ≤ length l.rest;
  places : l.place + 16 * (l.header.instrs - l.counter) ≤ 2 ^ 27;
  few : l.first ≤ l.header.substs;
  broken : instrs_broken l.header l.nodes l.first l.place (rows code_layout (l.header.instrs - l.counter) l.rest)
      ≡ instrs_broken l.header l.nodes 0 l.at (rows code_layout l.header.instrs l.bytes);
  taken : rows_taken l.first (rows code_layout (l.header.instrs - l.counter) l.rest)
      ≡ rows_taken 0 (rows code_layout l.header.instrs l.bytes);
}
