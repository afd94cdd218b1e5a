use Rattle.std.proofs.Common.{◌≡◌, ◌+◌, ◌-◌, ◌*◌, ◌^◌, ◌≤◌, length}
use Rattle.ft_format.specs.Layout.{rows, type_layout}
use Rattle.ft_format.specs.Broken.{types_broken}
use Rattle.ft_view.proofs.code_type.check_types.Given as goal

abbrev pub invariant-loop : goal.invariant-loop
invariant-loop l = record {
  there : 16 * (l.header.types - l.counter) ≤ length l.rest;
  places : l.place + 16 * (l.header.types - l.counter) ≤ 2 ^ 27;
  queue : l.queue ≤ l.header.queue;
  broken : types_broken l.header l.nodes l.regs l.queue l.place (rows type_layout (l.header.types - l.counter) l.rest)
      ≡ types_broken l.header l.nodes 0 0 l.at (rows type_layout l.header.types l.bytes);
}
