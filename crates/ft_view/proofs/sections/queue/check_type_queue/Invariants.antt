use Rattle.std.proofs.Common.{◌≡◌, ◌+◌, ◌-◌, ◌*◌, ◌^◌, ◌≤◌, length, drop}
use Rattle.ft_format.specs.Layout.{rows, pair_layout}
use Rattle.ft_format.specs.Broken.{type_queue_broken}
use Rattle.ft_view.proofs.sections.queue.check_type_queue.Given as goal

abbrev pub invariant-loop : goal.invariant-loop
invariant-loop l = record {
  there : 8 * (l.count - l.counter) ≤ length l.rest;
  places : l.place + 8 * (l.count - l.counter) ≤ 2 ^ 27;
  rest : l.rest ≡ drop (8 * l.counter) l.bytes;
  broken : type_queue_broken l.nodes l.ints l.place (rows pair_layout (l.count - l.counter) l.rest)
      ≡ type_queue_broken l.nodes l.ints l.at (rows pair_layout l.count l.bytes);
}
