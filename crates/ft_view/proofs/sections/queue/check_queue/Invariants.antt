use Rattle.std.proofs.Common.{◌≡◌, ◌+◌, ◌-◌, ◌*◌, ◌^◌, ◌≤◌, length}
use Rattle.ft_format.specs.Layout.{rows, type_layout}
use Rattle.ft_format.specs.Values.{queue_end_of}
use Rattle.ft_format.specs.Broken.{queues_broken}
use Rattle.ft_view.specs.Ends.{AreEnds}
use Rattle.ft_view.proofs.sections.queue.check_queue.Given as goal

abbrev pub invariant-loop : goal.invariant-loop
invariant-loop l = record {
  types : 16 * (l.header.types - l.counter) ≤ length l.heads;
  start : l.start ≤ l.header.queue;
  there : 8 * (l.header.queue - l.start) ≤ length l.rest;
  places : l.place + 8 * (l.header.queue - l.start) ≤ 2 ^ 27;
  ends : AreEnds queue_end_of l.header.queue l.start (rows type_layout (l.header.types - l.counter) l.heads);
  broken : queues_broken l.header l.nodes l.start l.place (rows type_layout (l.header.types - l.counter) l.heads) l.rest
      ≡ queues_broken l.header l.nodes 0 l.at (rows type_layout l.header.types l.types) l.bytes;
}
