use Rattle.std.proofs.Common.{◌≡◌, ◌+◌, ◌-◌, ◌*◌, ◌^◌, ◌≤◌, length, None}
use Rattle.ft_format.specs.Layout.{rows, pair_layout}
use Rattle.ft_format.specs.Broken.{blocks_broken}
use Rattle.ft_view.proofs.sections.blocks.check_blocks.Given as goal

abbrev pub invariant-loop : goal.invariant-loop
invariant-loop l = record {
  there : 8 * (l.header.blocks - l.counter) ≤ length l.rest;
  places : l.place + 8 * (l.header.blocks - l.counter) ≤ 2 ^ 27;
  broken : blocks_broken l.header l.previous l.place (rows pair_layout (l.header.blocks - l.counter) l.rest)
      ≡ blocks_broken l.header None l.at (rows pair_layout l.header.blocks l.bytes);
}
