use Rattle.std.proofs.Common.{◌≡◌, ◌+◌, ◌-◌, ◌*◌, ◌^◌, ◌≤◌, length, drop}
use Rattle.ft_format.specs.Layout.{rows, reg_layout}
use Rattle.ft_format.specs.Broken.{type_regs_broken}
use Rattle.ft_view.proofs.sections.regs.check_type_regs.Given as goal

abbrev pub invariant-loop : goal.invariant-loop
invariant-loop l = record {
  there : 12 * (l.count - l.counter) ≤ length l.rest;
  places : l.place + 12 * (l.count - l.counter) ≤ 2 ^ 27;
  least : l.least ≤ 64;
  rest : l.rest ≡ drop (12 * l.counter) l.bytes;
  broken : type_regs_broken l.types l.nodes l.ints l.least l.place (rows reg_layout (l.count - l.counter) l.rest)
      ≡ type_regs_broken l.types l.nodes l.ints 0 l.at (rows reg_layout l.count l.bytes);
}
