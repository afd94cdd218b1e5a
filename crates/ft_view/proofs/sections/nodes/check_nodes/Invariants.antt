use Rattle.std.proofs.Common.{◌≡◌, ◌+◌, ◌-◌, ◌*◌, ◌^◌, ◌≤◌, [], length, drop, map}
use Rattle.ft_format.specs.Layout.{rows, code_layout}
use Rattle.ft_format.specs.NodeRecords.{node_of}
use Rattle.ft_format.specs.Broken.{nodes_broken}
use Rattle.ft_view.proofs.sections.nodes.check_nodes.Given as goal

abbrev pub invariant-loop-i : goal.invariant-loop-i
invariant-loop-i l = record {
  there : 16 * (l.fn.count - l.i) ≤ length l.rest;
  places : l.place + 16 * (l.fn.count - l.i) ≤ 2 ^ 27;
  rest : l.rest ≡ drop (16 * l.i) l.bytes;
  broken : nodes_broken l.version (map node_of (rows code_layout l.i l.bytes)) l.place
      (rows code_layout (l.fn.count - l.i) l.rest)
      ≡ nodes_broken l.version [] l.at (rows code_layout l.fn.count l.bytes);
}
