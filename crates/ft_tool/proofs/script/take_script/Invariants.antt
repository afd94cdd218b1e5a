use Rattle.std.proofs.Common.{◌≡◌, ◌-◌, ◌≤◌, length}
use Rattle.std.specs.Io.KnownBytes.{Consumes}
use Rattle.ft_tool.proofs.Frugal.{GaveSome}
use Rattle.ft_tool.proofs.Begun.{HasRead}
use Rattle.ft_tool.proofs.script.take_script.Given as goal

abbrev pub invariant-loop-piece : goal.invariant-loop-piece
invariant-loop-piece g l = record {
  taken : Consumes (g.I.Source.log l.fn.script).left (g.I.Source.log l.script).left l.text.items;
  within : length l.text.items ≤ 1048577;
  gave : GaveSome (g.I.Source.log l.fn.script).takes (g.I.Source.log l.script).takes (length l.text.items);
  read : HasRead (g.I.Source.heard l.fn.script) (g.I.Source.heard l.script) l.text.items;
  count : (g.I.Source.log l.script).failures ≡ (g.I.Source.log l.fn.script).failures;
}

abbrev pub decreases-loop-piece : goal.decreases-loop-piece
decreases-loop-piece g l = 1048577 - length l.text.items
