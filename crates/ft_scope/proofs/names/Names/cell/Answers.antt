use Rattle.std.proofs.Common.{◌-◌, ◌^◌, ap, min, arith}
use Rattle.std.specs.Prelude.{◌≡◌}
use Rattle.ft_syntax.specs.Syntax.{cell, named}
use Rattle.ft_scope.specs.declared.slot.Slot.TheVariants.{Cell}
use Rattle.ft_scope.specs.Scope.{cell_count}
use Rattle.ft_scope.specs.Held.{look}
use Rattle.ft_scope.proofs.Found.{table_push, count_push, variables_push}
use Rattle.ft_scope.proofs.names.Names.cell.Goals as goal

pub returns-clause-ok : goal.returns-clause-ok
unfolding look
returns-clause-ok c = λ ds w h.
    let n = named c.args.name in
    let noted = c.in_ok-name.ensures in
    let number : c.narrow.result ≡ min (cell_count ds) (2 ^ 32 - 1) = omega (arith, c.narrow.ensures, h.cells) in
    record {
      slots = table_push ds (cell n w) (Cell c.narrow.result) (look c.args.self.now) (look c.name.new.self)
          (ap Cell number) h.slots noted.fresh noted.noted;
      cells = omega (arith, noted.cells, h.cells, count_push ds (cell n w));
      vars = omega (arith, noted.vars, h.vars, variables_push ds (cell n w));
    }
