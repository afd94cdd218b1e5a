use Rattle.std.proofs.Common.{◌-◌, ◌^◌, ap, ◌∙◌, min, arith}
use Rattle.std.specs.Prelude.{◌≡◌}
use Rattle.ft_syntax.specs.Syntax.{array, named}
use Rattle.ft_scope.specs.declared.slot.Slot.TheVariants.{Run}
use Rattle.ft_scope.specs.Scope.{cell_count}
use Rattle.ft_scope.specs.Held.{look}
use Rattle.ft_scope.proofs.Found.{table_push, count_push, variables_push}
use Rattle.ft_scope.proofs.names.Names.array.Goals as goal

pub returns-clause-ok : goal.returns-clause-ok
unfolding look
returns-clause-ok c = λ ds at w h.
    let n = named c.args.name in
    let d = array n c.args.length at w in
    let noted = c.in_ok-name.ensures in
    let first : c.narrow.result ≡ min (cell_count ds) (2 ^ 32 - 1) = omega (arith, c.narrow.ensures, h.cells) in
    record {
      slots = table_push ds d (Run c.narrow.result c.narrow-2.result) (look c.args.self.now) (look c.name.new.self)
          (ap (λ k. Run k c.narrow-2.result) first ∙ ap (Run (min (cell_count ds) (2 ^ 32 - 1))) c.narrow-2.ensures)
          h.slots noted.fresh noted.noted;
      cells = omega (arith, noted.cells, h.cells, count_push ds d);
      vars = omega (arith, noted.vars, h.vars, variables_push ds d);
    }
