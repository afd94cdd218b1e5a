use Rattle.std.proofs.Common.{min, ap, ◌∙◌, arith}
use Rattle.ft_syntax.specs.Syntax.{var, named}
use Rattle.ft_scope.specs.declared.slot.Slot.TheVariants.{Var}
use Rattle.ft_scope.specs.Held.{look}
use Rattle.ft_scope.proofs.Found.{table_push, count_push, variables_push}
use Rattle.ft_scope.proofs.names.Names.variable.Goals as goal

pub returns-clause-ok : goal.returns-clause-ok
unfolding look
returns-clause-ok c = λ ds h.
    let n = named c.args.name in
    let noted = c.in_ok-name.ensures in
    record {
      slots = table_push ds (var n) c.variable.result (look c.args.self.now) (look c.name.new.self) (c.variable.ensures
          ∙ ap (λ k. Var (min k 255)) h.vars) h.slots noted.fresh noted.noted;
      cells = omega (arith, noted.cells, h.cells, count_push ds (var n));
      vars = omega (arith, noted.vars, h.vars, variables_push ds (var n));
    }
