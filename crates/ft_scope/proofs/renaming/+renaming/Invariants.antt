use Rattle.std.proofs.Common.{◌≡◌, ◌++◌, None, Ok, ℕ}
use Rattle.std.specs.Vec.Iter.{into_iter_items}
use Rattle.ft_syntax.specs.Plain.{plain_list}
use Rattle.ft_syntax.specs.Syntax.{named}
use Rattle.ft_syntax.specs.Size.{statement_nodes}
use Rattle.ft_scope.specs.Scope.{renamed, first_of, misused}
use Rattle.ft_scope.specs.Size.{same_slot, StatementsFit}
use Rattle.ft_scope.specs.Held.{look}
use Rattle.ft_scope.specs.Renames.{AllFit}
use Rattle.ft_scope.proofs.renaming.+renaming.Given as goal

abbrev pub invariant-rename_statements-loop-s : goal.invariant-rename_statements-loop-s
invariant-rename_statements-loop-s l = record {
  so_far : renamed (look l.names) (plain_list named l.yielded) ≡ Ok (plain_list same_slot l.out.items);
  fits : (c v : ℕ) → AllFit (look l.names) c v → misused (look l.names) (plain_list named l.yielded) ≡ None →
      StatementsFit c v (plain_list same_slot l.out.items);
  misuse : l.misuse ≡ first_of l.fn.misuse (misused (look l.names) (plain_list named l.yielded));
  nodes : statement_nodes (plain_list same_slot l.out.items) ≡ statement_nodes (plain_list named l.yielded);
  whole : l.yielded ++ into_iter_items l.s-iterator ≡ l.fn.all.items;
}
