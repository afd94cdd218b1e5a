use Rattle.std.proofs.Common.{◌≡◌, length, []}
use Rattle.ft_syntax.specs.Machine.{decls}
use Rattle.ft_syntax.specs.View.{from}
use Rattle.ft_syntax.specs.Syntax.{declared_list}
use Rattle.ft_syntax.proofs.parser.Parser.declarations.Given as goal

abbrev pub invariant-loop-all : goal.invariant-loop-all
invariant-loop-all l = record {
  same : l.self.opened ≡ l.fn.self.opened;
  so_far : from l.fn.self (decls []) ≡ from l.self (decls (declared_list l.all.items));
}

abbrev pub decreases-loop-all : goal.decreases-loop-all
decreases-loop-all l = length l.self.rest.now
