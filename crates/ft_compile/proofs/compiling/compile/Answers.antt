-- A text is refused if its tree is; and the cells of a program have valid names.
use Rattle.std.proofs.Common.{inr}
use Rattle.ft_syntax.specs.TreeOf.{tree_of}
use Rattle.ft_scope.specs.ProgramOf.{program_of}
use Rattle.ft_compile.proofs.Names.{program_cells}
use Rattle.ft_compile.proofs.compiling.compile.Goals as goal

pub returns-in-Err-resolve-clause-err : goal.returns-in-Err-resolve-clause-err
returns-in-Err-resolve-clause-err c = λ named. inr (
  tree_of c.in-Ok.tree,
  c.in-Ok.ensures.ok,
  c.in-Err-resolve.ensures.err named,
)

pub compile_program-requires : goal.compile_program-requires
compile_program-requires c = program_cells c.args.text.now (program_of c.in-Ok-resolve.program) (
  tree_of c.in-Ok.tree,
  c.in-Ok.ensures.ok,
  c.in-Ok-resolve.ensures.ok,
)
