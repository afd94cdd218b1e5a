use Rattle.ft_compile.proofs.Names.{program_cells}
use Rattle.ft_compile.proofs.laws.programs_have_cells.Goals as goal

pub returns : goal.returns
returns c = program_cells
