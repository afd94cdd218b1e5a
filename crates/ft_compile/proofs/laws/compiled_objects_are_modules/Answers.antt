use Rattle.ft_compile.proofs.BlockWalks.{compiled_module, scheduled_module}
use Rattle.ft_compile.proofs.laws.compiled_objects_are_modules.Goals as goal

pub returns : goal.returns
returns c = record { compiled = compiled_module; scheduled = scheduled_module }
