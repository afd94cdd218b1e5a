use Rattle.std.proofs.Common.{refl}
use Rattle.ft_isa.specs.Operations.{op_in}
use Rattle.ft_flow.specs.Fields.{number_in, pair_in}
use Rattle.ft_flow.proofs.laws.small_text_is_read.Goals as goal

pub returns-clause-read : goal.returns-clause-read
unfolding op_in number_in pair_in
returns-clause-read c = refl

pub returns-clause-refused : goal.returns-clause-refused
unfolding op_in number_in pair_in
returns-clause-refused c = refl
