use Rattle.ft_dup.proofs.WellFormedBlocks.{shape_of_well}
use Rattle.ft_dup.proofs.laws.well_flows_have_the_shape.Goals as goal

pub returns : goal.returns
returns c = shape_of_well
