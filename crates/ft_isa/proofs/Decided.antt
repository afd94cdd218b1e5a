-- The derived equality tests on colours and on operations are exact.
use Rattle.std.proofs.Common.{◌≡◌, Decides}
use denote.Enum.Bare.{sameb, same_true, true_same}
use Rattle.ft_isa.specs.contracts.colour.Colour as the_colour
use Rattle.ft_isa.specs.contracts.op.Op as the_op
use Rattle.ft_isa.specs.declared.colour.Colour.{Colour}
use Rattle.ft_isa.specs.declared.op.Op.{Op}

-- the test says that two colours are equal exactly when they are
pub colour_decides : (a b : Colour) → Decides (sameb the_colour.the_type a b) (a ≡ b)
colour_decides a b = (same_true the_colour.the_type tt a b, true_same the_colour.the_type a b)

-- the test says that two operations are equal exactly when they are
pub op_decides : (a b : Op) → Decides (sameb the_op.the_type a b) (a ≡ b)
op_decides a b = (same_true the_op.the_type tt a b, true_same the_op.the_type a b)
