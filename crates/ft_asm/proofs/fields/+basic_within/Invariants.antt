use Rattle.ft_asm.proofs.fields.+basic_within.Given as goal

abbrev pub decreases-basic_within : goal.decreases-basic_within
decreases-basic_within l = l.room
