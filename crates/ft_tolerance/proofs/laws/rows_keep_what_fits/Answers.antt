use Rattle.ft_tolerance.proofs.AcceptedSteps.{keeps}
use Rattle.ft_tolerance.proofs.laws.rows_keep_what_fits.Goals as goal

pub returns : goal.returns
returns c o p s w spelled acc at go fits = keeps o p s w spelled acc at go fits
