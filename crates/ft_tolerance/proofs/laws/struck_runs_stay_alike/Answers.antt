use Rattle.ft_tolerance.proofs.Masking.{stays_alike, alike_later}
use Rattle.ft_tolerance.proofs.laws.struck_runs_stay_alike.Goals as goal

pub returns : goal.returns
returns c = record { from_strike = stays_alike; later = alike_later }
