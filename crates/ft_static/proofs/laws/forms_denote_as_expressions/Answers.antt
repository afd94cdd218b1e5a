use Rattle.ft_static.proofs.Denote.{same_forms, norm_denotes, same_denotes}
use Rattle.ft_static.proofs.laws.forms_denote_as_expressions.Goals as goal

pub returns : goal.returns
returns c = record { same_forms = same_forms; denotes = norm_denotes; same = same_denotes }
