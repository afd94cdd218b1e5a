use Rattle.ft_typing.proofs.TypedWords.{has_type_decides, is_seen_as_decides}
use Rattle.ft_typing.proofs.Runs.{run_type_is}
use Rattle.ft_typing.proofs.laws.types_are_tested.Goals as goal

pub returns : goal.returns
returns c = record { words = has_type_decides; seen = is_seen_as_decides; runs = run_type_is }
