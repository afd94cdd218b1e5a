use Rattle.ft_lexer.proofs.TokenPlaces.{placed}
use Rattle.ft_lexer.proofs.laws.places_rise.Goals as goal

pub returns : goal.returns
returns c = placed
