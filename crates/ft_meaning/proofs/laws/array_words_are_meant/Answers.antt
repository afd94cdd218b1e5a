use Rattle.std.proofs.Common.{refl}
use Rattle.ft_isa.specs.Words.{apply}
use Rattle.ft_meaning.proofs.laws.array_words_are_meant.Goals as goal

pub returns-clause-out : goal.returns-clause-out
unfolding apply
returns-clause-out c = refl

pub returns-clause-work : goal.returns-clause-work
unfolding apply
returns-clause-work c = refl
