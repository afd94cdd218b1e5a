use Rattle.ft_compile.proofs.OtherWords.{own_run}
use Rattle.ft_compile.proofs.Standing.{stands_with}
use Rattle.ft_compile.proofs.laws.all_words_stand.Goals as goal

pub returns-clause-own : goal.returns-clause-own
returns-clause-own c = own_run

pub returns-clause-all : goal.returns-clause-all
returns-clause-all c = stands_with
