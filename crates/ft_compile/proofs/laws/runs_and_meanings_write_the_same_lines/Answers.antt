use Rattle.ft_compile.proofs.Written.{same_lines, done_lines, running_lines, ended_lines, cut_lines}
use Rattle.ft_compile.proofs.laws.runs_and_meanings_write_the_same_lines.Goals as goal

pub returns-clause-lines : goal.returns-clause-lines
returns-clause-lines c = same_lines

pub returns-clause-done : goal.returns-clause-done
returns-clause-done c = done_lines

pub returns-clause-running : goal.returns-clause-running
returns-clause-running c = running_lines

pub returns-clause-ended : goal.returns-clause-ended
returns-clause-ended c = ended_lines

pub returns-clause-cut : goal.returns-clause-cut
returns-clause-cut c = cut_lines
