use Rattle.ft_syntax.specs.View.{lexemes}
use Rattle.ft_syntax.proofs.Judged.{all_ok, all_err}
use Rattle.ft_syntax.proofs.declarations.parse_tokens.Goals as goal

pub returns-clause-ok : goal.returns-clause-ok
returns-clause-ok c = all_ok (lexemes c.args.tokens.now) c.args.end c.program.result c.program.ensures.ok

pub returns-clause-err : goal.returns-clause-err
returns-clause-err c = all_err (lexemes c.args.tokens.now) c.args.end c.program.result c.program.ensures.err
