use Rattle.std.proofs.Common.{arith}
use Rattle.std.proofs.lemmas.List.{length-drop}
use Rattle.ft_view.proofs.tables.judge_names.Goals as goal

pub check_names-requires-clause-there : goal.check_names-requires-clause-there
check_names-requires-clause-there c = rw c.part-records.ensures (omega (
  arith,
  length-drop 48 c.args.bytes.now,
  c.requires.whole.whole,
))
