use Rattle.std.proofs.Common.{refl, sym, ap}
use Rattle.ft_tool.specs.Texts.{accepted_line}
use Rattle.ft_tool.specs.Objects.{judged}
use Rattle.ft_tool.specs.Answers.{ChecksObject}
use Rattle.ft_tool.proofs.Answered.{piece_concludes}
use Rattle.ft_tool.proofs.check.check_object.Goals as goal

pub returns-in-Ok-put_line : goal.returns-in-Ok-put_line
returns-in-Ok-put_line g c =
    piece_concludes (ChecksObject (g.P.Program.object c.args.program.now)) accepted_line accepted_line 0 _ _
    (ap judged (sym c.in-Ok.ensures.judged)) refl c.in-Ok-put_line.ensures
