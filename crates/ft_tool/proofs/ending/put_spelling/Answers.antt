use Rattle.std.proofs.Common.{refl}
use Rattle.ft_tool.specs.Objects.{UpgradesObject}
use Rattle.ft_tool.proofs.Answered.{piece_concludes, piece_breaks_off}
use Rattle.ft_tool.proofs.ending.put_spelling.Goals as goal

pub returns-in-Ok : goal.returns-in-Ok
returns-in-Ok g c = λ o s.
    piece_concludes (UpgradesObject o) c.args.bytes.now c.args.bytes.now 0 _ _
    (record { bytes = c.args.bytes.now; spelled = s; answer = refl }) refl c.in-Ok.ensures

pub returns-in-Err : goal.returns-in-Err
returns-in-Err g c = λ o s.
    piece_breaks_off (UpgradesObject o) c.args.bytes.now c.args.bytes.now 0 _ _
    (record { bytes = c.args.bytes.now; spelled = s; answer = refl }) refl c.in-Err.ensures
