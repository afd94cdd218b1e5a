use Rattle.std.proofs.Common.{refl, sym, ◌∙◌, subst}
use Rattle.ft_typing.specs.Accepted.{EntryType, CellType, Refused}
use Rattle.ft_tool.specs.Files.{IsNotAccepted}
use Rattle.ft_tool.specs.Objects.{judged}
use Rattle.std.proofs.Common.{Some}
use Rattle.ft_tool.specs.Texts.{check_line}
use Rattle.ft_tool.proofs.Answered.{piece_concludes, piece_breaks_off}
use Rattle.ft_tool.proofs.ending.refuse_check.Goals.{in-EntryType, in-CellType, in-Refused}
use Rattle.ft_tool.proofs.ending.refuse_check.Goals as goal

pub returns-in-Ok : goal.returns-in-Ok
returns-in-Ok g c =
    elim c.match-error.branch [
      | in-EntryType w ↦
          piece_concludes (IsNotAccepted c.args.error) (check_line EntryType) c.as_bytes.result.now 8 _ _
          (subst (λ e. IsNotAccepted e (judged (Some EntryType))) (sym w.in-EntryType.is) refl)
          (c.as_bytes.ensures ∙ w.line-is ∙ w.entry_line-line.ensures) c.in-Ok.ensures
      | in-CellType w ↦
          piece_concludes (IsNotAccepted c.args.error) (check_line (CellType w.in-CellType.cell)) c.as_bytes.result.now
          8 _ _
          (subst (λ e. IsNotAccepted e (judged (Some (CellType w.in-CellType.cell)))) (sym w.in-CellType.is) refl)
          (c.as_bytes.ensures ∙ w.line-is ∙ w.cell_line-line.ensures) c.in-Ok.ensures
      | in-Refused w ↦
          piece_concludes (IsNotAccepted c.args.error)
          (check_line (Refused w.in-Refused.block w.in-Refused.index w.in-Refused.why)) c.as_bytes.result.now 8 _ _
          (subst (λ e. IsNotAccepted e (judged (Some (Refused w.in-Refused.block w.in-Refused.index w.in-Refused.why))))
          (sym w.in-Refused.is) refl)
          (c.as_bytes.ensures ∙ w.line-is ∙ w.place_line-line.ensures) c.in-Ok.ensures
    ]

pub returns-in-Err : goal.returns-in-Err
returns-in-Err g c =
    elim c.match-error.branch [
      | in-EntryType w ↦
          piece_breaks_off (IsNotAccepted c.args.error) (check_line EntryType) c.as_bytes.result.now 8 _ _
          (subst (λ e. IsNotAccepted e (judged (Some EntryType))) (sym w.in-EntryType.is) refl)
          (c.as_bytes.ensures ∙ w.line-is ∙ w.entry_line-line.ensures) c.in-Err.ensures
      | in-CellType w ↦
          piece_breaks_off (IsNotAccepted c.args.error) (check_line (CellType w.in-CellType.cell)) c.as_bytes.result.now
          8 _ _
          (subst (λ e. IsNotAccepted e (judged (Some (CellType w.in-CellType.cell)))) (sym w.in-CellType.is) refl)
          (c.as_bytes.ensures ∙ w.line-is ∙ w.cell_line-line.ensures) c.in-Err.ensures
      | in-Refused w ↦
          piece_breaks_off (IsNotAccepted c.args.error)
          (check_line (Refused w.in-Refused.block w.in-Refused.index w.in-Refused.why)) c.as_bytes.result.now 8 _ _
          (subst (λ e. IsNotAccepted e (judged (Some (Refused w.in-Refused.block w.in-Refused.index w.in-Refused.why))))
          (sym w.in-Refused.is) refl)
          (c.as_bytes.ensures ∙ w.line-is ∙ w.place_line-line.ensures) c.in-Err.ensures
    ]
