use Rattle.std.proofs.Common.{◌≡◌, ◌*◌, ◌/◌, length, Some, slice_get, refl, ap, sym, ◌∙◌, arith}
use Rattle.std.proofs.lemmas.Option.{slice_get_read}
use Rattle.std.proofs.lemmas.Bool.{ltb-true}
use Rattle.ft_campaign.proofs.Racing.{meeting_there}
use Rattle.ft_campaign.proofs.struck_run.meeting.Goals as goal

pub returns-clause-some : goal.returns-clause-some
returns-clause-some c = λ o x w n clean state wild.
    let here = c.is_here.ensures.0 c.if-not-is_here.false in
    let found : slice_get c.args.clean.now.snapshots.items (c.args.s / 1024) ≡ Some c.in-Some.snapshot.now =
    ap (λ xs. slice_get xs (c.args.s / 1024)) (sym c.deref.ensures.value)
    ∙ slice_get_read c.deref.result.now (length c.deref.result.now) (c.args.s / 1024) c.in-Some.snapshot.now refl
    (ltb-true _ _ (sym c.in-Some.ensures.lookup.0)) c.in-Some.ensures.lookup.1 in
    let is : c.args.s ≡ 1024 * (c.args.s / 1024) = omega (arith, c.if-s-ne0.false) in
    meeting_there o x w c.args.s (c.args.s / 1024) c.args.machine.now c.args.left.now c.in-Some.snapshot.now is
    (clean.kept.snapshots_are (c.args.s / 1024) c.in-Some.snapshot.now found) state wild here.0 here.1
