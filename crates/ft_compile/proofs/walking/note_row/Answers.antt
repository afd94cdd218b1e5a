-- The next step is the first of those that are left.
use Rattle.ft_lower.specs.declared.step3.Step3.TheVariants.{Put}
use Rattle.ft_compile.proofs.Turns.{row_turn}
use Rattle.ft_compile.specs.Viewed.{noted_of}
use Rattle.ft_compile.proofs.walking.note_row.Goals as goal

pub loop-step-preserved : goal.loop-step-preserved
loop-step-preserved c =
    let t = row_turn c.args.vars c.args.scope (noted_of c.loop-step.notes) (noted_of c.note_step.new.notes) _
    c.args.steps.now c.loop-step.step-index (Put 0 0) c.requires.vars c.loop-step-test.true c.in_ok-note_step.ensures
    c.loop-step.invariant.left c.loop-step.invariant.room in
    record { left = t.0; room = t.1 }
