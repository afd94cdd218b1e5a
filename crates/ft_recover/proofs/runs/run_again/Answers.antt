use Rattle.std.proofs.Common.{ap, sym, ◌∙◌}
use Rattle.ft_edge.proofs.Lines.{puts_failed}
use Rattle.ft_semantics.specs.State.{State}
use Rattle.ft_tolerance.proofs.Whole.{never_detected}
use Rattle.ft_recover.proofs.runs.run_again.Goals as goal

pub returns-in_err-run_past-clause-puts : goal.returns-in_err-run_past-clause-puts
returns-in_err-run_past-clause-puts g c = puts_failed c.from_residual.result _ _ _ c.from_residual.ensures.0
    c.in_err-run_past.ensures.puts

pub unreachable-requires : goal.unreachable-requires
unreachable-requires g c =
    never_detected (g.P.Program.object c.args.program.now) c.args.wild.now c.requires.spellable c.requires.accepted
    c.args.steps
    (sym (ap (λ (s : State). s.status) c.in_ok-run_past.ensures.runs.state_is) ∙ sym c.status.ensures
    ∙ c.in-Detected.is)
