use Rattle.std.proofs.Common.{◌≡◌, ap, sym, ◌∙◌}
use Rattle.ft_edge.proofs.Lines.{puts_failed}
use Rattle.ft_semantics.specs.declared.status.Status.TheVariants.{Running, Done}
use Rattle.ft_semantics.specs.State.{State}
use Rattle.ft_semantics.specs.Run.{outputs_after, status_after}
use Rattle.ft_recover.specs.Recovery.{count_at}
use Rattle.ft_recover.proofs.Restarts.{same_status, same_lines, breaks_early, puts_again, done_undetected}
use Rattle.ft_recover.proofs.Restarts.{running_undetected}
use Rattle.ft_recover.proofs.runs.run_both.Goals as goal

pub returns-in_err-committed-clause-puts : goal.returns-in_err-committed-clause-puts
returns-in_err-committed-clause-puts g c =
    let o = g.P.Program.object c.args.program.now in
    puts_failed c.from_residual.result _ _ _ c.from_residual.ensures.0
    (breaks_early o c.args.plan.strike c.args.plan.wild.now c.args.steps c.requires.spellable c.requires.accepted
    (g.K.Sink.log c.args.out.now) (g.K.Sink.log c.run_past.new.out) c.in_err-committed.ensures.puts)

pub returns-in-Done-clause-ends : goal.returns-in-Done-clause-ends
returns-in-Done-clause-ends g c =
    let o = g.P.Program.object c.args.program.now in
    let strike = c.args.plan.strike in
    let w = c.args.plan.wild.now in
    let n = c.args.steps in
    let status : status_after o strike w n ≡ Done =
    sym (ap (λ (s : State). s.status) c.in_ok-committed.ensures.runs.state_is) ∙ sym c.status.ensures
    ∙ c.in-Done.is in (
      sym (same_status o strike w n c.requires.spellable c.requires.accepted (g.K.Sink.log c.args.out.now)
          (g.K.Sink.log c.run_past.new.out) (done_undetected _ status)) ∙ status,
      sym (ap (λ s. count_at s (outputs_after o strike w n)) status),
    )

pub returns-in-Done-clause-puts : goal.returns-in-Done-clause-puts
returns-in-Done-clause-puts g c =
    let o = g.P.Program.object c.args.program.now in
    let strike = c.args.plan.strike in
    let w = c.args.plan.wild.now in
    let n = c.args.steps in
    let status : status_after o strike w n ≡ Done =
    sym (ap (λ (s : State). s.status) c.in_ok-committed.ensures.runs.state_is) ∙ sym c.status.ensures
    ∙ c.in-Done.is in
    same_lines o strike w n c.requires.spellable c.requires.accepted (g.K.Sink.log c.args.out.now)
    (g.K.Sink.log c.run_past.new.out) (done_undetected _ status) c.in_ok-committed.ensures.puts

pub returns-in-Running-clause-ends : goal.returns-in-Running-clause-ends
returns-in-Running-clause-ends g c =
    let o = g.P.Program.object c.args.program.now in
    let strike = c.args.plan.strike in
    let w = c.args.plan.wild.now in
    let n = c.args.steps in
    let status : status_after o strike w n ≡ Running =
    sym (ap (λ (s : State). s.status) c.in_ok-committed.ensures.runs.state_is) ∙ sym c.status.ensures
    ∙ c.in-Running.is in (
      sym (same_status o strike w n c.requires.spellable c.requires.accepted (g.K.Sink.log c.args.out.now)
          (g.K.Sink.log c.run_past.new.out) (running_undetected _ status)) ∙ status,
      sym (ap (λ s. count_at s (outputs_after o strike w n)) status),
    )

pub returns-in-Running-clause-puts : goal.returns-in-Running-clause-puts
returns-in-Running-clause-puts g c =
    let o = g.P.Program.object c.args.program.now in
    let strike = c.args.plan.strike in
    let w = c.args.plan.wild.now in
    let n = c.args.steps in
    let status : status_after o strike w n ≡ Running =
    sym (ap (λ (s : State). s.status) c.in_ok-committed.ensures.runs.state_is) ∙ sym c.status.ensures
    ∙ c.in-Running.is in
    same_lines o strike w n c.requires.spellable c.requires.accepted (g.K.Sink.log c.args.out.now)
    (g.K.Sink.log c.run_past.new.out) (running_undetected _ status) c.in_ok-committed.ensures.puts

pub returns-in-Detected-clause-puts : goal.returns-in-Detected-clause-puts
returns-in-Detected-clause-puts g c =
    let o = g.P.Program.object c.args.program.now in
    puts_again o c.args.plan.strike c.args.plan.wild.now c.args.steps c.requires.spellable c.requires.accepted
    (g.K.Sink.log c.args.out.now) (g.K.Sink.log c.run_past.new.out)
    c.run_again.result c.in_ok-committed.committed (g.K.Sink.log c.run_again.new.out)
    c.in_ok-committed.ensures.runs.count_is c.in_ok-committed.ensures.puts c.run_again.ensures.puts
