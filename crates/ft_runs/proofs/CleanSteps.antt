-- A step of a run without a fault.
use Rattle.std.proofs.Common.{◌≡◌, ◌≢◌, ◌+◌, List, Option, Some, None, refl, sym, ap, ◌∙◌}
use Rattle.ft_isa.specs.declared.plan.Wild.{Wild}
use Rattle.ft_isa.specs.declared.output.Output.{Output}
use Rattle.ft_semantics.specs.declared.status.Status.{Status}
use Rattle.ft_semantics.specs.declared.status.Status.TheVariants as status
use Rattle.ft_semantics.specs.State.{State}
use Rattle.ft_semantics.specs.Step.{Stepping, step}
use Rattle.ft_semantics.specs.Run.{Ran, run-add_one, state_after, wild_after}
use Rattle.ft_machine.specs.declared.stepped.Stepped.TheVariants.{Detected}
use Rattle.ft_machine.specs.Answers.{told, told_output}
use Rattle.ft_runs.specs.Runs.{CleanRun, IsClean}
use Rattle.ft_tolerance.proofs.Whole.{accepted_fits}
use Rattle.ft_tolerance.proofs.AnyAnswers.{AreSame, step_same}

-- the step is the same whatever answers are left
pub clean_same : (r : CleanRun) (s : State) (w u v : List Wild) → IsClean r s →
    AreSame (step r.object s u) (step r.object (state_after r.object None w r.taken) v)
clean_same r s w u v h =
    let there = state_after r.object None w r.taken in
    let same = step_same r.object there.status there u v refl
    (accepted_fits r.object w r.taken h.spellable h.accepted).untroubled in
    record {
      state = ap (λ x. (step r.object x u).state) (h.state w) ∙ same.state;
      output = ap (λ x. (step r.object x u).output) (h.state w) ∙ same.output;
    }

-- after one more step, the machine is still that of this run
pub clean_next : (r : CleanRun) (s t : State) (v : List Wild) → IsClean r s → t ≡ (step r.object s v).state →
    IsClean (record r { taken = r.taken + 1 }) t
clean_next r s t v h e = record {
  spellable = h.spellable;
  accepted = h.accepted;
  state = λ w. e ∙ (clean_same r s w v (wild_after r.object None w r.taken) h).state
      ∙ sym (ap (λ (x : Ran). x.state) (run-add_one r.object None w r.taken));
}

pub told_same : (x y : Stepping) → AreSame x y → told x ≡ told y
told_same x y h = ap (λ e. told_output e x.state.status) h.output
    ∙ ap (λ (t : State). told_output y.output t.status) h.state

told_detected : (x : Option Output) (s : Status) → told_output x s ≡ Detected → s ≡ status.Detected
told_detected (Some e) s h = absurd (cc)
told_detected None status.Running h = absurd (cc)
told_detected None status.Done h = absurd (cc)
told_detected None status.Detected h = refl

-- no step of the run detects a fault
pub clean_undetected : (r : CleanRun) (s : State) (v : List Wild) → IsClean r s → told (step r.object s v) ≢ Detected
clean_undetected r s v h e =
    let next = clean_next r s (step r.object s v).state v h refl in
    let found = told_detected (step r.object s v).output (step r.object s v).state.status e in
    (accepted_fits r.object v (r.taken + 1) h.spellable h.accepted).undetected
    (sym (ap (λ (t : State). t.status) (next.state v)) ∙ found)
