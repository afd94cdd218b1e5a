-- Runs under a plan whose first outputs are left out, and how a recovery ends with them.
use Rattle.std.proofs.Common.{◌≡◌, ◌≢◌, ℕ, ◌+◌, ◌-◌, ◌^◌, ◌<◌, ◌≤◌, List, [], ◌++◌, length, Option, None, Result, refl}
use Rattle.std.proofs.Common.{ap, sym, subst, ◌∙◌, arith}
use Rattle.std.specs.Prelude.{drop}
use Rattle.std.proofs.Math.Seq.{drop-append_seam}
use Rattle.std.proofs.lemmas.List.{append-nil}
use Rattle.ft_edge.specs.Lines.{BreaksOff, Puts, end_of_puts, with_lines}
use Rattle.ft_edge.specs.Logs.{SinkLog}
use Rattle.ft_edge.proofs.Lines.{breaks_before, made_by, puts_then}
use Rattle.ft_isa.specs.declared.plan.Wild.{Wild}
use Rattle.ft_isa.specs.declared.plan.Strike.{Strike}
use Rattle.ft_isa.specs.declared.output.Output.{Output}
use Rattle.ft_types.specs.declared.object.Object.{Object}
use Rattle.ft_types.specs.Spellable.{IsSpellable}
use Rattle.ft_typing.specs.Accepted.{IsAccepted}
use Rattle.ft_semantics.specs.declared.status.Status.{Status}
use Rattle.ft_semantics.specs.declared.status.Status.TheVariants.{Running, Done, Detected}
use Rattle.ft_semantics.specs.State.{State}
use Rattle.ft_semantics.specs.Agrees.{IsPrefix, Agrees, equal, stopped}
use Rattle.ft_semantics.specs.Run.{Ran, outputs_after, status_after}
use Rattle.ft_machine.specs.declared.stepped.Pause.{Pause}
use Rattle.ft_machine.specs.declared.stepped.Pause.TheVariants as pauses
use Rattle.ft_machine.specs.Drives.{output_lines}
use Rattle.ft_machine.specs.Goes.{HasRun, goes_on}
use Rattle.ft_machine.proofs.Counting.{few_fit, run_few}
use Rattle.ft_machine.proofs.Driven.{run_whole}
use Rattle.ft_machine.proofs.Putting.{lines-append}
use Rattle.ft_semantics.proofs.Runs.{outputs_grow}
use Rattle.ft_tolerance.proofs.Masking.{tolerant}
use Rattle.ft_recover.specs.declared.recover_end.RecoverEnd.{RecoverEnd}
use Rattle.ft_recover.specs.declared.recover_end.RecoverEnd.TheVariants as ending
use Rattle.ft_recover.specs.Recovery.{whole_output, EndsAs, Restarts, put_end}
use Rattle.ft_recover.specs.Passing.{Passes, RunsTo, Finishes}
use Rattle.ft_recover.proofs.Stretches.{drop_append}

-- ONE RUN

counted_all : (now long : ℕ) → now ≡ 0 + long → now ≡ long
counted_all now long h = omega (arith, h)

module _ (o : Object) (strike : Option Strike) (w : List Wild) (s : State) (most n passed left now : ℕ)
    (old new : SinkLog) (small : most < 2 ^ 64) where
  -- if no put failed, the machine and the count of outputs are those of the run after all its steps
  pub ran_past : (pause : Pause) → ¬ (pause ≡ pauses.Refused) → HasRun o strike w s most n pause →
      Passes o passed 0 (outputs_after o strike w n) (goes_on pause) left now old new → RunsTo o strike w most s now
  ran_past pause went r h =
      let same = sym (run_whole o strike w s most n pause went r) in
      record {
        state_is = r.state_is ∙ ap (λ (x : Ran). x.state) same;
        count_is = counted_all now (length (outputs_after o strike w n))
            (h.count_is (few_fit (length (outputs_after o strike w n)) n most (run_few o strike w n) r.few small))
            ∙ ap (λ (x : Ran). length x.outputs) same;
      }

  puts_whole : (pause : Pause) → ¬ (pause ≡ pauses.Refused) → HasRun o strike w s most n pause → new
      ≡ with_lines (output_lines o (drop passed (outputs_after o strike w n))) old
      → new ≡ with_lines (output_lines o (drop passed (outputs_after o strike w most))) old
  puts_whole pause went r h = subst (λ (x : Ran). new ≡ with_lines (output_lines o (drop passed x.outputs)) old)
      (sym (run_whole o strike w s most n pause went r)) h

  pub puts_past : (pause : Pause) → ¬ (pause ≡ pauses.Refused) → HasRun o strike w s most n pause →
      Passes o passed 0 (outputs_after o strike w n) (goes_on pause) left now old new
      → new ≡ with_lines (output_lines o (drop passed (outputs_after o strike w most))) old
  puts_past pauses.Running went r h = puts_whole pauses.Running went r h.lines
  puts_past pauses.Done went r h = puts_whole pauses.Done went r h.lines
  puts_past pauses.Detected went r h = puts_whole pauses.Detected went r h.lines
  puts_past pauses.Refused went r h = absurd (went refl)

  -- if a put failed, the lines of the run's outputs, without the first ones, break off there
  pub breaks_past : (pause : Pause) → pause ≡ pauses.Refused → n ≤ most →
      Passes o passed 0 (outputs_after o strike w n) (goes_on pause) left now old new →
      BreaksOff (output_lines o (drop passed (outputs_after o strike w most))) old new
  breaks_past pause refused few h =
      let xs = outputs_after o strike w n in
      let grown = outputs_grow o strike w n most few in
      let parts = ap (drop passed) (sym grown.1) ∙ drop_append passed xs grown.0 in
      let put = subst (λ p. Passes o passed 0 xs (goes_on p) left now old new) refused h in
      subst (λ ls. BreaksOff ls old new) (sym (ap (output_lines o) parts
      ∙ lines-append o (drop passed xs) (drop (passed - length xs) grown.0)))
      (breaks_before (output_lines o (drop passed xs)) (output_lines o (drop (passed - length xs) grown.0)) old new
      put.lines)

-- BOTH RUNS

same_run : {os os' : List Output} {s s' : Status} → Agrees os s os' s' → s ≢ Detected → (os ≡ os') × (s ≡ s')
same_run (equal e f) never = (e, f)
same_run (stopped e f) never = absurd (never e)

-- runs that agree: the outputs of the first begin those of the second
pub begins : (os os' : List Output) (s s' : Status) → Agrees os s os' s' → IsPrefix os os'
begins os os' s s' (equal e f) = ([], append-nil os ∙ e)
begins os os' s s' (stopped e f) = f

module _ (o : Object) (strike : Option Strike) (w : List Wild) (n : ℕ) (spellable : IsSpellable o)
    (accepted : IsAccepted o) (old mid : SinkLog) where
  agrees : Agrees (outputs_after o strike w n) (status_after o strike w n) (outputs_after o None w n)
      (status_after o None w n)
  agrees = tolerant o strike w n spellable accepted

  -- the outputs of the struck run are a prefix of the whole output
  front : IsPrefix (outputs_after o strike w n) (outputs_after o None w n)
  front = begins (outputs_after o strike w n) (outputs_after o None w n) (status_after o strike w n)
      (status_after o None w n) agrees

  -- a run that is not detected ends as the run without a fault does
  pub same_status : status_after o strike w n ≢ Detected → status_after o strike w n ≡ status_after o None w n
  same_status never = (same_run agrees never).1

  pub same_lines : status_after o strike w n ≢ Detected → mid
      ≡ with_lines (output_lines o (outputs_after o strike w n)) old → mid ≡ with_lines (whole_output o w n) old
  same_lines never h = subst (λ xs. mid ≡ with_lines (output_lines o xs) old) (same_run agrees never).0 h

  both_lines : output_lines o (outputs_after o strike w n) ++ output_lines o front.0 ≡ whole_output o w n
  both_lines = sym (lines-append o (outputs_after o strike w n) front.0) ∙ ap (output_lines o) front.1

  -- if a put of the struck run failed, the whole output breaks off there
  pub breaks_early : BreaksOff (output_lines o (outputs_after o strike w n)) old mid →
      BreaksOff (whole_output o w n) old mid
  breaks_early h = subst (λ ls. BreaksOff ls old mid) both_lines
      (breaks_before (output_lines o (outputs_after o strike w n)) (output_lines o front.0) old mid h)

  -- together with the lines of the struck run, those of the second run are the whole output
  pub puts_again : {A E : Type 0} (r : Result A E) (committed : ℕ) (new : SinkLog) → committed
      ≡ length (outputs_after o strike w n) → mid ≡ with_lines (output_lines o (outputs_after o strike w n)) old
      → Puts (end_of_puts r) (output_lines o (drop committed (outputs_after o None w n))) mid new →
      Puts (end_of_puts r) (whole_output o w n) old new
  puts_again r committed new is a h =
      let left_over : drop committed (outputs_after o None w n) ≡ front.0
      = ap (λ c. drop c (outputs_after o None w n)) is ∙ ap (drop (length (outputs_after o strike w n))) (sym front.1)
      ∙ drop-append_seam (outputs_after o strike w n) front.0 in
      subst (λ ls. Puts (end_of_puts r) ls old new) both_lines
      (puts_then (end_of_puts r) (output_lines o (outputs_after o strike w n)) (output_lines o front.0) old mid new
      (made_by r) a
      (subst (λ xs. Puts (end_of_puts r) (output_lines o xs) mid new) left_over h))

-- HOW A RECOVERY ENDS

pub done_undetected : (s : Status) → s ≡ Done → s ≢ Detected
done_undetected s e f = let g = sym e ∙ f in cc

pub running_undetected : (s : Status) → s ≡ Running → s ≢ Detected
running_undetected s e f = let g = sym e ∙ f in cc

module _ (s : Status) (restart : Option ℕ) where
  pub finishes_as : (e : RecoverEnd) → Finishes e s restart → EndsAs e s
  finishes_as (ending.Done again) h = h.0
  finishes_as (ending.OutOfSteps again) h = h.0
  finishes_as ending.WriteFault h = tt
  finishes_as ending.NoMemory h = tt

  pub finishes_restart : (e : RecoverEnd) → Finishes e s restart → Restarts e restart
  finishes_restart (ending.Done again) h = h.1
  finishes_restart (ending.OutOfSteps again) h = h.1
  finishes_restart ending.WriteFault h = tt
  finishes_restart ending.NoMemory h = tt

  pub finishes_puts : (e : RecoverEnd) (lines : List (List ℕ)) (old new : SinkLog) → Finishes e s restart → new
      ≡ with_lines lines old → Puts (put_end e) lines old new
  finishes_puts (ending.Done again) lines old new h put = put
  finishes_puts (ending.OutOfSteps again) lines old new h put = put
  finishes_puts ending.WriteFault lines old new h put = absurd h
  finishes_puts ending.NoMemory lines old new h put = absurd h
