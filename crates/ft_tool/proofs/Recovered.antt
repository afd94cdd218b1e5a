-- How a recovery ends.
use Rattle.std.proofs.Common.{◌≡◌, ℕ, List, [], ◌∷◌, ◌++◌, Option, None, refl, sym, ap, ◌∙◌, subst}
use Rattle.ft_edge.specs.Lines.{with_lines, Puts, BreaksOff as LinesBreakOff}
use Rattle.ft_edge.specs.Logs.{SinkLog}
use Rattle.ft_edge.proofs.Lines.{lines_none, lines_then, breaks_then, breaks_before}
use Rattle.ft_isa.specs.declared.plan.Wild.{Wild}
use Rattle.ft_types.specs.declared.object.Object.{Object}
use Rattle.ft_types.specs.Spellable.{IsSpellable}
use Rattle.ft_semantics.specs.declared.status.Status.{Status}
use Rattle.ft_semantics.specs.declared.status.Status.TheVariants as machine
use Rattle.ft_semantics.specs.Run.{status_after}
use Rattle.ft_typing.specs.Accepted.{refusal}
use Rattle.ft_recover.specs.declared.recover_end.RecoverEnd.{RecoverEnd}
use Rattle.ft_recover.specs.declared.recover_end.RecoverEnd.TheVariants as recoveries
use Rattle.ft_recover.specs.Recovery.{EndsAs, Restarts, put_end, restart_output, whole_output}
use Rattle.ft_command.specs.Commands.{Run}
use Rattle.ft_tool.specs.Replies.{status_of_run}
use Rattle.ft_tool.specs.Answers.{RecoversUnless, RecoversObject, recovered, again_lines, Concludes, BreaksOff}
use Rattle.ft_tool.specs.Endings.{Ends, again_of, ending_of_recovery}
use Rattle.ft_tool.proofs.Answered.{undetected}

-- if there are no lines to write, no put fails
nothing_breaks : (old new : SinkLog) → LinesBreakOff [] old new → ⊥
nothing_breaks old new h = no_break h.done h.line h.rest h.whole
  where
    no_break : (done : List (List ℕ)) (line : List ℕ) (rest : List (List ℕ)) → [] ≡ done ++ line ∷ rest → ⊥
    no_break [] line rest h = absurd (cc)
    no_break (x ∷ xs) line rest h = absurd (cc)

module _ (r : Run) (o : Object) (w : List Wild) (old mid new : SinkLog) (spelled : IsSpellable o)
    (unrefused : refusal o ≡ None) (is : w ≡ r.wild) where
  recovers : RecoversObject r o (recovered r o)
  recovers = subst (λ y. RecoversUnless y r o (recovered r o)) (sym unrefused) (
    refl,
    undetected o r.wild spelled unrefused,
  )

  -- if the put of one of the output lines failed, the answer was written up to that line
  recovery_breaks : LinesBreakOff (whole_output o w r.steps) old mid → BreaksOff (RecoversObject r o) old mid
  recovery_breaks h = record {
    answer = recovered r o;
    is = recovers;
    broken = breaks_before (whole_output o r.wild r.steps) (again_lines (restart_output o r.strike r.wild r.steps)) old
        mid (subst (λ v. LinesBreakOff (whole_output o v r.steps) old mid) is h);
  }

  module _ (again : Option ℕ) (restart : again ≡ restart_output o r.strike w r.steps)
      (put : mid ≡ with_lines (whole_output o w r.steps) old) where
    restart_there : again ≡ restart_output o r.strike r.wild r.steps
    restart_there = restart ∙ ap (λ v. restart_output o r.strike v r.steps) is

    put_there : mid ≡ with_lines (whole_output o r.wild r.steps) old
    put_there = put ∙ ap (λ v. with_lines (whole_output o v r.steps) old) is

    -- if the output lines and the restart's line, if any, were written, so was the answer
    recovery_concludes : (s : Status) → status_after o None w r.steps ≡ s → new ≡ with_lines (again_lines again) mid
        → Concludes (RecoversObject r o) (status_of_run s) old new
    recovery_concludes s status h = record {
      answer = recovered r o;
      is = recovers;
      put = lines_then (whole_output o r.wild r.steps) (again_lines (restart_output o r.strike r.wild r.steps)) old mid
          new put_there (h ∙ ap (λ n. with_lines (again_lines n) mid) restart_there);
      status_is = ap status_of_run (sym (subst (λ v. status_after o None v r.steps ≡ s) is status));
    }

    -- if the put of the restart's line failed, the answer was written up to that line
    restart_breaks : LinesBreakOff (again_lines again) mid new → BreaksOff (RecoversObject r o) old new
    restart_breaks h = record {
      answer = recovered r o;
      is = recovers;
      broken = breaks_then (whole_output o r.wild r.steps) (again_lines (restart_output o r.strike r.wild r.steps)) old
          mid new put_there (subst (λ n. LinesBreakOff (again_lines n) mid new) restart_there h);
    }

  -- how `recover` ends, given how the recovery ended, if the put of the restart's line did not fail
  pub recovery_ends : (e : RecoverEnd) → EndsAs e (status_after o None w r.steps)
      → Restarts e (restart_output o r.strike w r.steps)
      → Puts (put_end e) (whole_output o w r.steps) old mid → new ≡ with_lines (again_lines (again_of e)) mid
      → Ends (ending_of_recovery e) (RecoversObject r o) old new ⊥
  recovery_ends (recoveries.Done again) status restart put more =
      recovery_concludes again restart put machine.Done status more
  recovery_ends (recoveries.OutOfSteps again) status restart put more =
      recovery_concludes again restart put machine.Running status more
  recovery_ends recoveries.WriteFault status restart put more =
      subst (λ x. BreaksOff (RecoversObject r o) old x) (lines_none mid ∙ sym more) (recovery_breaks put)
  recovery_ends recoveries.NoMemory status restart put more = more ∙ sym (lines_none mid) ∙ put

  -- if the put of the restart's line failed after a recovery, the answer was written up to that line
  pub recovery_breaks_late : (e : RecoverEnd) → Restarts e (restart_output o r.strike w r.steps)
      → Puts (put_end e) (whole_output o w r.steps) old mid → LinesBreakOff (again_lines (again_of e)) mid new
      → BreaksOff (RecoversObject r o) old new
  recovery_breaks_late (recoveries.Done again) restart put more = restart_breaks again restart put more
  recovery_breaks_late (recoveries.OutOfSteps again) restart put more = restart_breaks again restart put more
  recovery_breaks_late recoveries.WriteFault restart put more = absurd (nothing_breaks mid new more)
  recovery_breaks_late recoveries.NoMemory restart put more = absurd (nothing_breaks mid new more)
