-- Runs under a plan whose outputs are written as lines.
use Rattle.std.proofs.Common.{◌≡◌, ℕ, ◌+◌, ◌<◌, ◌≤◌, List, ◌++◌, Option, true, refl, ap, sym, subst, ◌∙◌, arith}
use Rattle.ft_edge.specs.Told.{append_told}
use Rattle.ft_edge.specs.Lines.{BreaksOff, Puts, with_lines}
use Rattle.ft_edge.specs.Logs.{SinkLog}
use Rattle.ft_edge.proofs.Lines.{breaks_before}
use Rattle.ft_isa.specs.declared.plan.Strike.{Strike}
use Rattle.ft_isa.specs.declared.plan.Wild.{Wild}
use Rattle.ft_types.specs.declared.object.Object.{Object}
use Rattle.ft_semantics.specs.State.{State, start}
use Rattle.ft_semantics.specs.Run.{Ran, run, status_after, outputs_after}
use Rattle.ft_semantics.specs.Strike.{struck_before}
use Rattle.ft_machine.specs.declared.outlet.Outlet.{Ghosts}
use Rattle.ft_machine.specs.declared.stepped.Pause.{Pause}
use Rattle.ft_machine.specs.declared.stepped.Pause.TheVariants.{Running, Done, Detected, Refused}
use Rattle.ft_machine.specs.Drives.{EndsAs, HasTaken, PutsOutputs, Stops, output_lines, put_end, run_end}
use Rattle.ft_machine.specs.Goes.{Goes, HasRun, goes_on}
use Rattle.ft_machine.specs.Spans.{span, Spares}
use Rattle.ft_machine.proofs.Going.{last_as, last_after}
use Rattle.ft_machine.proofs.Putting.{lines-append}
use Rattle.ft_semantics.proofs.Runs.{HasStopped, run_stays, outputs_grow}
use Rattle.ft_machine.proofs.Spanned.{run_first, run_second, outputs_second}

sooner : (j n before : ℕ) → j < n → n ≤ before → j < before
sooner j n before below few = omega (arith, below, few)

earlier : (j i n before : ℕ) → j < i → i ≤ n → n ≤ before → j < before
earlier j i n before below within few = omega (arith, below, within, few)

further : (n before most : ℕ) → n ≤ before → before ≤ most → n ≤ most
further n before most few le = omega (arith, few, le)

module _ {T : Type 0} (outlet : Ghosts T) (o : Object) (strike : Option Strike) (w : List Wild) where
  -- a run up to its strike, or to its end if that comes first
  module _ (s0 s' : State) (w0 w' : List Wild) (t t' : T) (before n : ℕ) (pause : Pause) (begun : s0
      ≡ start o) (answers : w0 ≡ w) (spares : (j : ℕ) → j < before → Spares strike j)
      (few : n ≤ before) (a : Goes outlet o s0 w0 t s' w' t' n pause) where
    first_is : (i : ℕ) → i ≤ n → run o strike w i ≡ span o i s0 w0
    first_is i within = run_first o strike w w0 s0 i begun answers (λ j below.
        spares j (earlier j i n before below within few))

    pub first_run : run o strike w n ≡ span o n s0 w0
    first_run = run_first o strike w w0 s0 n begun answers (λ j below. spares j (sooner j n before below few))

    pub ran_first : (most : ℕ) → before ≤ most → (pause ≡ Running → n ≡ most) → HasRun o strike w s' most n pause
    ran_first most le all = record {
      state_is = a.state_is ∙ ap (λ (r : Ran). r.state) (sym first_run);
      status_is = ap (λ (r : Ran). r.state.status) first_run ∙ a.status_is;
      last = last_as pause (λ i. (span o i s0 w0).outputs) (outputs_after o strike w) n (λ i within.
          ap (λ (r : Ran). r.outputs) (sym (first_is i within))) a.last;
      few = further n before most few le;
      all = all;
    }

  -- a run from its strike on
  module _ (s1 s2 s' : State) (w1 w' : List Wild) (t t' : T) (before m : ℕ) (pause : Pause) (state : s1
      ≡ (run o strike w before).state) (wild : w1 ≡ (run o strike w before).wild)
      (struck : s2 ≡ struck_before strike before s1) (spares : (j : ℕ) → before < j → Spares strike j) (some : 0 < m)
      (a : Goes outlet o s2 w1 t s' w' t' m pause) where
    pub second_run : (outputs_after o strike w (before + m)) ≡ outputs_after o strike w before
        ++ (span o m s2 w1).outputs
    second_run = outputs_second o strike w s1 s2 w1 before state wild struck spares m

    pub ran_second : (most : ℕ) → before + m ≤ most → (pause ≡ Running → before + m ≡ most) →
        HasRun o strike w s' most (before + m) pause
    ran_second most few all =
        let is = run_second o strike w s1 s2 w1 before m state wild struck spares some in
        record {
          state_is = a.state_is ∙ ap (λ (r : Ran). r.state) (sym is);
          status_is = ap (λ (r : Ran). r.state.status) is ∙ a.status_is;
          last = last_after pause (outputs_after o strike w before) (λ i.
              (span o i s2 w1).outputs) (outputs_after o strike w) before m
              (outputs_second o strike w s1 s2 w1 before state wild struck spares) a.last;
          few = few;
          all = all;
        }

-- WHAT A DRIVE WRITES

module _ (o : Object) (strike : Option Strike) (w : List Wild) (s : State) (most n : ℕ) where
  -- after all the steps, a run is as it was when it ended
  pub run_whole : (pause : Pause) → ¬ (pause ≡ Refused) → HasRun o strike w s most n pause → run o strike w most
      ≡ run o strike w n
  run_whole Running h r = ap (run o strike w) (sym (r.all refl))
  run_whole Done h r = run_stays o strike w n most r.few (subst HasStopped (sym r.status_is) tt)
  run_whole Detected h r = run_stays o strike w n most r.few (subst HasStopped (sym r.status_is) tt)
  run_whole Refused h r = absurd (h refl)

  pub went : (pause : Pause) → goes_on pause ≡ true → ¬ (pause ≡ Refused)
  went Running is e = cc
  went Done is e = cc
  went Detected is e = cc
  went Refused is e = cc

  whole_is : (pause : Pause) → goes_on pause ≡ true → HasRun o strike w s most n pause → run o strike w most
      ≡ run o strike w n
  whole_is pause is r = run_whole pause (went pause is) r

  pub drive_ends : (pause : Pause) → HasRun o strike w s most n pause →
      EndsAs (run_end pause) (status_after o strike w most)
  drive_ends Running r = ap (λ (x : Ran). x.state.status) (whole_is Running refl r) ∙ r.status_is
  drive_ends Done r = ap (λ (x : Ran). x.state.status) (whole_is Done refl r) ∙ r.status_is
  drive_ends Detected r = ap (λ (x : Ran). x.state.status) (whole_is Detected refl r) ∙ r.status_is
  drive_ends Refused r = tt

  module _ (old new : SinkLog) where
    lines_whole : (pause : Pause) → goes_on pause ≡ true → HasRun o strike w s most n pause →
        PutsOutputs o (outputs_after o strike w n) true old new
        → new ≡ with_lines (output_lines o (outputs_after o strike w most)) old
    lines_whole pause is r h =
        subst (λ (x : Ran). new ≡ with_lines (output_lines o x.outputs) old) (sym (whole_is pause is r)) h.lines

    pub drive_lines : (pause : Pause) → HasRun o strike w s most n pause →
        PutsOutputs o (outputs_after o strike w n) (goes_on pause) old new
        → Puts (put_end (run_end pause)) (output_lines o (outputs_after o strike w most)) old new
    drive_lines Running r h = lines_whole Running refl r h
    drive_lines Done r h = lines_whole Done refl r h
    drive_lines Detected r h = lines_whole Detected refl r h
    drive_lines Refused r h =
        let grown = outputs_grow o strike w n most r.few in
        subst (λ ls. BreaksOff ls old new) (sym (lines-append o (outputs_after o strike w n) grown.0)
        ∙ ap (output_lines o) grown.1)
        (breaks_before (output_lines o (outputs_after o strike w n)) (output_lines o grown.0) old new h.lines)

    taken_whole : (pause : Pause) → goes_on pause ≡ true → HasRun o strike w s most n pause →
        PutsOutputs o (outputs_after o strike w n) true old new → HasTaken o strike w most s old new
    taken_whole pause is r h =
        let same = sym (whole_is pause is r) in
        record {
          state_is = r.state_is ∙ ap (λ (x : Ran). x.state) same;
          pieces = h.pieces ∙ ap (λ (x : Ran). append_told old.pieces (output_lines o x.outputs)) same;
        }

    pub drive_stops : (pause : Pause) → HasRun o strike w s most n pause →
        PutsOutputs o (outputs_after o strike w n) (goes_on pause) old new
        → Stops (run_end pause) (λ k. HasTaken o strike w k s old new) (outputs_after o strike w) most
    drive_stops Running r h = taken_whole Running refl r h
    drive_stops Done r h = taken_whole Done refl r h
    drive_stops Detected r h = taken_whole Detected refl r h
    drive_stops Refused r h = (n, (r.few, (record { state_is = r.state_is; pieces = h.pieces }, r.last)))
