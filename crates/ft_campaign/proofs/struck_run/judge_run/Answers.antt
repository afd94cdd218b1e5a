use Rattle.std.proofs.Common.{◌≡◌, ◌+◌, ◌-◌, ◌<◌, ◌≤◌, List, length, ap, sym, subst, ◌∙◌, arith}
use Rattle.ft_isa.specs.declared.output.Output.{Output}
use Rattle.ft_campaign.specs.Snapshots.{HasEnded}
use Rattle.ft_campaign.proofs.Racing.{unmet_next, unmet_there, count_fits, racing_running, racing_cells, later_cells}
use Rattle.ft_campaign.proofs.Racing.{race_apart, race_stopped, steps_apart, steps_stopped, on_state, on_wild}
use Rattle.ft_campaign.proofs.Racing.{on_running, on_few, on_done, race_on, race_met, steps_on, ended_running}
use Rattle.ft_campaign.proofs.Racing.{ends_at_last}
use Rattle.ft_campaign.proofs.struck_run.judge_run.Goals as goal

pub loop-s-init : goal.loop-s-init
loop-s-init g c =
    record {
      racing = c.requires.racing;
      whole = c.as_slice.ensures.value ∙ c.requires.clean.outputs;
      from = omega arith;
      steps = omega arith;
    }

pub follow-followed-requires-clause-running : goal.follow-followed-requires-clause-running
follow-followed-requires-clause-running g c =
    let o = g.P.Program.object c.args.program.now in
    racing_running o c.args.trial.fault c.args.trial.wild.now c.args.trial.n c.loop-s.s c.loop-s.run.machine
    c.loop-s.run.left c.loop-s.expected.at c.loop-s.invariant.racing

pub follow-followed-requires-clause-within : goal.follow-followed-requires-clause-within
follow-followed-requires-clause-within g c =
    let whole = c.loop-s.invariant.whole in
    subst (λ (all : List Output). c.loop-s.expected.at ≤ length all) (sym whole) c.loop-s.invariant.racing.begins.few

pub returns-in-Apart-clause-verdict : goal.returns-in-Apart-clause-verdict
returns-in-Apart-clause-verdict g c =
    let o = g.P.Program.object c.args.program.now in
    let whole = c.loop-s.invariant.whole in
    let room : c.next_place-next.result - c.loop-s.s ≤ c.args.trial.n - c.loop-s.s =
    omega (arith, c.next_place-next.ensures.within) in
    race_apart o c.args.trial.fault c.args.trial.wild.now c.args.trial.n c.loop-s.s c.loop-s.run.machine
    c.loop-s.run.left c.loop-s.expected.at c.loop-s.invariant.racing
    c.follow-followed.new.machine c.follow-followed.new.wild c.loop-s.expected.whole.now
    c.follow-followed.new.expected.at (c.next_place-next.result - c.loop-s.s) c.follow-followed.result
    c.follow-followed.ensures.follows whole room c.in-Apart.is c.requires.struck

pub returns-in-Apart-clause-cells : goal.returns-in-Apart-clause-cells
returns-in-Apart-clause-cells g c =
    let o = g.P.Program.object c.args.program.now in
    later_cells o c.args.trial.fault c.args.trial.wild.now c.args.trial.n c.loop-s.s c.loop-s.run.machine
    c.loop-s.run.left c.loop-s.expected.at c.loop-s.invariant.racing
    c.follow-followed.new.machine c.follow-followed.new.wild c.loop-s.expected.whole.now
    c.follow-followed.new.expected.at (c.next_place-next.result - c.loop-s.s) c.follow-followed.result
    c.follow-followed.ensures.follows

pub returns-in-Apart-clause-steps : goal.returns-in-Apart-clause-steps
returns-in-Apart-clause-steps g c =
    let o = g.P.Program.object c.args.program.now in
    let whole = c.loop-s.invariant.whole in
    let room : c.next_place-next.result - c.loop-s.s ≤ c.args.trial.n - c.loop-s.s =
    omega (arith, c.next_place-next.ensures.within) in
    let unmet = unmet_next o c.args.trial.fault c.args.trial.wild.now c.args.trial.n c.loop-s.s c.next_place-next.result
    c.next_place-next.ensures.first c.loop-s.invariant.racing.unmet in
    let done : c.loop-s.s + c.follow-followed.result.done ≤ c.next_place-next.result =
    (let few = c.follow-followed.ensures.follows.few in omega (arith, few, c.next_place-next.ensures.after)) in
    (λ e is.
    let le = steps_apart o c.args.trial.fault c.args.trial.wild.now c.args.trial.n c.loop-s.s c.loop-s.run.machine
    c.loop-s.run.left c.loop-s.expected.at c.loop-s.invariant.racing
    c.follow-followed.new.machine c.follow-followed.new.wild c.loop-s.expected.whole.now
    c.follow-followed.new.expected.at (c.next_place-next.result - c.loop-s.s) c.follow-followed.result
    c.follow-followed.ensures.follows whole room c.in-Apart.is (λ d m lt. let far = unmet d m lt in
    omega (arith, far, done)) e is in
    omega (arith, le, c.follow-followed.ensures.steps, c.loop-s.invariant.steps, c.loop-s.invariant.from))

pub returns-in-Stopped-clause-verdict : goal.returns-in-Stopped-clause-verdict
returns-in-Stopped-clause-verdict g c =
    let o = g.P.Program.object c.args.program.now in
    let whole = c.loop-s.invariant.whole in
    let room : c.next_place-next.result - c.loop-s.s ≤ c.args.trial.n - c.loop-s.s =
    omega (arith, c.next_place-next.ensures.within) in
    let ended = race_stopped o c.args.trial.fault c.args.trial.wild.now c.args.trial.n c.loop-s.s c.loop-s.run.machine
    c.loop-s.run.left c.loop-s.expected.at c.loop-s.invariant.racing
    c.follow-followed.new.machine c.follow-followed.new.wild c.loop-s.expected.whole.now
    c.follow-followed.new.expected.at (c.next_place-next.result - c.loop-s.s) c.follow-followed.result
    c.follow-followed.ensures.follows whole room c.in-Stopped.is c.requires.struck in
    c.verdict_at_end.ensures o c.args.trial.fault c.args.trial.wild.now c.args.trial.n c.requires.clean
    (subst (λ v. HasEnded o c.args.trial.fault c.args.trial.wild.now c.args.trial.n c.follow-followed.new.expected.at v
    (c.loop-s.s + c.follow-followed.result.done - 1)) (sym c.status.ensures) ended)

pub returns-in-Stopped-clause-cells : goal.returns-in-Stopped-clause-cells
returns-in-Stopped-clause-cells g c =
    let o = g.P.Program.object c.args.program.now in
    later_cells o c.args.trial.fault c.args.trial.wild.now c.args.trial.n c.loop-s.s c.loop-s.run.machine
    c.loop-s.run.left c.loop-s.expected.at c.loop-s.invariant.racing
    c.follow-followed.new.machine c.follow-followed.new.wild c.loop-s.expected.whole.now
    c.follow-followed.new.expected.at (c.next_place-next.result - c.loop-s.s) c.follow-followed.result
    c.follow-followed.ensures.follows

pub returns-in-Stopped-clause-steps : goal.returns-in-Stopped-clause-steps
returns-in-Stopped-clause-steps g c =
    let o = g.P.Program.object c.args.program.now in
    let whole = c.loop-s.invariant.whole in
    let room : c.next_place-next.result - c.loop-s.s ≤ c.args.trial.n - c.loop-s.s =
    omega (arith, c.next_place-next.ensures.within) in
    let unmet = unmet_next o c.args.trial.fault c.args.trial.wild.now c.args.trial.n c.loop-s.s c.next_place-next.result
    c.next_place-next.ensures.first c.loop-s.invariant.racing.unmet in
    let done : c.loop-s.s + c.follow-followed.result.done ≤ c.next_place-next.result =
    (let few = c.follow-followed.ensures.follows.few in omega (arith, few, c.next_place-next.ensures.after)) in
    (λ e is.
    let le = steps_stopped o c.args.trial.fault c.args.trial.wild.now c.args.trial.n c.loop-s.s c.loop-s.run.machine
    c.loop-s.run.left c.loop-s.expected.at c.loop-s.invariant.racing
    c.follow-followed.new.machine c.follow-followed.new.wild c.loop-s.expected.whole.now
    c.follow-followed.new.expected.at (c.next_place-next.result - c.loop-s.s) c.follow-followed.result
    c.follow-followed.ensures.follows whole room c.in-Stopped.is (λ d m lt. let far = unmet d m lt in
    omega (arith, far, done)) e is in
    omega (arith, le, c.follow-followed.ensures.steps, c.loop-s.invariant.steps, c.loop-s.invariant.from))

pub verdict_at_meeting-requires-clause-at : goal.verdict_at_meeting-requires-clause-at
verdict_at_meeting-requires-clause-at g c =
    let o = g.P.Program.object c.args.program.now in
    let whole = c.loop-s.invariant.whole in
    let room : c.next_place-next.result - c.loop-s.s ≤ c.args.trial.n - c.loop-s.s =
    omega (arith, c.next_place-next.ensures.within) in
    let some : 0 < c.next_place-next.result - c.loop-s.s = omega (arith, c.next_place-next.ensures.after) in
    let there : c.next_place-next.result ≡ c.loop-s.s + (c.next_place-next.result - c.loop-s.s) =
    omega (arith, c.next_place-next.ensures.after) in
    let few = on_few o c.args.trial.fault c.args.trial.wild.now c.args.trial.n c.loop-s.s c.loop-s.run.machine
    c.loop-s.run.left c.loop-s.expected.at c.loop-s.invariant.racing
    c.follow-followed.new.machine c.follow-followed.new.wild c.loop-s.expected.whole.now
    c.follow-followed.new.expected.at (c.next_place-next.result - c.loop-s.s) c.follow-followed.result
    c.follow-followed.ensures.follows whole room c.in-On.is some c.next_place-next.result there in
    subst (λ (all : List Output). c.follow-followed.new.expected.at ≤ length all) (whole ∙ sym c.requires.clean.outputs)
    few

pub verdict_at_meeting-requires-clause-count : goal.verdict_at_meeting-requires-clause-count
verdict_at_meeting-requires-clause-count g c =
    let o = g.P.Program.object c.args.program.now in
    let whole = c.loop-s.invariant.whole in
    let room : c.next_place-next.result - c.loop-s.s ≤ c.args.trial.n - c.loop-s.s =
    omega (arith, c.next_place-next.ensures.within) in
    let some : 0 < c.next_place-next.result - c.loop-s.s = omega (arith, c.next_place-next.ensures.after) in
    let there : c.next_place-next.result ≡ c.loop-s.s + (c.next_place-next.result - c.loop-s.s) =
    omega (arith, c.next_place-next.ensures.after) in
    let state = on_state o c.args.trial.fault c.args.trial.wild.now c.args.trial.n c.loop-s.s c.loop-s.run.machine
    c.loop-s.run.left c.loop-s.expected.at c.loop-s.invariant.racing
    c.follow-followed.new.machine c.follow-followed.new.wild c.loop-s.expected.whole.now
    c.follow-followed.new.expected.at (c.next_place-next.result - c.loop-s.s) c.follow-followed.result
    c.follow-followed.ensures.follows whole room c.in-On.is some c.next_place-next.result there in
    let wild = on_wild o c.args.trial.fault c.args.trial.wild.now c.args.trial.n c.loop-s.s c.loop-s.run.machine
    c.loop-s.run.left c.loop-s.expected.at c.loop-s.invariant.racing
    c.follow-followed.new.machine c.follow-followed.new.wild c.loop-s.expected.whole.now
    c.follow-followed.new.expected.at (c.next_place-next.result - c.loop-s.s) c.follow-followed.result
    c.follow-followed.ensures.follows whole room c.in-On.is some c.next_place-next.result there in
    let is = c.in-Some.ensures.some o c.args.trial.fault c.args.trial.wild.now c.args.trial.n c.requires.clean state
    wild in
    let fits = count_fits o c.args.trial.wild.now c.next_place-next.result c.args.trial.n
    c.next_place-next.ensures.within in
    let long = ap length c.requires.clean.outputs in
    let is_count = is.count_is in
    omega (arith, fits, long, is_count)

pub returns-in-Some-clause-verdict : goal.returns-in-Some-clause-verdict
returns-in-Some-clause-verdict g c =
    let o = g.P.Program.object c.args.program.now in
    let whole = c.loop-s.invariant.whole in
    let room : c.next_place-next.result - c.loop-s.s ≤ c.args.trial.n - c.loop-s.s =
    omega (arith, c.next_place-next.ensures.within) in
    let some : 0 < c.next_place-next.result - c.loop-s.s = omega (arith, c.next_place-next.ensures.after) in
    let there : c.next_place-next.result ≡ c.loop-s.s + (c.next_place-next.result - c.loop-s.s) =
    omega (arith, c.next_place-next.ensures.after) in
    let state = on_state o c.args.trial.fault c.args.trial.wild.now c.args.trial.n c.loop-s.s c.loop-s.run.machine
    c.loop-s.run.left c.loop-s.expected.at c.loop-s.invariant.racing
    c.follow-followed.new.machine c.follow-followed.new.wild c.loop-s.expected.whole.now
    c.follow-followed.new.expected.at (c.next_place-next.result - c.loop-s.s) c.follow-followed.result
    c.follow-followed.ensures.follows whole room c.in-On.is some c.next_place-next.result there in
    let wild = on_wild o c.args.trial.fault c.args.trial.wild.now c.args.trial.n c.loop-s.s c.loop-s.run.machine
    c.loop-s.run.left c.loop-s.expected.at c.loop-s.invariant.racing
    c.follow-followed.new.machine c.follow-followed.new.wild c.loop-s.expected.whole.now
    c.follow-followed.new.expected.at (c.next_place-next.result - c.loop-s.s) c.follow-followed.result
    c.follow-followed.ensures.follows whole room c.in-On.is some c.next_place-next.result there in
    let is = c.in-Some.ensures.some o c.args.trial.fault c.args.trial.wild.now c.args.trial.n c.requires.clean state
    wild in
    c.verdict_at_meeting.ensures o c.args.trial.fault c.args.trial.wild.now c.args.trial.n c.next_place-next.result
    c.requires.clean (race_met o c.args.trial.fault c.args.trial.wild.now c.args.trial.n c.loop-s.s
    c.loop-s.run.machine c.loop-s.run.left c.loop-s.expected.at c.loop-s.invariant.racing
    c.follow-followed.new.machine c.follow-followed.new.wild c.loop-s.expected.whole.now
    c.follow-followed.new.expected.at (c.next_place-next.result - c.loop-s.s) c.follow-followed.result
    c.follow-followed.ensures.follows whole room c.in-On.is some c.next_place-next.result there c.in-Some.count
    c.requires.struck is)

pub returns-in-Some-clause-cells : goal.returns-in-Some-clause-cells
returns-in-Some-clause-cells g c =
    let o = g.P.Program.object c.args.program.now in
    later_cells o c.args.trial.fault c.args.trial.wild.now c.args.trial.n c.loop-s.s c.loop-s.run.machine
    c.loop-s.run.left c.loop-s.expected.at c.loop-s.invariant.racing
    c.follow-followed.new.machine c.follow-followed.new.wild c.loop-s.expected.whole.now
    c.follow-followed.new.expected.at (c.next_place-next.result - c.loop-s.s) c.follow-followed.result
    c.follow-followed.ensures.follows

pub returns-in-Some-clause-steps : goal.returns-in-Some-clause-steps
returns-in-Some-clause-steps g c =
    let o = g.P.Program.object c.args.program.now in
    let whole = c.loop-s.invariant.whole in
    let room : c.next_place-next.result - c.loop-s.s ≤ c.args.trial.n - c.loop-s.s =
    omega (arith, c.next_place-next.ensures.within) in
    let some : 0 < c.next_place-next.result - c.loop-s.s = omega (arith, c.next_place-next.ensures.after) in
    let there : c.next_place-next.result ≡ c.loop-s.s + (c.next_place-next.result - c.loop-s.s) =
    omega (arith, c.next_place-next.ensures.after) in
    let unmet = unmet_next o c.args.trial.fault c.args.trial.wild.now c.args.trial.n c.loop-s.s c.next_place-next.result
    c.next_place-next.ensures.first c.loop-s.invariant.racing.unmet in
    let done : c.loop-s.s + c.follow-followed.result.done ≤ c.next_place-next.result =
    (let few = c.follow-followed.ensures.follows.few in omega (arith, few, c.next_place-next.ensures.after)) in
    (λ e is.
    let le = steps_on o c.args.trial.fault c.args.trial.wild.now c.args.trial.n c.loop-s.s c.loop-s.run.machine
    c.loop-s.run.left c.loop-s.expected.at c.loop-s.invariant.racing
    c.follow-followed.new.machine c.follow-followed.new.wild c.loop-s.expected.whole.now
    c.follow-followed.new.expected.at (c.next_place-next.result - c.loop-s.s) c.follow-followed.result
    c.follow-followed.ensures.follows whole room c.in-On.is some c.next_place-next.result there unmet e is in
    omega (arith, le, c.follow-followed.ensures.steps, c.loop-s.invariant.steps, c.loop-s.invariant.from))

pub loop-s-preserved : goal.loop-s-preserved
loop-s-preserved g c =
    let o = g.P.Program.object c.args.program.now in
    let whole = c.loop-s.invariant.whole in
    let room : c.next_place-next.result - c.loop-s.s ≤ c.args.trial.n - c.loop-s.s =
    omega (arith, c.next_place-next.ensures.within) in
    let some : 0 < c.next_place-next.result - c.loop-s.s = omega (arith, c.next_place-next.ensures.after) in
    let there : c.next_place-next.result ≡ c.loop-s.s + (c.next_place-next.result - c.loop-s.s) =
    omega (arith, c.next_place-next.ensures.after) in
    let unmet = unmet_next o c.args.trial.fault c.args.trial.wild.now c.args.trial.n c.loop-s.s c.next_place-next.result
    c.next_place-next.ensures.first c.loop-s.invariant.racing.unmet in
    let state = on_state o c.args.trial.fault c.args.trial.wild.now c.args.trial.n c.loop-s.s c.loop-s.run.machine
    c.loop-s.run.left c.loop-s.expected.at c.loop-s.invariant.racing
    c.follow-followed.new.machine c.follow-followed.new.wild c.loop-s.expected.whole.now
    c.follow-followed.new.expected.at (c.next_place-next.result - c.loop-s.s) c.follow-followed.result
    c.follow-followed.ensures.follows whole room c.in-On.is some c.next_place-next.result there in
    let wild = on_wild o c.args.trial.fault c.args.trial.wild.now c.args.trial.n c.loop-s.s c.loop-s.run.machine
    c.loop-s.run.left c.loop-s.expected.at c.loop-s.invariant.racing
    c.follow-followed.new.machine c.follow-followed.new.wild c.loop-s.expected.whole.now
    c.follow-followed.new.expected.at (c.next_place-next.result - c.loop-s.s) c.follow-followed.result
    c.follow-followed.ensures.follows whole room c.in-On.is some c.next_place-next.result there in
    let running = on_running o c.args.trial.fault c.args.trial.wild.now c.args.trial.n c.loop-s.s c.loop-s.run.machine
    c.loop-s.run.left c.loop-s.expected.at c.loop-s.invariant.racing
    c.follow-followed.new.machine c.follow-followed.new.wild c.loop-s.expected.whole.now
    c.follow-followed.new.expected.at (c.next_place-next.result - c.loop-s.s) c.follow-followed.result
    c.follow-followed.ensures.follows whole room c.in-On.is some c.next_place-next.result there in
    let apart = (λ (lt : c.next_place-next.result < c.args.trial.n).
    c.in_default.ensures.none o c.args.trial.fault c.args.trial.wild.now c.args.trial.n c.requires.clean state wild
    running lt) in
    let few : c.follow-followed.result.done ≡ c.next_place-next.result - c.loop-s.s =
    on_done o c.args.trial.fault c.args.trial.wild.now c.args.trial.n c.loop-s.s c.loop-s.run.machine
    c.loop-s.run.left c.loop-s.expected.at c.loop-s.invariant.racing
    c.follow-followed.new.machine c.follow-followed.new.wild c.loop-s.expected.whole.now
    c.follow-followed.new.expected.at (c.next_place-next.result - c.loop-s.s) c.follow-followed.result
    c.follow-followed.ensures.follows whole room c.in-On.is some c.next_place-next.result there in
    record {
      racing = race_on o c.args.trial.fault c.args.trial.wild.now c.args.trial.n c.loop-s.s c.loop-s.run.machine
          c.loop-s.run.left c.loop-s.expected.at c.loop-s.invariant.racing
          c.follow-followed.new.machine c.follow-followed.new.wild c.loop-s.expected.whole.now
          c.follow-followed.new.expected.at (c.next_place-next.result - c.loop-s.s) c.follow-followed.result
          c.follow-followed.ensures.follows whole room c.in-On.is some c.next_place-next.result there
          (unmet_there o c.args.trial.fault c.args.trial.wild.now c.args.trial.n c.next_place-next.result unmet
          apart);
      whole = c.follow-followed.ensures.whole ∙ whole;
      from = omega (arith, c.loop-s.invariant.from, c.next_place-next.ensures.after);
      steps = omega (
        arith,
        c.follow-followed.ensures.steps,
        c.loop-s.invariant.steps,
        few,
        c.next_place-next.ensures.after,
        c.loop-s.invariant.from,
      );
    }

pub returns-clause-verdict : goal.returns-clause-verdict
returns-clause-verdict g c =
    let o = g.P.Program.object c.args.program.now in
    c.verdict_at_end-2.ensures o c.args.trial.fault c.args.trial.wild.now c.args.trial.n c.requires.clean
    (ended_running o c.args.trial.fault c.args.trial.wild.now c.args.trial.n c.loop-s.s c.loop-s.run.machine
    c.loop-s.run.left c.loop-s.expected.at c.loop-s.invariant.racing c.args.trial.n c.loop-s-test.false
    c.requires.struck)

pub returns-clause-cells : goal.returns-clause-cells
returns-clause-cells g c =
    let o = g.P.Program.object c.args.program.now in
    racing_cells o c.args.trial.fault c.args.trial.wild.now c.args.trial.n c.loop-s.s c.loop-s.run.machine
    c.loop-s.run.left c.loop-s.expected.at c.loop-s.invariant.racing

pub returns-clause-steps : goal.returns-clause-steps
returns-clause-steps g c =
    let o = g.P.Program.object c.args.program.now in
    (λ e is.
    let le = ends_at_last o c.args.trial.fault c.args.trial.wild.now c.args.trial.n c.loop-s.s c.loop-s.run.machine
    c.loop-s.run.left c.loop-s.expected.at c.loop-s.invariant.racing c.loop-s-test.false e is in
    omega (arith, le, c.loop-s.invariant.steps, c.loop-s.invariant.from))
