use Rattle.std.proofs.Common.{◌≡◌, ◌+◌, ◌<◌, ◌≤◌, true, ap, sym, subst, ◌∙◌, arith, rules}
use Rattle.ft_semantics.specs.State.{State, is_cell}
use Rattle.ft_semantics.specs.Run.{Ran, run, outputs_after}
use Rattle.ft_machine.specs.declared.stepped.Pause.TheVariants.{Running}
use Rattle.ft_machine.specs.Goes.{goes_on}
use Rattle.ft_machine.specs.Spans.{span}
use Rattle.ft_machine.proofs.Steps.{strike_keeps}
use Rattle.ft_machine.proofs.Going.{goes_may}
use Rattle.ft_machine.proofs.Driven.{first_run, ran_first, second_run, ran_second}
use Rattle.ft_machine.proofs.run.run_under.Goals as goal

pub returns-then-before-steps-clause-ran : goal.returns-then-before-steps-clause-ran
returns-then-before-steps-clause-ran g c =
    let o = g.P.Program.object c.args.program.now in
    let before = c.steps_before-before in
    let first = c.go-first in
    ran_first g.T.Outlet o c.args.plan.strike c.args.plan.wild.now c.args.machine.now first.new.self c.new-wild.result
    first.new.wild c.args.outlet.now first.new.outlet before.result first.result.taken first.result.pause
    c.requires.start c.new-wild.ensures before.ensures.before first.ensures.few first.ensures.goes c.args.steps
    before.ensures.within (λ runs. first.ensures.all runs ∙ c.if-before-steps.true)

pub returns-then-before-steps-clause-heard : goal.returns-then-before-steps-clause-heard
returns-then-before-steps-clause-heard g c =
    let o = g.P.Program.object c.args.program.now in
    let before = c.steps_before-before in
    let first = c.go-first in
    let is = first_run g.T.Outlet o c.args.plan.strike c.args.plan.wild.now c.args.machine.now first.new.self
    c.new-wild.result first.new.wild c.args.outlet.now first.new.outlet before.result first.result.taken
    first.result.pause
    c.requires.start c.new-wild.ensures before.ensures.before first.ensures.few first.ensures.goes in
    subst (λ (r : Ran). g.T.Outlet.heard c.args.outlet.now r.outputs (goes_on first.result.pause) first.new.outlet)
    (sym is) first.ensures.heard

pub returns-then-not-runs_on-clause-ran : goal.returns-then-not-runs_on-clause-ran
returns-then-not-runs_on-clause-ran g c =
    let o = g.P.Program.object c.args.program.now in
    let before = c.steps_before-before in
    let first = c.go-first in
    let stopped : ¬ (first.result.pause ≡ Running) = search rules in
    ran_first g.T.Outlet o c.args.plan.strike c.args.plan.wild.now c.args.machine.now first.new.self c.new-wild.result
    first.new.wild c.args.outlet.now first.new.outlet before.result first.result.taken first.result.pause
    c.requires.start c.new-wild.ensures before.ensures.before first.ensures.few first.ensures.goes c.args.steps
    before.ensures.within (λ runs. absurd (stopped runs))

pub returns-then-not-runs_on-clause-heard : goal.returns-then-not-runs_on-clause-heard
returns-then-not-runs_on-clause-heard g c =
    let o = g.P.Program.object c.args.program.now in
    let before = c.steps_before-before in
    let first = c.go-first in
    let is = first_run g.T.Outlet o c.args.plan.strike c.args.plan.wild.now c.args.machine.now first.new.self
    c.new-wild.result first.new.wild c.args.outlet.now first.new.outlet before.result first.result.taken
    first.result.pause
    c.requires.start c.new-wild.ensures before.ensures.before first.ensures.few first.ensures.goes in
    subst (λ (r : Ran). g.T.Outlet.heard c.args.outlet.now r.outputs (goes_on first.result.pause) first.new.outlet)
    (sym is) first.ensures.heard

pub go-second-requires-clause-may : goal.go-second-requires-clause-may
go-second-requires-clause-may g c = λ output there.
    let o = g.P.Program.object c.args.program.now in
    let first = c.go-first in
    goes_may g.T.Outlet o c.args.machine.now first.new.self c.new-wild.result first.new.wild c.args.outlet.now
    first.new.outlet first.result.taken first.result.pause first.ensures.goes c.requires.may output
    (sym (ap (λ (s : State). is_cell s.cells output.addr) c.strike_before.ensures
    ∙ ap (λ m. is_cell m output.addr) (strike_keeps c.args.plan.strike c.steps_before-before.result
    first.new.self).cells) ∙ there)

pub returns-clause-ran : goal.returns-clause-ran
returns-clause-ran g c =
    let o = g.P.Program.object c.args.program.now in
    let before = c.steps_before-before in
    let first = c.go-first in
    let second = c.go-second in
    let running : first.result.pause ≡ Running = search rules in
    let at = first.ensures.all running in
    let is = first_run g.T.Outlet o c.args.plan.strike c.args.plan.wild.now c.args.machine.now first.new.self
    c.new-wild.result first.new.wild c.args.outlet.now first.new.outlet before.result first.result.taken
    first.result.pause
    c.requires.start c.new-wild.ensures before.ensures.before first.ensures.few first.ensures.goes in
    let there = ap (λ n. run o c.args.plan.strike c.args.plan.wild.now n) (sym at) ∙ is in
    let earlier : before.result < c.args.steps = omega (arith, before.ensures.within, c.if-before-steps.false) in
    let few : before.result + second.result.taken ≤ c.args.steps = omega (arith, second.ensures.few, earlier) in
    ran_second g.T.Outlet o c.args.plan.strike c.args.plan.wild.now first.new.self c.strike_before.new.machine
    second.new.self first.new.wild second.new.wild first.new.outlet second.new.outlet
    before.result second.result.taken second.result.pause (first.ensures.goes.state_is
    ∙ ap (λ (r : Ran). r.state) (sym there)) (first.ensures.goes.wild_is ∙ ap (λ (r : Ran). r.wild) (sym there))
    c.strike_before.ensures (λ j above. before.ensures.after j earlier above)
    (second.ensures.some (omega (arith, earlier))) second.ensures.goes c.args.steps few
    (λ runs. let all = second.ensures.all runs in omega (arith, all, earlier))

pub returns-clause-heard : goal.returns-clause-heard
returns-clause-heard g c =
    let o = g.P.Program.object c.args.program.now in
    let before = c.steps_before-before in
    let first = c.go-first in
    let second = c.go-second in
    let running : first.result.pause ≡ Running = search rules in
    let at = first.ensures.all running in
    let is = first_run g.T.Outlet o c.args.plan.strike c.args.plan.wild.now c.args.machine.now first.new.self
    c.new-wild.result first.new.wild c.args.outlet.now first.new.outlet before.result first.result.taken
    first.result.pause
    c.requires.start c.new-wild.ensures before.ensures.before first.ensures.few first.ensures.goes in
    let there = ap (λ n. run o c.args.plan.strike c.args.plan.wild.now n) (sym at) ∙ is in
    let earlier : before.result < c.args.steps = omega (arith, before.ensures.within, c.if-before-steps.false) in
    let whole = second_run g.T.Outlet o c.args.plan.strike c.args.plan.wild.now first.new.self
    c.strike_before.new.machine second.new.self first.new.wild second.new.wild first.new.outlet second.new.outlet
    before.result second.result.taken second.result.pause (first.ensures.goes.state_is
    ∙ ap (λ (r : Ran). r.state) (sym there)) (first.ensures.goes.wild_is ∙ ap (λ (r : Ran). r.wild) (sym there))
    c.strike_before.ensures (λ j above. before.ensures.after j earlier above)
    (second.ensures.some (omega (arith, earlier))) second.ensures.goes in
    let so_far = subst (λ (r : Ran). g.T.Outlet.heard c.args.outlet.now r.outputs true first.new.outlet) (sym there)
    (subst (λ x. g.T.Outlet.heard c.args.outlet.now
    (span o first.result.taken c.args.machine.now c.new-wild.result).outputs (goes_on x) first.new.outlet) running
    first.ensures.heard) in
    subst (λ xs. g.T.Outlet.heard c.args.outlet.now xs (goes_on second.result.pause) second.new.outlet) (sym whole)
    (second.ensures.goes.hears c.args.outlet.now (outputs_after o c.args.plan.strike c.args.plan.wild.now before.result)
    so_far)
