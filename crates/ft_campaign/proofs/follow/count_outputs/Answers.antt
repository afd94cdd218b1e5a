use Rattle.std.proofs.Common.{◌≡◌, ◌+◌, length, ap, sym, ◌∙◌, arith}
use Rattle.ft_semantics.specs.Run.{Ran}
use Rattle.ft_machine.specs.Spans.{span, span-zero}
use Rattle.ft_machine.proofs.Spanned.{span_running}
use Rattle.ft_campaign.proofs.Following.{runs_to_end, counted_all}
use Rattle.ft_campaign.proofs.follow.count_outputs.Goals as goal

pub go-gone-requires-clause-running : goal.go-gone-requires-clause-running
go-gone-requires-clause-running g c =
    let o = g.P.Program.object c.args.program.now in
    let s = c.args.machine.now in
    let w = c.args.wild.now in
    let whole : 0 + c.args.number ≡ c.args.number = omega arith in
    sym (ap (λ (r : Ran). r.state.status) (span-zero o s w))
    ∙ span_running o 0 c.args.number s w (ap (λ n. (span o n s w).state.status) whole ∙ c.requires.running)

pub returns-clause-state : goal.returns-clause-state
returns-clause-state g c =
    let o = g.P.Program.object c.args.program.now in
    let gone = c.go-gone in
    let all = runs_to_end _ o c.args.machine.now gone.new.self c.args.wild.now gone.new.wild _ gone.new.outlet
    gone.result.taken c.args.number gone.result.pause gone.ensures.goes gone.ensures.heard.0 gone.ensures.few
    c.requires.running gone.ensures.all in
    gone.ensures.goes.state_is ∙ ap (λ n. (span o n c.args.machine.now c.args.wild.now).state) all

pub returns-clause-wild : goal.returns-clause-wild
returns-clause-wild g c =
    let o = g.P.Program.object c.args.program.now in
    let gone = c.go-gone in
    let all = runs_to_end _ o c.args.machine.now gone.new.self c.args.wild.now gone.new.wild _ gone.new.outlet
    gone.result.taken c.args.number gone.result.pause gone.ensures.goes gone.ensures.heard.0 gone.ensures.few
    c.requires.running gone.ensures.all in
    gone.ensures.goes.wild_is ∙ ap (λ n. (span o n c.args.machine.now c.args.wild.now).wild) all

pub returns-clause-count : goal.returns-clause-count
returns-clause-count g c =
    let o = g.P.Program.object c.args.program.now in
    let gone = c.go-gone in
    let all = runs_to_end _ o c.args.machine.now gone.new.self c.args.wild.now gone.new.wild _ gone.new.outlet
    gone.result.taken c.args.number gone.result.pause gone.ensures.goes gone.ensures.heard.0 gone.ensures.few
    c.requires.running gone.ensures.all in
    counted_all o c.args.machine.now c.args.wild.now gone.result.taken c.args.number gone.new.outlet.count
    gone.ensures.few c.ranges.number.fits gone.ensures.heard.1
    ∙ ap (λ n. length (span o n c.args.machine.now c.args.wild.now).outputs) all

pub returns-clause-steps : goal.returns-clause-steps
returns-clause-steps g c =
    let o = g.P.Program.object c.args.program.now in
    let gone = c.go-gone in
    let all = runs_to_end _ o c.args.machine.now gone.new.self c.args.wild.now gone.new.wild _ gone.new.outlet
    gone.result.taken c.args.number gone.result.pause gone.ensures.goes gone.ensures.heard.0 gone.ensures.few
    c.requires.running gone.ensures.all in
    omega (arith, c.count.ensures, all)
