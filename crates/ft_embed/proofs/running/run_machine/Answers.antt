use Rattle.std.proofs.Common.{◌<◌, length, ap, ◌∙◌, arith}
use Rattle.ft_types.specs.Objects.{init_of}
use Rattle.ft_semantics.specs.State.{State, is_cell}
use Rattle.ft_machine.proofs.Tabulated.{cells_there}
use Rattle.ft_embed.proofs.Stretches.{fills_cells}
use Rattle.ft_embed.proofs.Taken.{struck_cells, takes_first, takes_second}
use Rattle.ft_embed.proofs.running.run_machine.Goals as goal

pub fill-first-requires-clause-cells : goal.fill-first-requires-clause-cells
fill-first-requires-clause-cells g c =
    let o = g.P.Program.object c.args.program.now in
    λ a. ap (λ (s : State). is_cell s.cells a) c.requires.start ∙ cells_there (init_of o) (length o.cells) a

pub returns-then-first-before-clause-takes : goal.returns-then-first-before-clause-takes
returns-then-first-before-clause-takes g c =
    let f = c.fill-first.ensures in
    takes_first (g.P.Program.object c.args.program.now) c.args.plan.strike c.args.plan.wild.now c.args.machine.now
    c.new-wild.result c.requires.start c.new-wild.ensures c.args.steps c.fill-first.result.taken
    c.steps_before-before.result c.fill-first.result.count
    c.fill-first.new.machine c.fill-first.new.wild c.args.out.now c.fill-first.new.out
    c.steps_before-before.ensures.before f.few c.steps_before-before.ensures.within f.within f.same
    (λ running room. absurd (omega (arith, f.all running room, c.if-first-before.true))) f.fills

pub returns-then-before-steps-clause-takes : goal.returns-then-before-steps-clause-takes
returns-then-before-steps-clause-takes g c =
    let f = c.fill-first.ensures in
    takes_first (g.P.Program.object c.args.program.now) c.args.plan.strike c.args.plan.wild.now c.args.machine.now
    c.new-wild.result c.requires.start c.new-wild.ensures c.args.steps c.fill-first.result.taken
    c.steps_before-before.result c.fill-first.result.count
    c.fill-first.new.machine c.fill-first.new.wild c.args.out.now c.fill-first.new.out
    c.steps_before-before.ensures.before f.few c.steps_before-before.ensures.within f.within f.same
    (λ running room. f.all running room ∙ c.if-before-steps.true) f.fills

pub returns-then-first-out-clause-takes : goal.returns-then-first-out-clause-takes
returns-then-first-out-clause-takes g c =
    let f = c.fill-first.ensures in
    takes_first (g.P.Program.object c.args.program.now) c.args.plan.strike c.args.plan.wild.now c.args.machine.now
    c.new-wild.result c.requires.start c.new-wild.ensures c.args.steps c.fill-first.result.taken
    c.steps_before-before.result c.fill-first.result.count
    c.fill-first.new.machine c.fill-first.new.wild c.args.out.now c.fill-first.new.out
    c.steps_before-before.ensures.before f.few c.steps_before-before.ensures.within f.within f.same
    (λ running room. absurd (omega (arith, room, c.if-first-out.true))) f.fills

pub fill-second-requires-clause-cells : goal.fill-second-requires-clause-cells
fill-second-requires-clause-cells g c =
    let o = g.P.Program.object c.args.program.now in
    struck_cells c.args.plan.strike c.steps_before-before.result (length o.cells) c.fill-first.new.machine
    c.strike_before.new.machine c.strike_before.ensures
    (fills_cells o c.args.machine.now c.fill-first.new.machine c.new-wild.result c.fill-first.new.wild
    c.fill-first.result.taken 0 c.fill-first.result.count c.args.out.now c.fill-first.new.out
    c.fill-first.ensures.fills (length o.cells)
    (λ a. ap (λ (s : State). is_cell s.cells a) c.requires.start ∙ cells_there (init_of o) (length o.cells) a))

pub returns-clause-takes : goal.returns-clause-takes
returns-clause-takes g c =
    let f = c.fill-first.ensures in
    let k = c.steps_before-before.result in
    let earlier : k < c.args.steps = omega (arith, c.steps_before-before.ensures.within, c.if-before-steps.false) in
    takes_second (g.P.Program.object c.args.program.now) c.args.plan.strike c.args.plan.wild.now c.args.machine.now
    c.fill-first.new.machine c.strike_before.new.machine c.fill-second.new.machine c.new-wild.result
    c.fill-first.new.wild c.fill-second.new.wild
    c.args.steps c.fill-first.result.taken k c.fill-second.result.taken c.fill-first.result.count
    c.fill-second.result.count c.args.out.now c.fill-first.new.out c.fill-second.new.out
    c.requires.start c.new-wild.ensures c.steps_before-before.ensures.before (λ j above.
    c.steps_before-before.ensures.after j earlier above)
    (omega (arith, f.few, c.if-first-before.false)) (omega (arith, c.fill-second.ensures.few, earlier))
    c.fill-second.ensures.within f.same c.fill-second.ensures.same
    (λ running room. omega (arith, c.fill-second.ensures.all running room, earlier)) f.fills c.strike_before.ensures
    c.fill-second.ensures.fills
