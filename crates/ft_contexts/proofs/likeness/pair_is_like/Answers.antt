use Rattle.std.proofs.Common.{arith, sym, ◌∙◌}
use Rattle.ft_norm.proofs.HeldForms.{keeps_both}
use Rattle.ft_contexts.proofs.Costs.{put_steps}
use Rattle.ft_contexts.proofs.Kept.{integer_stays, polynomial_found, variables_kept, replacement_stays}
use Rattle.ft_contexts.proofs.likeness.pair_is_like.Goals as goal

pub integer-requires-2-clause-held : goal.integer-requires-2-clause-held
integer-requires-2-clause-held g c = variables_kept c.args.forms.now c.integer.new.forms c.args.put.now
    c.integer.ensures.kept c.requires.put

pub returns-clause-like : goal.returns-clause-like
returns-clause-like g c =
    let mid = c.integer.new.forms in
    let new = c.integer-2.new.forms in
    let s = integer_stays c.args.forms.now mid c.args.pair.0 c.integer.ensures.kept c.requires.address in
    let p = polynomial_found mid c.in_ok-address.address _ c.in_ok-address.ensures.form in
    let first = sym (rw (s, p) at c.same_integers.ensures) ∙ c.if-not-same_integers.false in
    let t = integer_stays c.args.forms.now new c.args.pair.1
    (keeps_both _ _ _ c.integer.ensures.kept c.integer-2.ensures.kept) c.requires.value in
    let q = polynomial_found new c.in_ok-value.value _ c.in_ok-value.ensures.form in
    let x = replacement_stays c.args.forms.now mid c.args.put.now c.integer.ensures.kept c.requires.put in
    rw first (rw (t, q, x) at c.same_integers-2.ensures)

pub returns-in_err-value-clause-steps : goal.returns-in_err-value-clause-steps
returns-in_err-value-clause-steps g c =
    let x = put_steps (g.P.Program.object c.args.program.now) c.args.forms.now c.integer.new.forms c.args.put.now
    (g.M.Meter.counted c.integer.new.meter) (g.M.Meter.counted c.integer-2.new.meter) c.integer.ensures.kept
    c.requires.put c.integer-2.ensures.steps in
    omega (arith, c.integer.ensures.steps, x)

pub returns-clause-steps : goal.returns-clause-steps
returns-clause-steps g c =
    let x = put_steps (g.P.Program.object c.args.program.now) c.args.forms.now c.integer.new.forms c.args.put.now
    (g.M.Meter.counted c.integer.new.meter) (g.M.Meter.counted c.integer-2.new.meter) c.integer.ensures.kept
    c.requires.put c.integer-2.ensures.steps in
    omega (arith, c.integer.ensures.steps, x)
