use Rattle.std.proofs.Common.{◌≡◌, ◌+◌, ◌*◌, List, ◌∷◌, ◌++◌, map, drop, Some, arith, sym, ap, ◌∙◌}
use Rattle.std.proofs.lemmas.List.{map_push, append-nil, drop_all}
use Rattle.ft_isa.proofs.Lists.{drop_next}
use Rattle.ft_static.specs.Form.{integer_form}
use Rattle.ft_norm.specs.Held.{held, IsInteger}
use Rattle.ft_norm.proofs.HeldForms.{integer_from, keeps_both}
use Rattle.ft_types.specs.Objects.{queue_rows}
use Rattle.ft_typing.specs.Context.{FormPair, integer_form_of, queue_pair}
use Rattle.ft_contexts.specs.Contexts.{pair_in}
use Rattle.ft_contexts.specs.Costs.{tree_cost}
use Rattle.ft_contexts.proofs.Costs.{some_trees, two_trees}
use Rattle.ft_contexts.proofs.Kept.{polynomial_found, queue_kept, queue_stays}
use Rattle.ft_contexts.proofs.Lists.{get_pushed, one_more}
use Rattle.ft_contexts.proofs.Spelled.{most_scope, queue_row_spelled}
use Rattle.ft_contexts.proofs.start.start_queue.Goals as goal

pub integer-requires-clause-node : goal.integer-requires-clause-node
integer-requires-clause-node g c =
    let o = g.P.Program.object c.args.program.now in
    most_scope o c.args.t c.queue_row-address.result.0 _ c.requires.spellable c.requires.there
    (queue_row_spelled o c.args.t c.loop-j.j c.queue_row-address.result c.requires.spellable c.requires.there
    c.queue_row-address.ensures).address

pub integer-requires-in-loop-j-clause-node : goal.integer-requires-in-loop-j-clause-node
integer-requires-in-loop-j-clause-node g c =
    let o = g.P.Program.object c.args.program.now in
    most_scope o c.args.t c.queue_row-address.result.1 _ c.requires.spellable c.requires.there
    (queue_row_spelled o c.args.t c.loop-j.j c.queue_row-address.result c.requires.spellable c.requires.there
    c.queue_row-address.ensures).value

pub loop-j-preserved : goal.loop-j-preserved
loop-j-preserved g c =
    let o = (g.P.Program.object c.args.program.now) in
    let row = c.queue_row-address.result in
    let old = c.loop-j.forms in
    let mid = c.integer.new.forms in
    let new = c.integer-in-loop-j.new.forms in
    let kept = keeps_both c.args.forms.now old mid c.loop-j.invariant.kept c.integer.ensures.kept in
    let both = keeps_both old mid new c.integer.ensures.kept c.integer-in-loop-j.ensures.kept in
    let address : held new c.in_ok-address.address ≡ Some (integer_form (integer_form_of o row.0)) =
    c.integer-in-loop-j.ensures.kept.forms_stay c.in_ok-address.address _ c.in_ok-address.ensures.form in
    let value : held new c.in_ok-value.value ≡ Some (integer_form (integer_form_of o row.1)) =
    c.in_ok-value.ensures.form in
    let a = polynomial_found new c.in_ok-address.address _ address in
    let v = polynomial_found new c.in_ok-value.value _ value in
    let pair : pair_in new (c.in_ok-address.address, c.in_ok-value.value) ≡ queue_pair o row = λ i. (a i, v i) in
    let others = map (queue_pair o) (drop (c.loop-j.j + 1) (queue_rows o c.args.t)) in
    let rest : map (queue_pair o) (drop c.loop-j.j (queue_rows o c.args.t))
    ≡ queue_pair o row ∷ others = ap (map (queue_pair o))
    (drop_next (queue_rows o c.args.t) c.loop-j.j row c.queue_row-address.ensures) in
    let so = g.P.Program.object c.args.program.now in
    let sy = two_trees (g.M.Meter.counted c.loop-j.meter) (g.M.Meter.counted c.integer.new.meter)
    (g.M.Meter.counted c.integer-in-loop-j.new.meter) (g.M.Meter.counted c.args.meter.now) c.loop-j.j
    (tree_cost so 0) c.loop-j.invariant.steps c.integer.ensures.steps c.integer-in-loop-j.ensures.steps in
    record {
      steps = sy;
      own = c.integer-in-loop-j.ensures.own;
      kept = keeps_both _ _ _ kept c.integer-in-loop-j.ensures.kept;
      held = rw c.in_ok-push.ensures.ok (λ i p e. get_pushed c.loop-j.queue (
        c.in_ok-address.address,
        c.in_ok-value.value,
      ) i p e (λ _ z. IsInteger new z.0
          × IsInteger new z.1) (
            integer_from new c.in_ok-address.address _ address,
            integer_from new c.in_ok-value.value _ value,
          ) (λ j z f.
          queue_kept old new c.loop-j.queue both c.loop-j.invariant.held j z f));
      left = rw (
        c.in_ok-push.ensures.ok,
        map_push (pair_in new) c.loop-j.queue (
          c.in_ok-address.address,
          c.in_ok-value.value,
        ),
        queue_stays old new c.loop-j.queue both c.loop-j.invariant.held,
      ) (
          one_more (map (pair_in old) c.loop-j.queue) (pair_in new (c.in_ok-address.address, c.in_ok-value.value))
          others
          ∙ ap (λ (p : FormPair). map (pair_in old) c.loop-j.queue ++ (p ∷ others)) pair
          ∙ ap (λ (ps : List FormPair). map (pair_in old) c.loop-j.queue ++ ps) (sym rest)
          ∙ c.loop-j.invariant.left);
    }

pub returns-clause-pairs : goal.returns-clause-pairs
returns-clause-pairs g c =
    let o = (g.P.Program.object c.args.program.now) in
    let none = ap (map (queue_pair o)) (drop_all c.loop-j.j (queue_rows o c.args.t) (omega arith)) in
    sym (append-nil (map (pair_in c.loop-j.forms) c.loop-j.queue))
    ∙ ap (λ (ps : List FormPair). map (pair_in c.loop-j.forms) c.loop-j.queue ++ ps) (sym none)
    ∙ c.loop-j.invariant.left

pub returns-in_err-address-clause-steps : goal.returns-in_err-address-clause-steps
returns-in_err-address-clause-steps g c =
    let so = g.P.Program.object c.args.program.now in
    let sy = two_trees (g.M.Meter.counted c.loop-j.meter) (g.M.Meter.counted c.integer.new.meter)
    (g.M.Meter.counted c.integer.new.meter) (g.M.Meter.counted c.args.meter.now) c.loop-j.j
    (tree_cost so 0) c.loop-j.invariant.steps c.integer.ensures.steps (omega arith) in
    some_trees (g.M.Meter.counted c.integer.new.meter) (g.M.Meter.counted c.args.meter.now) (c.loop-j.j + 1) c.args.rows
    (2 * tree_cost so 0) sy
    (omega (arith, c.loop-j-test.true))

pub returns-in_err-value-clause-steps : goal.returns-in_err-value-clause-steps
returns-in_err-value-clause-steps g c =
    let so = g.P.Program.object c.args.program.now in
    let sy = two_trees (g.M.Meter.counted c.loop-j.meter) (g.M.Meter.counted c.integer.new.meter)
    (g.M.Meter.counted c.integer-in-loop-j.new.meter) (g.M.Meter.counted c.args.meter.now) c.loop-j.j
    (tree_cost so 0) c.loop-j.invariant.steps c.integer.ensures.steps c.integer-in-loop-j.ensures.steps in
    some_trees (g.M.Meter.counted c.integer-in-loop-j.new.meter) (g.M.Meter.counted c.args.meter.now) (c.loop-j.j + 1)
    c.args.rows (2 * tree_cost so 0) sy
    (omega (arith, c.loop-j-test.true))

pub returns-in_err-push-clause-steps : goal.returns-in_err-push-clause-steps
returns-in_err-push-clause-steps g c =
    let so = g.P.Program.object c.args.program.now in
    let sy = two_trees (g.M.Meter.counted c.loop-j.meter) (g.M.Meter.counted c.integer.new.meter)
    (g.M.Meter.counted c.integer-in-loop-j.new.meter) (g.M.Meter.counted c.args.meter.now) c.loop-j.j
    (tree_cost so 0) c.loop-j.invariant.steps c.integer.ensures.steps c.integer-in-loop-j.ensures.steps in
    some_trees (g.M.Meter.counted c.integer-in-loop-j.new.meter) (g.M.Meter.counted c.args.meter.now) (c.loop-j.j + 1)
    c.args.rows (2 * tree_cost so 0) sy
    (omega (arith, c.loop-j-test.true))

pub returns-clause-steps : goal.returns-clause-steps
returns-clause-steps g c = some_trees (g.M.Meter.counted c.loop-j.meter) (g.M.Meter.counted c.args.meter.now) c.loop-j.j
    c.args.rows
    (2 * tree_cost (g.P.Program.object c.args.program.now) 0) c.loop-j.invariant.steps
    (omega (arith, c.loop-j.auto.j-end))
