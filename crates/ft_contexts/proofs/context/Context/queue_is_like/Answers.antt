use Rattle.std.proofs.Common.{map, sym, ◌∙◌, arith, ◌≤◌, ◌+◌, ◌*◌, refl}
use Rattle.std.proofs.lemmas.List.{length-map}
use Rattle.ft_isa.proofs.Lists.{there_mapped}
use Rattle.ft_types.specs.Objects.{queue_rows}
use Rattle.ft_contexts.specs.Contexts.{pair_in, replacement_in}
use Rattle.ft_static.specs.Form.{updates}
use Rattle.ft_norm.specs.Held.{updates_held}
use Rattle.ft_norm.proofs.HeldForms.{keeps_both}
use Rattle.ft_contexts.specs.Costs.{tree_cost}
use Rattle.ft_contexts.proofs.Costs.{few_queue_rows, one_tree, some_trees}
use Rattle.ft_contexts.proofs.Kept.{variables_kept, replacement_stays, integer_kept, integer_stays, memory_stays}
use Rattle.ft_contexts.proofs.Spelled.{queue_row_spelled}
use Rattle.ft_contexts.proofs.Turns.{head_says, unlike_lengths, queue_turn, queue_end}
use Rattle.ft_contexts.proofs.context.Context.queue_is_like.Goals as goal

pub returns-then-len-rows-clause-like : goal.returns-then-len-rows-clause-like
returns-then-len-rows-clause-like g c =
    let h = (head_says (g.P.Program.object c.args.program.now) c.args.t c.code_type-rows.result
    c.code_type-rows.ensures).2 in
    let n = length-map c.args.self.now.queue (pair_in c.args.forms.now) in
    sym (unlike_lengths (g.P.Program.object c.args.program.now) _ _ _ (λ s.
    c.if-len-rows.true (c.len.ensures ∙ sym n ∙ s ∙ sym h)))

pub pair_is_like-requires-clause-row : goal.pair_is_like-requires-clause-row
pair_is_like-requires-clause-row g c = rw c.requires.count
    (queue_row_spelled (g.P.Program.object c.args.program.now) c.args.t c.loop-j.j c.queue_row-row.result
    c.requires.spellable c.requires.there c.queue_row-row.ensures)

pub pair_is_like-requires-clause-address : goal.pair_is_like-requires-clause-address
pair_is_like-requires-clause-address g c = integer_kept c.args.forms.now c.loop-j.forms c.at.result.0
    c.loop-j.invariant.kept (c.requires.held.queue c.loop-j.j c.at.result c.at.ensures).0

pub pair_is_like-requires-clause-value : goal.pair_is_like-requires-clause-value
pair_is_like-requires-clause-value g c = integer_kept c.args.forms.now c.loop-j.forms c.at.result.1
    c.loop-j.invariant.kept (c.requires.held.queue c.loop-j.j c.at.result c.at.ensures).1

pub pair_is_like-requires-clause-put : goal.pair_is_like-requires-clause-put
pair_is_like-requires-clause-put g c = variables_kept c.args.forms.now c.loop-j.forms c.args.put.now
    c.loop-j.invariant.kept c.requires.put

pub returns-then-not-like-clause-like : goal.returns-then-not-like-clause-like
returns-then-not-like-clause-like g c =
    let pair = c.at.result in
    let row = c.queue_row-row.result in
    let k = c.requires.held.queue c.loop-j.j pair c.at.ensures in
    let a = integer_stays c.args.forms.now c.loop-j.forms pair.0 c.loop-j.invariant.kept k.0 in
    let v = integer_stays c.args.forms.now c.loop-j.forms pair.1 c.loop-j.invariant.kept k.1 in
    let x = replacement_stays c.args.forms.now c.loop-j.forms c.args.put.now c.loop-j.invariant.kept c.requires.put in
    let turn = queue_turn (g.P.Program.object c.args.program.now) (replacement_in c.args.forms.now c.args.put.now)
    (map (pair_in c.args.forms.now) c.args.self.now.queue)
    (queue_rows (g.P.Program.object c.args.program.now) c.args.t) c.loop-j.j (pair_in c.args.forms.now pair) row
    c.in_ok-like.like (there_mapped (pair_in c.args.forms.now) c.args.self.now.queue c.loop-j.j pair c.at.ensures)
    c.queue_row-row.ensures (rw (a, v, x) at c.in_ok-like.ensures.like) in
    let stop = rw c.if-not-like.true at turn in
    sym stop ∙ c.loop-j.invariant.left

pub loop-j-preserved : goal.loop-j-preserved
loop-j-preserved g c =
    let pair = c.at.result in
    let row = c.queue_row-row.result in
    let k = c.requires.held.queue c.loop-j.j pair c.at.ensures in
    let a = integer_stays c.args.forms.now c.loop-j.forms pair.0 c.loop-j.invariant.kept k.0 in
    let v = integer_stays c.args.forms.now c.loop-j.forms pair.1 c.loop-j.invariant.kept k.1 in
    let x = replacement_stays c.args.forms.now c.loop-j.forms c.args.put.now c.loop-j.invariant.kept c.requires.put in
    let turn = queue_turn (g.P.Program.object c.args.program.now) (replacement_in c.args.forms.now c.args.put.now)
    (map (pair_in c.args.forms.now) c.args.self.now.queue)
    (queue_rows (g.P.Program.object c.args.program.now) c.args.t) c.loop-j.j (pair_in c.args.forms.now pair) row
    c.in_ok-like.like (there_mapped (pair_in c.args.forms.now) c.args.self.now.queue c.loop-j.j pair c.at.ensures)
    c.queue_row-row.ensures (rw (a, v, x) at c.in_ok-like.ensures.like) in
    let go = rw c.if-not-like.false at turn in
    let so = g.P.Program.object c.args.program.now in
    let cost = tree_cost (g.P.Program.object c.args.program.now)
    (updates (updates_held c.args.forms.now c.args.put.now.memory)) in
    let sz = memory_stays c.args.forms.now c.loop-j.forms c.args.put.now.memory c.loop-j.invariant.kept
    c.requires.put.memory in
    let sx : (g.M.Meter.counted c.pair_is_like.new.meter) ≤ (g.M.Meter.counted c.loop-j.meter) + 2 * cost =
    rw sz at c.pair_is_like.ensures.steps in
    let sy = one_tree (g.M.Meter.counted c.loop-j.meter) (g.M.Meter.counted c.pair_is_like.new.meter) (c.loop-j.j + 1)
    (g.M.Meter.counted c.args.meter.now) c.loop-j.j (2 * cost)
    c.loop-j.invariant.steps sx refl in
    record {
      steps = sy;
      kept = keeps_both _ _ _ c.loop-j.invariant.kept c.pair_is_like.ensures.kept;
      made = c.pair_is_like.ensures.made;
      count = c.loop-j.invariant.count;
      left = sym go ∙ c.loop-j.invariant.left;
    }

pub returns-clause-like : goal.returns-clause-like
returns-clause-like g c =
    let h = (head_says (g.P.Program.object c.args.program.now) c.args.t c.code_type-rows.result
    c.code_type-rows.ensures).2 in
    let n = length-map c.args.self.now.queue (pair_in c.args.forms.now) in
    let m = c.loop-j.invariant.count in
    sym (queue_end (g.P.Program.object c.args.program.now) _ _ _ c.loop-j.j (omega arith) (omega arith))
    ∙ c.loop-j.invariant.left

pub returns-in_err-like-clause-steps : goal.returns-in_err-like-clause-steps
returns-in_err-like-clause-steps g c =
    let o = g.P.Program.object c.args.program.now in
    let cost = tree_cost (g.P.Program.object c.args.program.now)
    (updates (updates_held c.args.forms.now c.args.put.now.memory)) in
    let z = memory_stays c.args.forms.now c.loop-j.forms c.args.put.now.memory c.loop-j.invariant.kept
    c.requires.put.memory in
    let x : (g.M.Meter.counted c.pair_is_like.new.meter) ≤ (g.M.Meter.counted c.loop-j.meter) + 2 * cost =
    rw z at c.pair_is_like.ensures.steps in
    let y = one_tree (g.M.Meter.counted c.loop-j.meter) (g.M.Meter.counted c.pair_is_like.new.meter) (c.loop-j.j + 1)
    (g.M.Meter.counted c.args.meter.now) c.loop-j.j (2 * cost)
    c.loop-j.invariant.steps x refl in
    let n = (head_says o c.args.t c.code_type-rows.result c.code_type-rows.ensures).2 in
    let f = few_queue_rows o c.args.t c.requires.spellable c.requires.there in
    (let w = some_trees (g.M.Meter.counted c.pair_is_like.new.meter) (g.M.Meter.counted c.args.meter.now)
    (c.loop-j.j + 1) 8 (2 * cost) y
    (omega (arith, n, f, c.loop-j-test.true)) in omega (arith, w))

pub returns-then-not-like-clause-steps : goal.returns-then-not-like-clause-steps
returns-then-not-like-clause-steps g c =
    let o = g.P.Program.object c.args.program.now in
    let cost = tree_cost (g.P.Program.object c.args.program.now)
    (updates (updates_held c.args.forms.now c.args.put.now.memory)) in
    let z = memory_stays c.args.forms.now c.loop-j.forms c.args.put.now.memory c.loop-j.invariant.kept
    c.requires.put.memory in
    let x : (g.M.Meter.counted c.pair_is_like.new.meter) ≤ (g.M.Meter.counted c.loop-j.meter) + 2 * cost =
    rw z at c.pair_is_like.ensures.steps in
    let y = one_tree (g.M.Meter.counted c.loop-j.meter) (g.M.Meter.counted c.pair_is_like.new.meter) (c.loop-j.j + 1)
    (g.M.Meter.counted c.args.meter.now) c.loop-j.j (2 * cost)
    c.loop-j.invariant.steps x refl in
    let n = (head_says o c.args.t c.code_type-rows.result c.code_type-rows.ensures).2 in
    let f = few_queue_rows o c.args.t c.requires.spellable c.requires.there in
    (let w = some_trees (g.M.Meter.counted c.pair_is_like.new.meter) (g.M.Meter.counted c.args.meter.now)
    (c.loop-j.j + 1) 8 (2 * cost) y
    (omega (arith, n, f, c.loop-j-test.true)) in omega (arith, w))

pub returns-clause-steps : goal.returns-clause-steps
returns-clause-steps g c =
    let o = g.P.Program.object c.args.program.now in
    let cost = tree_cost (g.P.Program.object c.args.program.now)
    (updates (updates_held c.args.forms.now c.args.put.now.memory)) in
    let n = (head_says o c.args.t c.code_type-rows.result c.code_type-rows.ensures).2 in
    let f = few_queue_rows o c.args.t c.requires.spellable c.requires.there in
    (let w = some_trees (g.M.Meter.counted c.loop-j.meter) (g.M.Meter.counted c.args.meter.now) c.loop-j.j 8 (2 * cost)
    c.loop-j.invariant.steps
    (omega (arith, n, f, c.loop-j.auto.j-end)) in omega (arith, w))
