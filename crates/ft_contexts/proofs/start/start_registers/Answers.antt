use Rattle.std.proofs.Common.{◌≡◌, ◌+◌, refl, drop, Option, None, Some, arith, sym, ap, ◌∙◌}
use Rattle.std.proofs.lemmas.List.{length-set, length-replicate}
use Rattle.ft_static.specs.Form.{integer_form}
use Rattle.ft_norm.specs.Held.{held}
use Rattle.ft_norm.proofs.HeldForms.{integer_from, keeps_both}
use Rattle.ft_types.specs.Objects.{reg_rows}
use Rattle.ft_typing.specs.Context.{TypedRegisters, registers_after, integer_form_of}
use Rattle.ft_contexts.specs.declared.register.RegForm.{RegForm}
use Rattle.ft_contexts.specs.Contexts.{registers_in}
use Rattle.ft_contexts.specs.Costs.{tree_cost}
use Rattle.ft_contexts.proofs.Costs.{one_tree, some_trees}
use Rattle.ft_contexts.proofs.Kept.{keeps_itself, registers_kept}
use Rattle.ft_contexts.proofs.Registers.{registers_held_set, registers_typed_set}
use Rattle.ft_contexts.proofs.Spelled.{most_scope, reg_row_spelled}
use Rattle.ft_contexts.proofs.Turns.{registers_none, none_there, registers_turn, registers_end, registers_noted}
use Rattle.ft_contexts.proofs.start.start_registers.Goals as goal

pub loop-j-init : goal.loop-j-init
loop-j-init g c = record {
  kept = keeps_itself _;
  steps = omega arith;
  own = c.requires.own;
  sized = length-replicate {A = Option RegForm} 64 None;
  held = λ r x e. none_there 64 r x _ e;
  types = λ r x e. none_there 64 r x _ e;
  left = ap (λ (m : TypedRegisters). registers_after (g.P.Program.object c.args.program.now) m
      (reg_rows (g.P.Program.object c.args.program.now) c.args.t)) (registers_none c.args.forms.now 0 64);
}

pub integer-requires-clause-node : goal.integer-requires-clause-node
integer-requires-clause-node g c =
    let o = g.P.Program.object c.args.program.now in
    most_scope o c.args.t c.reg_row-row.result.expr _ c.requires.spellable c.requires.there
    (reg_row_spelled o c.args.t c.loop-j.j c.reg_row-row.result c.requires.spellable c.requires.there
    c.reg_row-row.ensures).expr

pub loop-j-preserved : goal.loop-j-preserved
loop-j-preserved g c =
    let o = (g.P.Program.object c.args.program.now) in
    let row = c.reg_row-row.result in
    let spelled = reg_row_spelled o c.args.t c.loop-j.j row c.requires.spellable c.requires.there c.reg_row-row.ensures
    in
    let made : held c.integer.new.forms c.in_ok-form.form ≡ Some (integer_form (integer_form_of o row.expr)) =
    c.in_ok-form.ensures.form in
    let sy = one_tree (g.M.Meter.counted c.loop-j.meter) (g.M.Meter.counted c.integer.new.meter) (c.loop-j.j + 1)
    (g.M.Meter.counted c.args.meter.now) c.loop-j.j (tree_cost o 0)
    c.loop-j.invariant.steps c.integer.ensures.steps refl in
    record {
      steps = sy;
      own = c.integer.ensures.own;
      kept = keeps_both _ _ _ c.loop-j.invariant.kept c.integer.ensures.kept;
      sized = length-set c.loop-j.registers c.number.result _ ∙ c.loop-j.invariant.sized;
      held = registers_held_set c.integer.new.forms c.loop-j.registers c.number.result _
          (registers_kept c.loop-j.forms c.integer.new.forms c.loop-j.registers c.integer.ensures.kept
          c.loop-j.invariant.held) (integer_from c.integer.new.forms c.in_ok-form.form _ made);
      types = registers_typed_set _ c.loop-j.registers c.number.result _ c.loop-j.invariant.types spelled.basic.base;
      left = ap (λ (m : TypedRegisters). registers_after o m (drop (c.loop-j.j + 1) (reg_rows o c.args.t)))
          (registers_noted o c.loop-j.forms c.integer.new.forms c.loop-j.registers c.number.result row c.in_ok-form.form
          c.integer.ensures.kept c.loop-j.invariant.held (let n = c.loop-j.invariant.sized in
          omega arith) c.number.ensures.same made)
          ∙ sym (registers_turn o (registers_in c.loop-j.forms 0 c.loop-j.registers) (reg_rows o c.args.t) c.loop-j.j
          row c.reg_row-row.ensures) ∙ c.loop-j.invariant.left;
    }

pub returns-clause-known : goal.returns-clause-known
returns-clause-known g c = sym (registers_end (g.P.Program.object c.args.program.now)
    (registers_in c.loop-j.forms 0 c.loop-j.registers) (reg_rows (g.P.Program.object c.args.program.now) c.args.t)
    c.loop-j.j (omega arith)) ∙ c.loop-j.invariant.left

pub returns-in_err-form-clause-steps : goal.returns-in_err-form-clause-steps
returns-in_err-form-clause-steps g c =
    let so = g.P.Program.object c.args.program.now in
    let sy = one_tree (g.M.Meter.counted c.loop-j.meter) (g.M.Meter.counted c.integer.new.meter) (c.loop-j.j + 1)
    (g.M.Meter.counted c.args.meter.now) c.loop-j.j (tree_cost so 0)
    c.loop-j.invariant.steps c.integer.ensures.steps refl in
    some_trees (g.M.Meter.counted c.integer.new.meter) (g.M.Meter.counted c.args.meter.now) (c.loop-j.j + 1) c.args.rows
    (tree_cost so 0) sy
    (omega (arith, c.loop-j-test.true))

pub returns-clause-steps : goal.returns-clause-steps
returns-clause-steps g c = some_trees (g.M.Meter.counted c.loop-j.meter) (g.M.Meter.counted c.args.meter.now) c.loop-j.j
    c.args.rows
    (tree_cost (g.P.Program.object c.args.program.now) 0) c.loop-j.invariant.steps (omega (arith, c.loop-j.auto.j-end))
