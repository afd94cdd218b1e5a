use Rattle.std.proofs.Common.{◌≡◌, sym, ap, ◌∙◌, arith, ◌+◌, refl}
use Rattle.std.specs.List.{list_all}
use Rattle.std.proofs.lemmas.List.{drop_all}
use Rattle.ft_isa.proofs.Lists.{drop_next}
use Rattle.ft_types.specs.declared.object.RegType.{RegType}
use Rattle.ft_types.specs.Objects.{reg_rows}
use Rattle.ft_typing.specs.Context.{typed, Replacement}
use Rattle.ft_typing.specs.Context.{Context as Defined}
use Rattle.ft_typing.specs.RowWords.{is_like}
use Rattle.ft_contexts.specs.Contexts.{context_in, replacement_in}
use Rattle.ft_static.specs.Form.{updates}
use Rattle.ft_norm.specs.Held.{updates_held}
use Rattle.ft_norm.proofs.HeldForms.{keeps_both}
use Rattle.ft_contexts.specs.Costs.{tree_cost}
use Rattle.ft_contexts.proofs.Costs.{few_reg_rows, one_tree, put_steps, some_trees}
use Rattle.ft_contexts.proofs.Kept.{forms_kept, variables_kept, context_stays, replacement_stays}
use Rattle.ft_contexts.proofs.Lists.{all_turn, all_stop}
use Rattle.ft_contexts.proofs.Turns.{head_says}
use Rattle.ft_contexts.proofs.context.Context.registers_are_like.Goals as goal

pub register_is_like-requires-clause-held : goal.register_is_like-requires-clause-held
register_is_like-requires-clause-held g c = forms_kept c.args.forms.now c.loop-j.forms c.args.self.now
    c.loop-j.invariant.kept c.requires.held

pub register_is_like-requires-clause-put : goal.register_is_like-requires-clause-put
register_is_like-requires-clause-put g c = variables_kept c.args.forms.now c.loop-j.forms c.args.put.now
    c.loop-j.invariant.kept c.requires.put

pub returns-then-not-like-clause-like : goal.returns-then-not-like-clause-like
returns-then-not-like-clause-like g c =
    let row = c.reg_row-row.result in
    let x = replacement_stays c.args.forms.now c.loop-j.forms c.args.put.now c.loop-j.invariant.kept c.requires.put in
    let k = context_stays c.args.forms.now c.loop-j.forms c.args.self.now c.loop-j.invariant.kept c.requires.held in
    let is : c.in_ok-like.like ≡ is_like (g.P.Program.object c.args.program.now)
    (replacement_in c.args.forms.now c.args.put.now)
    (typed (context_in c.args.forms.now c.args.self.now) row.reg.number) row =
    c.in_ok-like.ensures.like ∙ ap (λ (y : Replacement).
    is_like (g.P.Program.object c.args.program.now) y
    (typed (context_in c.loop-j.forms c.args.self.now) row.reg.number) row) x
    ∙ ap (λ (y : Defined). is_like (g.P.Program.object c.args.program.now)
    (replacement_in c.args.forms.now c.args.put.now) (typed y row.reg.number) row) k in
    sym (all_stop (λ (r : RegType). is_like (g.P.Program.object c.args.program.now)
    (replacement_in c.args.forms.now c.args.put.now)
    (typed (context_in c.args.forms.now c.args.self.now) r.reg.number) r) _ _ row
    (drop_next (reg_rows (g.P.Program.object c.args.program.now) c.args.t) c.loop-j.j row c.reg_row-row.ensures)
    (sym is ∙ c.if-not-like.true)) ∙ c.loop-j.invariant.left

pub loop-j-preserved : goal.loop-j-preserved
loop-j-preserved g c =
    let row = c.reg_row-row.result in
    let x = replacement_stays c.args.forms.now c.loop-j.forms c.args.put.now c.loop-j.invariant.kept c.requires.put in
    let k = context_stays c.args.forms.now c.loop-j.forms c.args.self.now c.loop-j.invariant.kept c.requires.held in
    let is : c.in_ok-like.like ≡ is_like (g.P.Program.object c.args.program.now)
    (replacement_in c.args.forms.now c.args.put.now)
    (typed (context_in c.args.forms.now c.args.self.now) row.reg.number) row =
    c.in_ok-like.ensures.like ∙ ap (λ (y : Replacement).
    is_like (g.P.Program.object c.args.program.now) y
    (typed (context_in c.loop-j.forms c.args.self.now) row.reg.number) row) x
    ∙ ap (λ (y : Defined). is_like (g.P.Program.object c.args.program.now)
    (replacement_in c.args.forms.now c.args.put.now) (typed y row.reg.number) row) k in
    let so = g.P.Program.object c.args.program.now in
    let cost = tree_cost (g.P.Program.object c.args.program.now)
    (updates (updates_held c.args.forms.now c.args.put.now.memory)) in
    let sx = put_steps so c.args.forms.now c.loop-j.forms c.args.put.now (g.M.Meter.counted c.loop-j.meter)
    (g.M.Meter.counted c.register_is_like.new.meter)
    c.loop-j.invariant.kept c.requires.put c.register_is_like.ensures.steps in
    let sy = one_tree (g.M.Meter.counted c.loop-j.meter) (g.M.Meter.counted c.register_is_like.new.meter)
    (c.loop-j.j + 1) (g.M.Meter.counted c.args.meter.now) c.loop-j.j cost
    c.loop-j.invariant.steps sx refl in
    record {
      steps = sy;
      kept = keeps_both _ _ _ c.loop-j.invariant.kept c.register_is_like.ensures.kept;
      made = c.register_is_like.ensures.made;
      left = sym (all_turn (λ (r : RegType). is_like (g.P.Program.object c.args.program.now)
          (replacement_in c.args.forms.now c.args.put.now)
          (typed (context_in c.args.forms.now c.args.self.now) r.reg.number) r) _ _ row
          (drop_next (reg_rows (g.P.Program.object c.args.program.now) c.args.t) c.loop-j.j row c.reg_row-row.ensures)
          (sym is ∙ c.if-not-like.false)) ∙ c.loop-j.invariant.left;
    }

pub returns-clause-like : goal.returns-clause-like
returns-clause-like g c =
    let n = (head_says (g.P.Program.object c.args.program.now) c.args.t c.code_type-j-end.result
    c.code_type-j-end.ensures).1 in
    sym (ap (list_all (λ (r : RegType). is_like (g.P.Program.object c.args.program.now)
    (replacement_in c.args.forms.now c.args.put.now)
    (typed (context_in c.args.forms.now c.args.self.now) r.reg.number) r))
    (drop_all c.loop-j.j (reg_rows (g.P.Program.object c.args.program.now) c.args.t) (omega arith)))
    ∙ c.loop-j.invariant.left

pub returns-in_err-like-clause-steps : goal.returns-in_err-like-clause-steps
returns-in_err-like-clause-steps g c =
    let o = g.P.Program.object c.args.program.now in
    let cost = tree_cost (g.P.Program.object c.args.program.now)
    (updates (updates_held c.args.forms.now c.args.put.now.memory)) in
    let x = put_steps o c.args.forms.now c.loop-j.forms c.args.put.now (g.M.Meter.counted c.loop-j.meter)
    (g.M.Meter.counted c.register_is_like.new.meter)
    c.loop-j.invariant.kept c.requires.put c.register_is_like.ensures.steps in
    let y = one_tree (g.M.Meter.counted c.loop-j.meter) (g.M.Meter.counted c.register_is_like.new.meter)
    (c.loop-j.j + 1) (g.M.Meter.counted c.args.meter.now) c.loop-j.j cost
    c.loop-j.invariant.steps x refl in
    let n = (head_says o c.args.t c.code_type-j-end.result c.code_type-j-end.ensures).1 in
    let f = few_reg_rows o c.args.t c.requires.spellable c.requires.there in
    some_trees (g.M.Meter.counted c.register_is_like.new.meter) (g.M.Meter.counted c.args.meter.now) (c.loop-j.j + 1) 64
    cost y
    (omega (arith, n, f, c.loop-j-test.true))

pub returns-then-not-like-clause-steps : goal.returns-then-not-like-clause-steps
returns-then-not-like-clause-steps g c =
    let o = g.P.Program.object c.args.program.now in
    let cost = tree_cost (g.P.Program.object c.args.program.now)
    (updates (updates_held c.args.forms.now c.args.put.now.memory)) in
    let x = put_steps o c.args.forms.now c.loop-j.forms c.args.put.now (g.M.Meter.counted c.loop-j.meter)
    (g.M.Meter.counted c.register_is_like.new.meter)
    c.loop-j.invariant.kept c.requires.put c.register_is_like.ensures.steps in
    let y = one_tree (g.M.Meter.counted c.loop-j.meter) (g.M.Meter.counted c.register_is_like.new.meter)
    (c.loop-j.j + 1) (g.M.Meter.counted c.args.meter.now) c.loop-j.j cost
    c.loop-j.invariant.steps x refl in
    let n = (head_says o c.args.t c.code_type-j-end.result c.code_type-j-end.ensures).1 in
    let f = few_reg_rows o c.args.t c.requires.spellable c.requires.there in
    some_trees (g.M.Meter.counted c.register_is_like.new.meter) (g.M.Meter.counted c.args.meter.now) (c.loop-j.j + 1) 64
    cost y
    (omega (arith, n, f, c.loop-j-test.true))

pub returns-clause-steps : goal.returns-clause-steps
returns-clause-steps g c =
    let o = g.P.Program.object c.args.program.now in
    let cost = tree_cost (g.P.Program.object c.args.program.now)
    (updates (updates_held c.args.forms.now c.args.put.now.memory)) in
    let n = (head_says o c.args.t c.code_type-j-end.result c.code_type-j-end.ensures).1 in
    let f = few_reg_rows o c.args.t c.requires.spellable c.requires.there in
    some_trees (g.M.Meter.counted c.loop-j.meter) (g.M.Meter.counted c.args.meter.now) c.loop-j.j 64 cost
    c.loop-j.invariant.steps
    (omega (arith, n, f, c.loop-j.auto.j-end))
