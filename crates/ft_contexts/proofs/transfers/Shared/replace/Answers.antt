use Rattle.std.proofs.Common.{◌≡◌, ◌+◌, ◌-◌, List, ◌∷◌, ◌++◌, map, slice_range, Some, arith, refl, sym, ap, ◌∙◌}
use Rattle.std.proofs.lemmas.List.{map_push, append-nil}
use Rattle.ft_isa.proofs.Lists.{range_past, all_there}
use Rattle.ft_static.specs.Form.{integer_form, Polynomial}
use Rattle.ft_norm.specs.Held.{held, IsInteger, polynomial, polynomials}
use Rattle.ft_norm.proofs.HeldForms.{integer_from, memory_from, keeps_both, polynomials_kept}
use Rattle.ft_types.specs.Spellable.{IsNodeIn}
use Rattle.ft_typing.specs.Context.{replacement, rows_of, integer_form_of}
use Rattle.ft_contexts.specs.Costs.{tree_cost}
use Rattle.ft_contexts.proofs.Costs.{one_tree, some_trees}
use Rattle.ft_contexts.proofs.Kept.{keeps_itself, none_held, integer_kept, polynomial_found, under_kept}
use Rattle.ft_contexts.proofs.Kept.{updates_found, variables_kept}
use Rattle.ft_contexts.proofs.Lists.{get_pushed, range_there, one_more}
use Rattle.ft_contexts.proofs.transfers.Shared.replace.Goals as goal

pub loop-n-init : goal.loop-n-init
loop-n-init g c = record {
  kept = keeps_itself _;
  from = omega arith;
  steps = omega arith;
  shared = record { own = c.requires.shared.own; put = c.requires.shared.put; made = c.requires.shared.made };
  held = none_held _ _ c.clear.ensures;
  left = rw c.clear.ensures refl;
}

pub integer-requires-clause-node : goal.integer-requires-clause-node
integer-requires-clause-node g c = let o = g.P.Program.object c.args.program.now in
    all_there (IsNodeIn o.nodes 128 _) o.substs c.loop-n.n c.subst_row-row.result c.requires.spellable.substs
    c.subst_row-row.ensures

pub loop-n-preserved : goal.loop-n-preserved
loop-n-preserved g c =
    let o = (g.P.Program.object c.args.program.now) in
    let row = c.subst_row-row.result in
    let old = c.loop-n.forms in
    let new = c.integer.new.forms in
    let ints = c.loop-n.self.next in
    let made : held new c.in_ok-form.form ≡ Some (integer_form (integer_form_of o row)) = c.in_ok-form.ensures.form in
    let f = polynomial_found new c.in_ok-form.form _ made in
    let others = map (integer_form_of o) (slice_range o.substs (c.loop-n.n + 1) c.args.subst.past) in
    let there = range_there o.substs c.loop-n.n c.args.subst.past row c.loop-n-test.true c.subst_row-row.ensures in
    let rest : map (integer_form_of o) (slice_range o.substs c.loop-n.n c.args.subst.past)
    ≡ integer_form_of o row ∷ others = ap (map (integer_form_of o)) there in
    let sy = one_tree (g.M.Meter.counted c.loop-n.meter) (g.M.Meter.counted c.integer.new.meter)
    (c.loop-n.n + 1 - c.args.subst.first) (g.M.Meter.counted c.args.meter.now)
    (c.loop-n.n - c.args.subst.first) (tree_cost o 0) c.loop-n.invariant.steps c.integer.ensures.steps
    (omega (arith, c.loop-n.invariant.from)) in
    record {
      from = omega (arith, c.loop-n.invariant.from);
      steps = sy;
      kept = keeps_both _ _ _ c.loop-n.invariant.kept c.integer.ensures.kept;
      shared = record {
        own = c.integer.ensures.own;
        put = variables_kept old new c.loop-n.self.put c.integer.ensures.kept c.loop-n.invariant.shared.put;
        made = under_kept o old new c.loop-n.self.put c.loop-n.self.made c.integer.ensures.kept
            c.loop-n.invariant.shared.put c.loop-n.invariant.shared.made;
      };
      held = rw c.in_ok-push.ensures.ok (λ i x e. get_pushed ints c.in_ok-form.form i x e (λ _ z.
          IsInteger new z) (integer_from new c.in_ok-form.form _ made) (λ j z s.
          integer_kept old new z c.integer.ensures.kept (c.loop-n.invariant.held j z s)));
      left = rw (
        c.in_ok-push.ensures.ok,
        map_push (polynomial new) ints c.in_ok-form.form,
        polynomials_kept old new ints c.integer.ensures.kept c.loop-n.invariant.held,
      ) (
          one_more (polynomials old ints) (polynomial new c.in_ok-form.form) others
          ∙ ap (λ (p : Polynomial). polynomials old ints ++ (p ∷ others)) f
          ∙ ap (λ (ps : List Polynomial). polynomials old ints ++ ps) (sym rest)
          ∙ c.loop-n.invariant.left);
    }

pub returns-in_err-form-clause-shared : goal.returns-in_err-form-clause-shared
returns-in_err-form-clause-shared g c = record {
  own = c.integer.ensures.own;
  put = variables_kept _ _ c.loop-n.self.put c.integer.ensures.kept c.loop-n.invariant.shared.put;
  made = under_kept (g.P.Program.object c.args.program.now) _ _ c.loop-n.self.put c.loop-n.self.made
      c.integer.ensures.kept c.loop-n.invariant.shared.put
      c.loop-n.invariant.shared.made;
}

pub returns-in_err-push-clause-shared : goal.returns-in_err-push-clause-shared
returns-in_err-push-clause-shared g c = record {
  own = c.integer.ensures.own;
  put = variables_kept _ _ c.loop-n.self.put c.integer.ensures.kept c.loop-n.invariant.shared.put;
  made = under_kept (g.P.Program.object c.args.program.now) _ _ c.loop-n.self.put c.loop-n.self.made
      c.integer.ensures.kept c.loop-n.invariant.shared.put
      c.loop-n.invariant.shared.made;
}

pub returns-in_err-memory-clause-shared : goal.returns-in_err-memory-clause-shared
returns-in_err-memory-clause-shared g c = record {
  own = c.memory.ensures.own;
  put = variables_kept _ _ c.loop-n.self.put c.memory.ensures.kept c.loop-n.invariant.shared.put;
  made = under_kept (g.P.Program.object c.args.program.now) _ _ c.loop-n.self.put c.loop-n.self.made
      c.memory.ensures.kept c.loop-n.invariant.shared.put
      c.loop-n.invariant.shared.made;
}

pub returns-clause-shared : goal.returns-clause-shared
returns-clause-shared g c =
    let o = (g.P.Program.object c.args.program.now) in
    let new = c.memory.new.forms in
    record {
      own = rw c.substitute.ensures.own c.memory.ensures.own;
      put = record {
        integers = rw c.substitute.ensures.integers (λ i x e.
            integer_kept c.loop-n.forms new x c.memory.ensures.kept (c.loop-n.invariant.held i x e));
        memory = rw c.substitute.ensures.memory (memory_from new c.in_ok-memory.memory _ c.in_ok-memory.ensures.form);
      };
      made = c.substitute.ensures.made o new (under_kept o c.loop-n.forms new c.loop-n.self.put c.loop-n.self.made
          c.memory.ensures.kept c.loop-n.invariant.shared.put c.loop-n.invariant.shared.made);
    }

pub returns-clause-replaced : goal.returns-clause-replaced
unfolding replacement
returns-clause-replaced g c =
    let o = (g.P.Program.object c.args.program.now) in
    let ints = c.loop-n.self.next in
    let none = ap (map (integer_form_of o)) (range_past o.substs c.loop-n.n c.args.subst.past (omega arith)) in
    let integers : polynomials c.memory.new.forms ints ≡ map (integer_form_of o) (rows_of o c.args.subst) =
    polynomials_kept c.loop-n.forms c.memory.new.forms ints c.memory.ensures.kept c.loop-n.invariant.held
    ∙ sym (append-nil (polynomials c.loop-n.forms ints)) ∙ ap (λ (ps : List Polynomial). polynomials c.loop-n.forms ints
    ++ ps) (sym none) ∙ c.loop-n.invariant.left in
    let memory = updates_found c.memory.new.forms c.in_ok-memory.memory _ c.in_ok-memory.ensures.form in
    rw (c.substitute.ensures.integers, c.substitute.ensures.memory) (λ i. record {
      integers = integers i;
      memory = memory i;
    })

pub returns-in_err-form-clause-steps : goal.returns-in_err-form-clause-steps
returns-in_err-form-clause-steps g c =
    let so = g.P.Program.object c.args.program.now in
    let sy = one_tree (g.M.Meter.counted c.loop-n.meter) (g.M.Meter.counted c.integer.new.meter)
    (c.loop-n.n + 1 - c.args.subst.first) (g.M.Meter.counted c.args.meter.now)
    (c.loop-n.n - c.args.subst.first) (tree_cost so 0) c.loop-n.invariant.steps c.integer.ensures.steps
    (omega (arith, c.loop-n.invariant.from)) in
    some_trees (g.M.Meter.counted c.integer.new.meter) (g.M.Meter.counted c.args.meter.now)
    (c.loop-n.n + 1 - c.args.subst.first) 129 (tree_cost so 0) sy
    (omega (arith, c.requires.subst.few, c.loop-n-test.true))

pub returns-in_err-push-clause-steps : goal.returns-in_err-push-clause-steps
returns-in_err-push-clause-steps g c =
    let so = g.P.Program.object c.args.program.now in
    let sy = one_tree (g.M.Meter.counted c.loop-n.meter) (g.M.Meter.counted c.integer.new.meter)
    (c.loop-n.n + 1 - c.args.subst.first) (g.M.Meter.counted c.args.meter.now)
    (c.loop-n.n - c.args.subst.first) (tree_cost so 0) c.loop-n.invariant.steps c.integer.ensures.steps
    (omega (arith, c.loop-n.invariant.from)) in
    some_trees (g.M.Meter.counted c.integer.new.meter) (g.M.Meter.counted c.args.meter.now)
    (c.loop-n.n + 1 - c.args.subst.first) 129 (tree_cost so 0) sy
    (omega (arith, c.requires.subst.few, c.loop-n-test.true))

pub returns-in_err-memory-clause-steps : goal.returns-in_err-memory-clause-steps
returns-in_err-memory-clause-steps g c =
    let so = g.P.Program.object c.args.program.now in
    let sy = some_trees (g.M.Meter.counted c.loop-n.meter) (g.M.Meter.counted c.args.meter.now)
    (c.loop-n.n - c.args.subst.first) 128 (tree_cost so 0)
    c.loop-n.invariant.steps (omega (arith, c.requires.subst.few, c.loop-n.auto.n-end)) in
    omega (arith, c.memory.ensures.steps, sy)

pub returns-clause-steps : goal.returns-clause-steps
returns-clause-steps g c =
    let so = g.P.Program.object c.args.program.now in
    let sy = some_trees (g.M.Meter.counted c.loop-n.meter) (g.M.Meter.counted c.args.meter.now)
    (c.loop-n.n - c.args.subst.first) 128 (tree_cost so 0)
    c.loop-n.invariant.steps (omega (arith, c.requires.subst.few, c.loop-n.auto.n-end)) in
    omega (arith, c.memory.ensures.steps, sy)
