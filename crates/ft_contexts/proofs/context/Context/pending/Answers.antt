use Rattle.std.proofs.Common.{Some, arith, sym, ap, ◌∙◌}
use Rattle.ft_static.specs.Form.{memory_form, Updates, updates}
use Rattle.ft_norm.specs.Held.{polynomial, updates_held}
use Rattle.ft_norm.proofs.Made.{updates-norm_upd}
use Rattle.ft_norm.proofs.HeldForms.{memory_from, keeps_both}
use Rattle.ft_contexts.proofs.Kept.{integer_kept, integer_stays, updates_found}
use Rattle.ft_contexts.proofs.Turns.{pending_turn, pending_end}
use Rattle.ft_contexts.proofs.context.Context.pending.Goals as goal

pub upd-requires-clause-address : goal.upd-requires-clause-address
upd-requires-clause-address g c = integer_kept c.args.forms.now c.loop-j.forms c.at.result.0 c.loop-j.invariant.kept
    (c.requires.queue c.loop-j.j c.at.result c.at.ensures).0

pub upd-requires-clause-value : goal.upd-requires-clause-value
upd-requires-clause-value g c = integer_kept c.args.forms.now c.loop-j.forms c.at.result.1 c.loop-j.invariant.kept
    (c.requires.queue c.loop-j.j c.at.result c.at.ensures).1

pub loop-j-preserved : goal.loop-j-preserved
loop-j-preserved g c =
    let k = c.requires.queue c.loop-j.j c.at.result c.at.ensures in
    let a = integer_stays c.args.forms.now c.loop-j.forms c.at.result.0 c.loop-j.invariant.kept k.0 in
    let v = integer_stays c.args.forms.now c.loop-j.forms c.at.result.1 c.loop-j.invariant.kept k.1 in
    let u = updates_found c.upd.new.self c.in_ok-memory.memory _ (rw (a, v) at c.in_ok-memory.ensures.form) in
    record {
      kept = keeps_both _ _ _ c.loop-j.invariant.kept c.upd.ensures.kept;
      count =
          let w = ap updates (updates_found c.upd.new.self c.in_ok-memory.memory _ c.in_ok-memory.ensures.form) in
          let x = updates-norm_upd (updates_held c.loop-j.forms c.loop-j.memory)
          (polynomial c.loop-j.forms c.at.result.0) (polynomial c.loop-j.forms c.at.result.1) in
          omega (arith, w, x, c.loop-j.invariant.count);
      steps = omega (arith, c.loop-j.invariant.steps, c.take.ensures);
      memory = memory_from c.upd.new.self c.in_ok-memory.memory _ c.in_ok-memory.ensures.form;
      left = rw u (sym (pending_turn c.args.forms.now (updates_held c.loop-j.forms c.loop-j.memory)
          c.args.self.now.queue c.loop-j.j c.at.result c.at.ensures) ∙ c.loop-j.invariant.left);
    }

pub returns-clause-form : goal.returns-clause-form
returns-clause-form g c =
    let e = pending_end c.args.forms.now (updates_held c.loop-j.forms c.loop-j.memory) c.args.self.now.queue c.loop-j.j
    (omega arith) in
    c.loop-j.invariant.memory.found ∙ ap (λ (u : Updates). Some (memory_form u)) (sym e ∙ c.loop-j.invariant.left)
