use Rattle.std.proofs.Common.{Some, ap, ◌∙◌, arith}
use Rattle.ft_static.specs.Form.{memory_form, Updates, unchanged, updates}
use Rattle.ft_contexts.proofs.Costs.{own_steps}
use Rattle.ft_contexts.proofs.Kept.{own_held, own_kept, updates_found}
use Rattle.ft_contexts.proofs.Nodes.{own_memory}
use Rattle.ft_contexts.proofs.variables.OwnVariables.memory.Goals as goal

pub memory-requires-clause-node : goal.memory-requires-clause-node
memory-requires-clause-node g c = rw c.requires.own.own.count c.requires.node

pub memory-requires-clause-held : goal.memory-requires-clause-held
memory-requires-clause-held g c = own_held c.args.forms.now 128 c.args.self.now.variables c.requires.own.own

pub memory-requires-clause-made : goal.memory-requires-clause-made
memory-requires-clause-made g c = c.requires.own.made

pub returns-in_err-form-clause-own : goal.returns-in_err-form-clause-own
returns-in_err-form-clause-own g c = record {
  own =
      own_kept c.args.forms.now c.memory.new.forms 128 c.args.self.now.variables c.memory.ensures.kept
      c.requires.own.own;
  made = c.memory.ensures.made;
}

pub returns-clause-own : goal.returns-clause-own
returns-clause-own g c = record {
  own = own_kept c.args.forms.now c.memory.new.forms 128 c.args.self.now.variables
      c.memory.ensures.kept c.requires.own.own;
  made = c.memory.ensures.made;
}

pub returns-clause-form : goal.returns-clause-form
returns-clause-form g c =
    let o = g.P.Program.object c.args.program.now in
    c.in_ok-form.ensures.form ∙ ap (λ (x : Updates).
    Some (memory_form x)) (own_memory o c.args.forms.now 128 c.args.self.now.variables c.args.n
    c.requires.spellable.nodes c.requires.own.own (rw c.requires.own.own.count c.requires.node))

pub returns-in_err-form-clause-steps : goal.returns-in_err-form-clause-steps
returns-in_err-form-clause-steps g c = own_steps (g.P.Program.object c.args.program.now) c.args.forms.now 128
    c.args.self.now.variables (g.M.Meter.counted c.args.meter.now) (g.M.Meter.counted c.memory.new.meter)
    c.requires.own.own c.memory.ensures.steps

pub returns-clause-steps : goal.returns-clause-steps
returns-clause-steps g c = own_steps (g.P.Program.object c.args.program.now) c.args.forms.now 128
    c.args.self.now.variables (g.M.Meter.counted c.args.meter.now) (g.M.Meter.counted c.memory.new.meter)
    c.requires.own.own c.memory.ensures.steps

pub returns-clause-count : goal.returns-clause-count
returns-clause-count g c =
    let z = ap updates (updates_found c.args.forms.now c.args.self.now.variables.memory unchanged
    c.requires.own.own.memory) in
    omega (arith, z, c.in_ok-form.ensures.count)
