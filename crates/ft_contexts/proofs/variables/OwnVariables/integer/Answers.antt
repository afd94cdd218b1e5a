use Rattle.std.proofs.Common.{Some, ap, ◌∙◌}
use Rattle.ft_static.specs.Form.{integer_form, Polynomial}
use Rattle.ft_contexts.proofs.Costs.{own_steps}
use Rattle.ft_contexts.proofs.Kept.{own_held, own_kept}
use Rattle.ft_contexts.proofs.Nodes.{own_integer}
use Rattle.ft_contexts.proofs.variables.OwnVariables.integer.Goals as goal

pub integer-requires-clause-node : goal.integer-requires-clause-node
integer-requires-clause-node g c = rw c.requires.own.own.count c.requires.node

pub integer-requires-clause-held : goal.integer-requires-clause-held
integer-requires-clause-held g c = own_held c.args.forms.now 128 c.args.self.now.variables c.requires.own.own

pub integer-requires-clause-made : goal.integer-requires-clause-made
integer-requires-clause-made g c = c.requires.own.made

pub returns-in_err-form-clause-own : goal.returns-in_err-form-clause-own
returns-in_err-form-clause-own g c = record {
  own =
      own_kept c.args.forms.now c.integer.new.forms 128 c.args.self.now.variables c.integer.ensures.kept
      c.requires.own.own;
  made = c.integer.ensures.made;
}

pub returns-clause-own : goal.returns-clause-own
returns-clause-own g c = record {
  own = own_kept c.args.forms.now c.integer.new.forms 128 c.args.self.now.variables
      c.integer.ensures.kept c.requires.own.own;
  made = c.integer.ensures.made;
}

pub returns-clause-form : goal.returns-clause-form
returns-clause-form g c =
    let o = g.P.Program.object c.args.program.now in
    c.in_ok-form.ensures.form ∙ ap (λ (x : Polynomial).
    Some (integer_form x)) (own_integer o c.args.forms.now 128 c.args.self.now.variables c.args.n
    c.requires.spellable.nodes c.requires.own.own (rw c.requires.own.own.count c.requires.node))

pub returns-in_err-form-clause-steps : goal.returns-in_err-form-clause-steps
returns-in_err-form-clause-steps g c = own_steps (g.P.Program.object c.args.program.now) c.args.forms.now 128
    c.args.self.now.variables (g.M.Meter.counted c.args.meter.now) (g.M.Meter.counted c.integer.new.meter)
    c.requires.own.own c.integer.ensures.steps

pub returns-clause-steps : goal.returns-clause-steps
returns-clause-steps g c = own_steps (g.P.Program.object c.args.program.now) c.args.forms.now 128
    c.args.self.now.variables (g.M.Meter.counted c.args.meter.now) (g.M.Meter.counted c.integer.new.meter)
    c.requires.own.own c.integer.ensures.steps
