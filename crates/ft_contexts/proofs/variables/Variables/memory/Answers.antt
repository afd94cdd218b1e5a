use Rattle.std.proofs.Common.{length, Some, ap, ◌∙◌}
use Rattle.ft_contexts.specs.Contexts.{replacement_in}
use Rattle.ft_static.specs.Form.{updates}
use Rattle.ft_norm.specs.Held.{updates_held}
use Rattle.ft_contexts.proofs.Costs.{tree_steps}
use Rattle.ft_contexts.proofs.Nodes.{memory_under}
use Rattle.ft_contexts.proofs.variables.Variables.memory.Goals as goal

pub form-requires-clause-made : goal.form-requires-clause-made
form-requires-clause-made g c = let nodes = g.met.P.Program.nodes_are c.args.program.now in
    rw (nodes, c.as_slice-ints.ensures) c.requires.made

pub returns-in_err-form-clause-made : goal.returns-in_err-form-clause-made
returns-in_err-form-clause-made g c = let nodes = g.met.P.Program.nodes_are c.args.program.now in
    rw (nodes, c.as_slice-ints.ensures) at c.form.ensures.made

pub returns-clause-made : goal.returns-clause-made
returns-clause-made g c = let nodes = g.met.P.Program.nodes_are c.args.program.now in
    rw (nodes, c.as_slice-ints.ensures) at c.form.ensures.made

pub returns-clause-form : goal.returns-clause-form
returns-clause-form g c =
    let o = g.P.Program.object c.args.program.now in
    let nodes = g.met.P.Program.nodes_are c.args.program.now in
    let made = rw (nodes, c.as_slice-ints.ensures) at c.in_ok-form.ensures.form in
    made ∙ ap Some (memory_under o (replacement_in c.args.forms.now c.args.self.now) (length c.args.self.now.integers)
    c.args.n c.requires.spellable.nodes c.requires.node)

pub returns-in_err-form-clause-steps : goal.returns-in_err-form-clause-steps
returns-in_err-form-clause-steps g c = tree_steps (g.P.Program.object c.args.program.now) c.args.n
    (updates (updates_held c.args.forms.now c.args.self.now.memory)) (g.M.Meter.counted c.args.meter.now)
    (g.M.Meter.counted c.form.new.meter)
    c.requires.node.lower c.form.ensures.steps

pub returns-clause-steps : goal.returns-clause-steps
returns-clause-steps g c = tree_steps (g.P.Program.object c.args.program.now) c.args.n
    (updates (updates_held c.args.forms.now c.args.self.now.memory)) (g.M.Meter.counted c.args.meter.now)
    (g.M.Meter.counted c.form.new.meter)
    c.requires.node.lower c.form.ensures.steps
