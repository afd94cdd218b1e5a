use Rattle.std.proofs.Common.{arith}
use Rattle.ft_norm.proofs.HeldForms.{keeps_both}
use Rattle.ft_typing.specs.TypingRow.{row}
use Rattle.ft_contexts.specs.Contexts.{context_in}
use Rattle.ft_contexts.proofs.Kept.{forms_kept}
use Rattle.ft_rules.proofs.Chains.{does_stop, grows_on, row_on, steps_on}
use Rattle.ft_rules.proofs.rows.apply_rule.Goals as goal

pub returns-in_err-shared : goal.returns-in_err-shared
returns-in_err-shared g c =
    let o = g.P.Program.object c.args.program.now in
    let d = does_stop c.from_residual.result (row o (context_in c.args.forms.now c.args.ctx.now) c.args.instr.now) o
    c.args.forms.now c.new.new.forms c.args.ctx.now c.from_residual.ensures.1 c.new.ensures.kept c.requires.held
    c.requires.types in
    record {
      row = d.row;
      before = d.before;
      kept = d.kept;
      held = d.held;
      types = d.types;
      grows = d.grows;
      steps = omega arith;
    }

pub apply_rule_over-requires-clause-held : goal.apply_rule_over-requires-clause-held
apply_rule_over-requires-clause-held g c = forms_kept c.args.forms.now c.new.new.forms c.args.ctx.now c.new.ensures.kept
    c.requires.held

pub apply_rule_over-requires-clause-shared : goal.apply_rule_over-requires-clause-shared
apply_rule_over-requires-clause-shared g c = c.in_ok-shared.ensures.shared (g.P.Program.object c.args.program.now)

pub returns-clause-row : goal.returns-clause-row
returns-clause-row g c = row_on (g.P.Program.object c.args.program.now) c.args.forms.now c.new.new.forms
    c.apply_rule_over.new.forms c.args.ctx.now c.apply_rule_over.new.ctx c.args.instr.now c.apply_rule_over.result
    c.new.ensures.kept c.requires.held c.apply_rule_over.ensures.row

pub returns-clause-kept : goal.returns-clause-kept
returns-clause-kept g c = keeps_both _ _ _ c.new.ensures.kept c.apply_rule_over.ensures.kept

pub returns-clause-grows : goal.returns-clause-grows
returns-clause-grows g c = grows_on c.args.forms.now c.new.new.forms c.apply_rule_over.new.forms c.args.ctx.now
    c.apply_rule_over.new.ctx c.new.ensures.kept c.requires.held c.apply_rule_over.ensures.grows

pub returns-clause-steps : goal.returns-clause-steps
returns-clause-steps g c = steps_on (g.P.Program.object c.args.program.now) c.args.forms.now c.new.new.forms
    c.args.ctx.now c.args.instr.now (g.M.Meter.counted c.args.meter.now) (g.M.Meter.counted c.apply_rule_over.new.meter)
    c.new.ensures.kept c.requires.held
    c.apply_rule_over.ensures.steps
