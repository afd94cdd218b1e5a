use Rattle.std.proofs.Common.{length, ap, arith, subst}
use Rattle.ft_types.specs.Spellable.{IsInstr, subst_of}
use Rattle.ft_contexts.specs.Contexts.{context_in}
use Rattle.ft_rules.proofs.Chains.{row_of, steps_of}
use Rattle.ft_contexts.proofs.Kept.{shared_kept}
use Rattle.ft_contexts.proofs.Spelled.{subst_spelled, instr_spelled}
use Rattle.ft_rules.proofs.rows.apply_rule_over.Goals as goal

pub jump_blue-requires-clause-subst : goal.jump_blue-requires-clause-subst
jump_blue-requires-clause-subst g c = subst_spelled (g.P.Program.object c.args.program.now) c.requires.instr.index
    c.args.instr.now _ c.requires.spellable c.requires.instr.found (ap subst_of c.in-JmpB.is)

pub branch_blue-requires-clause-subst : goal.branch_blue-requires-clause-subst
branch_blue-requires-clause-subst g c = subst_spelled (g.P.Program.object c.args.program.now) c.requires.instr.index
    c.args.instr.now _ c.requires.spellable c.requires.instr.found (ap subst_of c.in-BzB.is)

pub claim-requires-clause-base : goal.claim-requires-clause-base
claim-requires-clause-base g c =
    let s = instr_spelled (g.P.Program.object c.args.program.now) c.requires.instr.index c.args.instr.now
    c.requires.spellable c.requires.instr.found in
    (subst (IsInstr (length (g.P.Program.object c.args.program.now).types)
    (length (g.P.Program.object c.args.program.now).cells)) c.in-Mov.is s).1.base

pub index-requires-clause-run : goal.index-requires-clause-run
index-requires-clause-run g c =
    let s = instr_spelled (g.P.Program.object c.args.program.now) c.requires.instr.index c.args.instr.now
    c.requires.spellable c.requires.instr.found in
    subst (IsInstr (length (g.P.Program.object c.args.program.now).types)
    (length (g.P.Program.object c.args.program.now).cells)) c.in-Idx.is s

pub returns-in-OpReg : goal.returns-in-OpReg
returns-in-OpReg g c =
    let d = c.operate.ensures.row (g.P.Program.object c.args.program.now) c.requires.types in
    record {
      row = row_of (g.P.Program.object c.args.program.now) (context_in c.args.forms.now c.args.ctx.now)
          c.operate.new.forms c.operate.new.context c.operate.result c.args.instr.now _ c.in-OpReg.is d.row;
      before = d.before;
      kept = d.kept;
      held = d.held;
      types = d.types;
      grows = d.grows;
      shared = shared_kept (g.P.Program.object c.args.program.now) c.args.forms.now c.operate.new.forms
          c.args.shared.now d.kept c.requires.shared;
      steps = steps_of (g.P.Program.object c.args.program.now) (context_in c.args.forms.now c.args.ctx.now)
          c.args.instr.now _ (g.M.Meter.counted c.args.meter.now) (g.M.Meter.counted c.operate.new.meter) c.in-OpReg.is
          (omega (arith, c.operate.ensures.steps));
    }

pub returns-in-OpWord : goal.returns-in-OpWord
returns-in-OpWord g c =
    let d = c.operate_word.ensures.row (g.P.Program.object c.args.program.now) c.requires.types in
    record {
      row = row_of (g.P.Program.object c.args.program.now) (context_in c.args.forms.now c.args.ctx.now)
          c.operate_word.new.forms c.operate_word.new.context c.operate_word.result c.args.instr.now _ c.in-OpWord.is
          d.row;
      before = d.before;
      kept = d.kept;
      held = d.held;
      types = d.types;
      grows = d.grows;
      shared = shared_kept (g.P.Program.object c.args.program.now) c.args.forms.now c.operate_word.new.forms
          c.args.shared.now d.kept c.requires.shared;
      steps = steps_of (g.P.Program.object c.args.program.now) (context_in c.args.forms.now c.args.ctx.now)
          c.args.instr.now _ (g.M.Meter.counted c.args.meter.now) (g.M.Meter.counted c.operate_word.new.meter)
          c.in-OpWord.is
          (omega (arith, c.operate_word.ensures.steps));
    }

pub returns-in-Ld : goal.returns-in-Ld
returns-in-Ld g c =
    let d = c.load.ensures.row (g.P.Program.object c.args.program.now) c.requires.types in
    record {
      row = row_of (g.P.Program.object c.args.program.now) (context_in c.args.forms.now c.args.ctx.now)
          c.load.new.forms c.load.new.context c.load.result c.args.instr.now _ c.in-Ld.is d.row;
      before = d.before;
      kept = d.kept;
      held = d.held;
      types = d.types;
      grows = d.grows;
      shared = shared_kept (g.P.Program.object c.args.program.now) c.args.forms.now c.load.new.forms c.args.shared.now
          d.kept c.requires.shared;
      steps = steps_of (g.P.Program.object c.args.program.now)
          (context_in c.args.forms.now c.args.ctx.now) c.args.instr.now _ (g.M.Meter.counted c.args.meter.now)
          (g.M.Meter.counted c.load.new.meter) c.in-Ld.is
          (omega (arith, c.load.ensures.steps));
    }

pub returns-in-St : goal.returns-in-St
returns-in-St g c =
    let d = c.store.ensures (g.P.Program.object c.args.program.now) c.requires.types in
    record {
      row = row_of (g.P.Program.object c.args.program.now) (context_in c.args.forms.now c.args.ctx.now)
          c.store.new.forms c.store.new.context c.store.result c.args.instr.now _ c.in-St.is d.row;
      before = d.before;
      kept = d.kept;
      held = d.held;
      types = d.types;
      grows = d.grows;
      shared = shared_kept (g.P.Program.object c.args.program.now) c.args.forms.now c.store.new.forms c.args.shared.now
          d.kept c.requires.shared;
      steps = steps_of (g.P.Program.object c.args.program.now)
          (context_in c.args.forms.now c.args.ctx.now) c.args.instr.now _ (g.M.Meter.counted c.args.meter.now)
          (g.M.Meter.counted c.args.meter.now) c.in-St.is
          (omega arith);
    }

pub returns-in-JmpG : goal.returns-in-JmpG
returns-in-JmpG g c =
    let d = c.jump_green.ensures (g.P.Program.object c.args.program.now) c.requires.types in
    record {
      row = row_of (g.P.Program.object c.args.program.now) (context_in c.args.forms.now c.args.ctx.now)
          c.args.forms.now c.jump_green.new.context c.jump_green.result c.args.instr.now _ c.in-JmpG.is d.row;
      before = d.before;
      kept = d.kept;
      held = d.held;
      types = d.types;
      grows = d.grows;
      shared = c.requires.shared;
      steps = steps_of (g.P.Program.object c.args.program.now) (context_in c.args.forms.now c.args.ctx.now)
          c.args.instr.now _ (g.M.Meter.counted c.args.meter.now) (g.M.Meter.counted c.args.meter.now) c.in-JmpG.is
          (omega arith);
    }

pub returns-in-BzG : goal.returns-in-BzG
returns-in-BzG g c =
    let d = c.branch_green.ensures (g.P.Program.object c.args.program.now) c.requires.types in
    record {
      row = row_of (g.P.Program.object c.args.program.now) (context_in c.args.forms.now c.args.ctx.now)
          c.args.forms.now c.branch_green.new.context c.branch_green.result c.args.instr.now _ c.in-BzG.is d.row;
      before = d.before;
      kept = d.kept;
      held = d.held;
      types = d.types;
      grows = d.grows;
      shared = c.requires.shared;
      steps = steps_of (g.P.Program.object c.args.program.now) (context_in c.args.forms.now c.args.ctx.now)
          c.args.instr.now _ (g.M.Meter.counted c.args.meter.now) (g.M.Meter.counted c.args.meter.now) c.in-BzG.is
          (omega arith);
    }

pub returns-in-Halt : goal.returns-in-Halt
returns-in-Halt g c =
    let d = c.halt.ensures (g.P.Program.object c.args.program.now) c.requires.types in
    record {
      row = row_of (g.P.Program.object c.args.program.now) (context_in c.args.forms.now c.args.ctx.now)
          c.args.forms.now c.args.ctx.now c.halt.result c.args.instr.now _ c.in-Halt.is d.row;
      before = d.before;
      kept = d.kept;
      held = d.held;
      types = d.types;
      grows = d.grows;
      shared = c.requires.shared;
      steps = steps_of (g.P.Program.object c.args.program.now) (context_in c.args.forms.now c.args.ctx.now)
          c.args.instr.now _ (g.M.Meter.counted c.args.meter.now) (g.M.Meter.counted c.args.meter.now) c.in-Halt.is
          (omega arith);
    }

pub returns-in-Mov : goal.returns-in-Mov
returns-in-Mov g c =
    let d = c.claim.ensures in
    record {
      row = row_of (g.P.Program.object c.args.program.now) (context_in c.args.forms.now c.args.ctx.now)
          c.claim.new.forms c.claim.new.context c.claim.result c.args.instr.now _ c.in-Mov.is d.row;
      before = d.before;
      kept = d.kept;
      held = d.held;
      types = d.types;
      grows = d.grows;
      shared = shared_kept (g.P.Program.object c.args.program.now) c.args.forms.now c.claim.new.forms c.args.shared.now
          d.kept c.requires.shared;
      steps = steps_of (g.P.Program.object c.args.program.now)
          (context_in c.args.forms.now c.args.ctx.now) c.args.instr.now _ (g.M.Meter.counted c.args.meter.now)
          (g.M.Meter.counted c.args.meter.now) c.in-Mov.is
          (omega arith);
    }

pub returns-in-Idx : goal.returns-in-Idx
returns-in-Idx g c =
    let d = c.index.ensures in
    record {
      row = row_of (g.P.Program.object c.args.program.now) (context_in c.args.forms.now c.args.ctx.now)
          c.index.new.forms c.index.new.context c.index.result c.args.instr.now _ c.in-Idx.is d.row;
      before = d.before;
      kept = d.kept;
      held = d.held;
      types = d.types;
      grows = d.grows;
      shared = shared_kept (g.P.Program.object c.args.program.now) c.args.forms.now c.index.new.forms c.args.shared.now
          d.kept c.requires.shared;
      steps = steps_of (g.P.Program.object c.args.program.now)
          (context_in c.args.forms.now c.args.ctx.now) c.args.instr.now _ (g.M.Meter.counted c.args.meter.now)
          (g.M.Meter.counted c.args.meter.now) c.in-Idx.is
          (omega arith);
    }

pub returns-in-JmpB : goal.returns-in-JmpB
returns-in-JmpB g c =
    let d = c.jump_blue.ensures.row in
    record {
      row = row_of (g.P.Program.object c.args.program.now) (context_in c.args.forms.now c.args.ctx.now)
          c.jump_blue.new.forms c.args.ctx.now c.jump_blue.result c.args.instr.now _ c.in-JmpB.is d.row;
      before = d.before;
      kept = d.kept;
      held = d.held;
      types = d.types;
      grows = d.grows;
      shared = c.jump_blue.ensures.shared;
      steps = steps_of (g.P.Program.object c.args.program.now) (context_in c.args.forms.now c.args.ctx.now)
          c.args.instr.now _ (g.M.Meter.counted c.args.meter.now) (g.M.Meter.counted c.jump_blue.new.meter) c.in-JmpB.is
          c.jump_blue.ensures.steps;
    }

pub returns-in-BzB : goal.returns-in-BzB
returns-in-BzB g c =
    let d = c.branch_blue.ensures.row in
    record {
      row = row_of (g.P.Program.object c.args.program.now) (context_in c.args.forms.now c.args.ctx.now)
          c.branch_blue.new.forms c.branch_blue.new.context c.branch_blue.result c.args.instr.now _ c.in-BzB.is d.row;
      before = d.before;
      kept = d.kept;
      held = d.held;
      types = d.types;
      grows = d.grows;
      shared = c.branch_blue.ensures.shared;
      steps = steps_of (g.P.Program.object c.args.program.now)
          (context_in c.args.forms.now c.args.ctx.now) c.args.instr.now _ (g.M.Meter.counted c.args.meter.now)
          (g.M.Meter.counted c.branch_blue.new.meter)
          c.in-BzB.is c.branch_blue.ensures.steps;
    }
