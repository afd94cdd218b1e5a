use Rattle.std.proofs.Common.{Option, arith, length, sym, subst, ap, ◌∙◌}
use Rattle.std.specs.Option.{option_or}
use Rattle.ft_isa.proofs.Lists.{all_there}
use Rattle.ft_typing.specs.Accepted.{Refusal, first_refusal, block_refusal}
use Rattle.ft_types.specs.Spellable.{HasCodeType}
use Rattle.ft_checker.specs.Judges.{Judges}
use Rattle.ft_checker.proofs.Costs.{cost_whole}
use Rattle.ft_checker.proofs.Turned.{refusal_first, refusal_rest, type_found, or_refused, judges_exit}
use Rattle.ft_checker.proofs.judge.judge.Goals as goal

pub is_entry_type-begins-requires-clause-there : goal.is_entry_type-begins-requires-clause-there
is_entry_type-begins-requires-clause-there g c = all_there
    (HasCodeType (length (g.P.Program.object c.args.program.now).types)) (g.P.Program.object c.args.program.now).blocks
    c.entry.result c.block-first.result c.requires.block_types c.block-first.ensures

pub returns-then-not-begins-clause-judged : goal.returns-then-not-begins-clause-judged
returns-then-not-begins-clause-judged g c = refusal_first (g.P.Program.object c.args.program.now) _
    (type_found (g.P.Program.object c.args.program.now) (g.P.Program.object c.args.program.now).entry
    c.block-first.result (rw c.entry.ensures at c.block-first.ensures)) (sym c.is_entry_type-begins.ensures
    ∙ c.if-not-begins.true)

pub returns-in_err-check_cells-clause-judged : goal.returns-in_err-check_cells-clause-judged
returns-in_err-check_cells-clause-judged g c = judges_exit _ _ _ _ c.from_residual-in_err-check_cells.ensures.1
    (refusal_rest (g.P.Program.object c.args.program.now) _
    (type_found (g.P.Program.object c.args.program.now) (g.P.Program.object c.args.program.now).entry
    c.block-first.result (rw c.entry.ensures at c.block-first.ensures)) (sym c.is_entry_type-begins.ensures
    ∙ c.if-not-begins.false)) (or_refused _ _ _ c.in_err-check_cells.ensures)

pub returns-clause-judged : goal.returns-clause-judged
returns-clause-judged g c =
    let rest = refusal_rest (g.P.Program.object c.args.program.now) _
    (type_found (g.P.Program.object c.args.program.now) (g.P.Program.object c.args.program.now).entry
    c.block-first.result (rw c.entry.ensures at c.block-first.ensures)) (sym c.is_entry_type-begins.ensures
    ∙ c.if-not-begins.false) in
    let blocks = ap (λ (x : Option Refusal). option_or x
    (first_refusal (block_refusal (g.P.Program.object c.args.program.now)) 0
    (g.P.Program.object c.args.program.now).blocks)) c.in_ok-check_cells.ensures in
    subst (λ (x : Option Refusal). Judges x c.check_blocks.result) (sym (rest ∙ blocks)) c.check_blocks.ensures.judged

pub returns-clause-steps : goal.returns-clause-steps
returns-clause-steps g c = let w = cost_whole (g.P.Program.object c.args.program.now) in
    omega (arith, w, c.check_blocks.ensures.steps, c.pay.ensures)
