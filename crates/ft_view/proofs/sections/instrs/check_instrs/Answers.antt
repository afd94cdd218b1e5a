use Rattle.std.proofs.Common.{◌≡◌, ◌+◌, ◌-◌, ℕ, suc, None, Some, List, refl, sym, ap, ◌∙◌, arith, take}
use Rattle.std.proofs.lemmas.List.{length-drop}
use Rattle.std.proofs.lemmas.Result.{err_from_is_err_and}
use Rattle.ft_format.specs.Layout.{numbers, code_layout}
use Rattle.ft_format.specs.Fields.{code_numbers}
use Rattle.ft_format.specs.InstrRecords.{instr_broken, rows_past}
use Rattle.ft_format.specs.Broken.{instrs_broken, rows_taken}
use Rattle.ft_format.proofs.Loops.{goes, stops, ends, follows}
use Rattle.ft_format.proofs.Substitutions.{past_within}
use Rattle.ft_format.proofs.Layouts.{rows_none}
use Rattle.ft_view.proofs.sections.instrs.check_instrs.Goals as goal

pub returns-in_err-check_instr-clause-judged : goal.returns-in_err-check_instr-clause-judged
unfolding instrs_broken rows_taken
returns-in_err-check_instr-clause-judged c =
    let one_more : c.args.header.instrs - c.loop.counter ≡ suc (c.args.header.instrs - (c.loop.counter + 1)) =
    omega arith in
    let bs = c.loop.rest.now in
    let row : List ℕ = code_numbers c.read-row.result in
    let is : row ≡ numbers code_layout (take 16 bs) = c.read-row.ensures
    ∙ ap (numbers code_layout) c.split_at.ensures.front in
    let rule : (instr_broken c.args.header c.args.nodes.now c.loop.first c.loop.place row)
    ≡ Some c.in_err-check_instr.field-0.0 = c.in_err-check_instr.ensures in
    let p = err_from_is_err_and c.from_residual.result c.from_residual.ensures.1 in
    rw (p.1, p.2) (stops code_layout _ _ bs row (instr_broken c.args.header c.args.nodes.now c.loop.first c.loop.place
    row) _ c.in_err-check_instr.field-0.0 (instrs_broken c.args.header c.args.nodes.now c.loop.first c.loop.place)
    (instrs_broken c.args.header c.args.nodes.now (rows_past c.loop.first row) (c.loop.place + 16)) one_more is
    (λ rest. refl) rule c.loop.invariant.broken)

pub loop-preserved : goal.loop-preserved
unfolding instrs_broken rows_taken
loop-preserved c =
    let one_more : c.args.header.instrs - c.loop.counter ≡ suc (c.args.header.instrs - (c.loop.counter + 1)) =
    omega arith in
    let bs = c.loop.rest.now in
    let row : List ℕ = code_numbers c.read-row.result in
    let is : row ≡ numbers code_layout (take 16 bs) = c.read-row.ensures
    ∙ ap (numbers code_layout) c.split_at.ensures.front in
    let rule : (instr_broken c.args.header c.args.nodes.now c.loop.first c.loop.place row)
    ≡ None = c.in_ok-check_instr.ensures in
    rw (c.split_at.ensures.back, c.rows_past-first.ensures) (record {
      there = omega (arith, length-drop 16 bs);
      places = omega arith;
      few = past_within c.args.header c.args.nodes.now c.loop.first c.loop.place row rule c.loop.invariant.few;
      taken = follows code_layout _ _ bs row _ (rows_taken c.loop.first) (rows_taken (rows_past c.loop.first row))
          one_more is (λ rest. refl) c.loop.invariant.taken;
      broken = goes code_layout _ _ bs row (instr_broken c.args.header c.args.nodes.now c.loop.first c.loop.place row) _
          (instrs_broken c.args.header c.args.nodes.now c.loop.first c.loop.place)
          (instrs_broken c.args.header c.args.nodes.now (rows_past c.loop.first row) (c.loop.place + 16)) one_more is
          (λ rest. refl) rule c.loop.invariant.broken;
    })

pub returns-clause-judged : goal.returns-clause-judged
unfolding instrs_broken rows_taken
returns-clause-judged c =
    let no_more : c.args.header.instrs - c.loop.counter ≡ 0 = omega arith in
    ends code_layout _ c.loop.rest.now _ _ (instrs_broken c.args.header c.args.nodes.now c.loop.first c.loop.place)
    no_more refl c.loop.invariant.broken

pub returns-clause-taken : goal.returns-clause-taken
unfolding rows_taken
returns-clause-taken c =
    let no_more : c.args.header.instrs - c.loop.counter ≡ 0 = omega arith in
    sym (ap (rows_taken c.loop.first) (rows_none code_layout _ c.loop.rest.now no_more)) ∙ c.loop.invariant.taken
