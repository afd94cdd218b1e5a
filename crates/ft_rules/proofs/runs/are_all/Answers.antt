use Rattle.std.proofs.Common.{arith, map, sym, ap, ◌∙◌}
use Rattle.std.specs.List.{list_all}
use Rattle.ft_isa.proofs.Lists.{range_past}
use Rattle.ft_types.specs.Objects.{basic_of}
use Rattle.ft_typing.specs.TypedWord.{same_basic}
use Rattle.ft_contexts.proofs.Lists.{all_turn, all_stop}
use Rattle.ft_rules.proofs.Cells.{types_there}
use Rattle.ft_rules.proofs.runs.are_all.Goals as goal

pub returns-then-not-same : goal.returns-then-not-same
returns-then-not-same g c = sym (all_stop _ _ _ c.cell-cell.result.basic
    (types_there (g.P.Program.object c.args.program.now) c.loop-k.k c.args.past c.cell-cell.result c.loop-k-test.true
    c.cell-cell.ensures) (sym c.same_basic-same.ensures ∙ c.if-not-same.true)) ∙ c.loop-k.invariant

pub loop-k-preserved : goal.loop-k-preserved
loop-k-preserved g c = sym (all_turn _ _ _ c.cell-cell.result.basic
    (types_there (g.P.Program.object c.args.program.now) c.loop-k.k c.args.past c.cell-cell.result c.loop-k-test.true
    c.cell-cell.ensures) (sym c.same_basic-same.ensures ∙ c.if-not-same.false)) ∙ c.loop-k.invariant

pub returns : goal.returns
returns g c = sym (ap (λ xs. list_all (same_basic c.args.basic) (map basic_of xs))
    (range_past (g.P.Program.object c.args.program.now).cells c.loop-k.k c.args.past (omega arith)))
    ∙ c.loop-k.invariant
