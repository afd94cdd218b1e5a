use Rattle.std.proofs.Common.{nat_le, arith, sym, ap, ◌∙◌}
use Rattle.std.specs.List.{list_all}
use Rattle.ft_isa.proofs.Lists.{range_past}
use Rattle.ft_types.specs.Objects.{scope_of}
use Rattle.ft_contexts.proofs.Lists.{range_there, all_turn, all_stop}
use Rattle.ft_contexts.proofs.likeness.are_within.Goals as goal

pub returns-then-not-within : goal.returns-then-not-within
returns-then-not-within g c = sym (all_stop _ _ _ c.subst_row.result
    (range_there (g.P.Program.object c.args.program.now).substs c.loop-n.n c.args.subst.past c.subst_row.result
    c.loop-n-test.true c.subst_row.ensures) (sym c.is_within-within.ensures ∙ c.if-not-within.true))
    ∙ c.loop-n.invariant

pub loop-n-preserved : goal.loop-n-preserved
loop-n-preserved g c = sym (all_turn _ _ _ c.subst_row.result
    (range_there (g.P.Program.object c.args.program.now).substs c.loop-n.n c.args.subst.past c.subst_row.result
    c.loop-n-test.true c.subst_row.ensures) (sym c.is_within-within.ensures ∙ c.if-not-within.false))
    ∙ c.loop-n.invariant

pub returns : goal.returns
returns g c = sym (ap (list_all (λ n. nat_le (scope_of (g.P.Program.object c.args.program.now) n) c.args.ints))
    (range_past (g.P.Program.object c.args.program.now).substs c.loop-n.n c.args.subst.past (omega arith)))
    ∙ c.loop-n.invariant
