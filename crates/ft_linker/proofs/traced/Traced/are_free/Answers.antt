use Rattle.std.proofs.Common.{sym, ◌∙◌, arith}
use Rattle.ft_linker.proofs.Walks.{free_goes, free_stops, free_ends}
use Rattle.ft_linker.proofs.traced.Traced.are_free.Goals as goal

pub loop-j-preserved : goal.loop-j-preserved
loop-j-preserved c = λ e h. c.loop-j.invariant e h
    ∙ free_goes e c.args.rows.now c.loop-j.j c.at-row.result.now c.at-row.ensures (sym (c.if-not-is_free.ensures e h))

pub returns-then-not-is_free : goal.returns-then-not-is_free
returns-then-not-is_free c = λ e h. sym (c.loop-j.invariant e h
    ∙ free_stops e c.args.rows.now c.loop-j.j c.at-row.result.now c.at-row.ensures (sym (c.if-not-is_free.ensures e h)))

pub returns : goal.returns
returns c = λ e h. sym (c.loop-j.invariant e h ∙ free_ends e c.args.rows.now c.loop-j.j (omega arith))
