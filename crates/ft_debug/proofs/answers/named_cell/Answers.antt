use Rattle.std.proofs.Common.{sym, ◌∙◌, arith}
use Rattle.std.proofs.lemmas.Bool.{true≢false}
use Rattle.std.proofs.lemmas.Slice.Eq.{bytes_eq-Decides}
use Rattle.ft_debug.proofs.Listed.{found_name, short_name, other_name, no_name}
use Rattle.ft_debug.proofs.answers.named_cell.Goals as goal

pub loop-k-init : goal.loop-k-init
loop-k-init g c = λ j d l. absurd (omega arith)

pub returns-then-eq-clause-found : goal.returns-then-eq-clause-found
returns-then-eq-clause-found g c =
    sym (found_name (g.P.Program.object c.args.program.now) c.args.name.now c.name.result.now c.loop-k.k c.name.ensures
    ((bytes_eq-Decides _ _).0 (sym c.eq.ensures ∙ c.if-eq.true)) c.loop-k.invariant)

pub returns-then-eq-clause-short : goal.returns-then-eq-clause-short
returns-then-eq-clause-short g c = short_name (g.P.Program.object c.args.program.now) c.args.name.now c.name.result.now
    c.loop-k.k c.requires c.name.ensures ((bytes_eq-Decides _ _).0 (sym c.eq.ensures ∙ c.if-eq.true))

pub loop-k-preserved : goal.loop-k-preserved
loop-k-preserved g c =
    other_name (g.P.Program.object c.args.program.now) c.args.name.now c.name.result.now c.loop-k.k c.name.ensures (λ e.
    true≢false (sym ((bytes_eq-Decides _ _).1 e) ∙ sym c.eq.ensures ∙ c.if-eq.false)) c.loop-k.invariant

pub returns-clause-found : goal.returns-clause-found
returns-clause-found g c =
    let o = g.P.Program.object c.args.program.now in
    sym (no_name o c.args.name.now c.loop-k.k (omega (arith, c.counts-k-end.ensures.cells, c.loop-k-test.false))
    c.loop-k.invariant)
