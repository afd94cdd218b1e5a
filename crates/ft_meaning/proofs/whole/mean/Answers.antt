use Rattle.std.proofs.Common.{length, map, sym, ap, ◌∙◌, subst}
use Rattle.ft_edge.specs.Lines.{Puts}
use Rattle.ft_scope.specs.ProgramOf.{program_of}
use Rattle.ft_meaning.specs.Meaning.{meaning, outputs}
use Rattle.ft_meaning.specs.Lines.{output_lines}
use Rattle.ft_meaning.specs.Ends.{EndsAs, put_end}
use Rattle.ft_meaning.proofs.Composed.{meant, names_many}
use Rattle.ft_meaning.proofs.whole.mean.Goals as goal

pub returns-clause-ends : goal.returns-clause-ends
returns-clause-ends g c =
    let start = c.in-Ok-start.ensures in
    subst (λ e. EndsAs e (meaning (program_of c.args.prog.now) c.args.turns)) (sym c.end_of_run.ensures)
    (meant c.args.prog.now c.args.turns c.in-Ok-start.state c.statements.new.self
    (map (λ n. n.items) c.deref-2.result.now) c.deref-3.result.now _ _
    c.statements.result (ap (map (λ n. n.items)) c.deref-2.ensures.value ∙ c.in-Ok.ensures) c.deref-3.ensures.value
    start.vars start.cells start.left
    c.statements.ensures.runs).ends

pub returns-clause-lines : goal.returns-clause-lines
returns-clause-lines g c =
    let start = c.in-Ok-start.ensures in
    let p = program_of c.args.prog.now in
    let old = g.K.Sink.log c.args.out.now in
    let new = g.K.Sink.log c.statements.new.out in
    subst (λ e. Puts (put_end e) (output_lines p.names (outputs (meaning p c.args.turns))) old new)
    (sym c.end_of_run.ensures)
    (meant c.args.prog.now c.args.turns c.in-Ok-start.state c.statements.new.self
    (map (λ n. n.items) c.deref-2.result.now) c.deref-3.result.now old new
    c.statements.result (ap (map (λ n. n.items)) c.deref-2.ensures.value ∙ c.in-Ok.ensures) c.deref-3.ensures.value
    start.vars start.cells start.left
    c.statements.ensures.runs).lines

pub start-requires : goal.start-requires
start-requires g c = ap length c.deref.ensures.value ∙ names_many c.args.prog.now c.in-Ok.names.items c.in-Ok.ensures
