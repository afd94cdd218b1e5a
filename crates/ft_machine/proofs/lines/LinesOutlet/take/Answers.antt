use Rattle.std.proofs.Common.{◌∷◌, ◌++◌, [], sym, subst}
use Rattle.ft_edge.specs.Lines.{Puts, end_of_puts}
use Rattle.ft_types.specs.Texts.{line_at}
use Rattle.ft_machine.specs.Drives.{PutsOutputs}
use Rattle.ft_machine.proofs.Putting.{outputs_next}
use Rattle.ft_machine.proofs.lines.LinesOutlet.take.Goals as goal

pub returns-clause-heard : goal.returns-clause-heard
returns-clause-heard g c = λ first before h.
    let o = g.P.Program.object first.program.now in
    let x = c.args.output in
    let old = g.K.Sink.log c.args.self.now.out.now in
    let new = g.K.Sink.log c.put_output.new.out in
    let put = subst (λ q. Puts (end_of_puts c.put_output.result) (line_at q x ∷ []) old new) h.1
    c.put_output.ensures in (
      h.0,
      h.1,
      subst (λ b. PutsOutputs o (before ++ x ∷ []) b (g.K.Sink.log first.out.now) new) (sym c.is_ok.ensures.value)
          (outputs_next o before x c.put_output.result (g.K.Sink.log first.out.now) old new h.2 put),
    )
