use Rattle.std.proofs.Common.{◌+◌, ◌%◌, ◌^◌, ◌∷◌, ◌++◌, [], refl, sym, subst, arith}
use Rattle.ft_edge.specs.Lines.{Puts, end_of_puts}
use Rattle.ft_types.specs.Texts.{line_at}
use Rattle.ft_recover.specs.Passing.{Passes}
use Rattle.ft_recover.proofs.Stretches.{passes_over, passes_put}
use Rattle.ft_recover.proofs.passing.PassingOutlet.take.Goals as goal

pub returns-then-self-gt0-clause-heard : goal.returns-then-self-gt0-clause-heard
returns-then-self-gt0-clause-heard g c = λ first before h.
    let self = c.args.self.now in (
      h.0,
      h.1,
      passes_over (g.P.Program.object first.program.now) first.passed first.count before c.args.output self.passed
          self.count (g.K.Sink.log first.out.now) (g.K.Sink.log self.out.now) h.2
          _ _ (omega (arith, c.if-self-gt0.true)) refl refl,
    )

pub returns-clause-heard : goal.returns-clause-heard
returns-clause-heard g c = λ first before h.
    let o = g.P.Program.object first.program.now in
    let self = c.args.self.now in
    let x = c.args.output in
    let start = g.K.Sink.log first.out.now in
    let old = g.K.Sink.log self.out.now in
    let new = g.K.Sink.log c.put_output.new.out in
    let put = subst (λ q. Puts (end_of_puts c.put_output.result) (line_at q x ∷ []) old new) h.1
    c.put_output.ensures in (
      h.0,
      h.1,
      subst (λ b. Passes o first.passed first.count (before ++ x ∷ []) b self.passed ((self.count + 1) % 2 ^ 64) start
          new) (sym c.is_ok.ensures.value)
          (passes_put o first.passed first.count before x self.passed self.count start old h.2 c.put_output.result
          ((self.count + 1) % 2 ^ 64) new (omega (arith, c.if-self-gt0.false)) refl put),
    )
