use Rattle.std.proofs.Common.{◌≡◌, ◌⊎◌, ⊎_elim, [], refl, sym, ap, ◌∙◌}
use Rattle.ft_edge.specs.Lines.{with_lines}
use Rattle.ft_edge.proofs.Lines.{lines_none}
use Rattle.ft_types.specs.declared.object.Object.{Object}
use Rattle.ft_machine.specs.declared.stepped.Stepped.{Stepped}
use Rattle.ft_machine.specs.declared.stepped.Stepped.TheVariants.{Commit, Quiet, Done, Detected}
use Rattle.ft_debug.specs.Inside.{committed_lines}
use Rattle.ft_debug.proofs.debugger.put_output.Goals as goal

-- a step that committed nothing has no line
no_line : (o : Object) (stepped : Stepped) → (stepped ≡ Quiet) ⊎ ((stepped ≡ Done) ⊎ (stepped ≡ Detected)) →
    committed_lines o stepped ≡ []
no_line o (Commit x) h = absurd (⊎_elim (λ (e : Commit x ≡ Quiet).
    cc) (⊎_elim (λ (e : Commit x ≡ Done). cc) (λ (e : Commit x ≡ Detected). cc)) h)
no_line o Quiet h = refl
no_line o Done h = refl
no_line o Detected h = refl

pub returns-in-Quiet : goal.returns-in-Quiet
returns-in-Quiet g c =
    let log = g.K.Sink.log c.args.out.now in
    let none = no_line (g.P.Program.object c.args.program.now) c.args.stepped c.in-Quiet.is in
    lines_none log ∙ ap (λ ls. with_lines ls log) (sym none)
