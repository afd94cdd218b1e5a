use Rattle.std.proofs.Common.{ap, ◌∙◌, length}
use Rattle.ft_types.specs.Objects.{init_of}
use Rattle.ft_semantics.specs.State.{is_cell}
use Rattle.ft_machine.proofs.Tabulated.{cells_there}
use Rattle.ft_machine.proofs.machine.Machine.new.Goals as goal

pub returns-clause-cells : goal.returns-clause-cells
returns-clause-cells g c = λ a.
    let o = g.P.Program.object c.args.program.now in
    ap (λ m. is_cell m a) c.in_ok-words.ensures ∙ cells_there (init_of o) (length o.cells) a
