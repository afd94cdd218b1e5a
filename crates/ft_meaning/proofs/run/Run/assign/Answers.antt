use Rattle.std.proofs.Common.{map, sym, ap, ◌∙◌, subst, slice_set}
use Rattle.ft_meaning.specs.Meaning.{assigned, Ended}
use Rattle.ft_meaning.specs.Runs.{state, RunsTo}
use Rattle.ft_meaning.proofs.run.Run.assign.Goals as goal

pub returns-in-Cell-clause-runs : goal.returns-in-Cell-clause-runs
returns-in-Cell-clause-runs g c =
    subst (λ x. RunsTo (λ s. Ended (assigned x c.args.word s)) (map (λ n. n.items) c.args.names.now) c.args.self.now
    c.assign_cell.new.self (g.K.Sink.log c.args.out.now) (g.K.Sink.log c.assign_cell.new.out)
    c.assign_cell.result)
    (sym c.in-Cell.is) c.assign_cell.ensures.runs

pub returns-in-Var-clause-runs : goal.returns-in-Var-clause-runs
returns-in-Var-clause-runs g c = λ first o w is.
    let r = c.args.self.now in (
      o,
      w,
      ap (λ x. Ended (assigned x c.args.word (state r o w))) c.in-Var.is
          ∙ ap (λ x. Ended (record (state r o w) { vars = slice_set r.vars.items x c.args.word })) (sym c.from.ensures),
      is,
    )
