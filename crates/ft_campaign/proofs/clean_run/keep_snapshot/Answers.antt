use Rattle.std.proofs.Common.{◌≡◌, ◌+◌, true, is_ok, None, List, ap, sym, subst, ◌∙◌, arith}
use Rattle.std.proofs.lemmas.Bool.{cond-true}
use Rattle.ft_semantics.specs.State.{State, is_cell}
use Rattle.ft_machine.proofs.Runs.{run_has_cells}
use Rattle.ft_campaign.specs.declared.clean.Snapshot.{Snapshot}
use Rattle.ft_campaign.specs.Snapshots.{AreSnapshots}
use Rattle.ft_campaign.proofs.Keeping.{snapshots_more}
use Rattle.ft_campaign.proofs.clean_run.keep_snapshot.Goals as goal

pub snapshot_of-requires-clause-cells : goal.snapshot_of-requires-clause-cells
snapshot_of-requires-clause-cells g c = (λ a. ap (λ (q : State). is_cell q.cells a) c.requires.machine
    ∙ run_has_cells (g.P.Program.object c.args.program.now) None c.args.wild.now c.args.moment.step a)

pub returns-clause-snapshots : goal.returns-clause-snapshots
returns-clause-snapshots g c =
    let o = g.P.Program.object c.args.program.now in
    let ok : is_ok c.push.result ≡ true = sym c.map_err.ensures.variant ∙ ap is_ok c.in_ok-map_err.was in
    let pushed = c.push.ensures.items ∙ cond-true _ _ _ ok in
    subst (λ (xs : List Snapshot). AreSnapshots o c.args.wild.now (c.args.moment.step + 1) xs) (sym pushed)
    (snapshots_more o c.args.wild.now c.args.moment.step c.args.snapshots.now.items c.in_ok-snapshot.snapshot
    c.requires.snapshots
    (let short = c.if-moment-due.false in let before = c.requires.before in
    let later = c.requires.due.later c.args.moment.step before in grind (arith, short, later))
    (record {
      state = c.in_ok-snapshot.ensures.machine ∙ c.requires.machine;
      wild = c.in_ok-snapshot.ensures.wild
          ∙ c.requires.left;
      count = c.in_ok-snapshot.ensures.count ∙ c.requires.count;
    }))

pub returns-clause-after : goal.returns-clause-after
returns-clause-after g c =
    let row = (returns-clause-snapshots g c).row in
    c.next_due.ensures.later c.args.moment.step c.requires.before (omega (arith, row, c.len.ensures))
