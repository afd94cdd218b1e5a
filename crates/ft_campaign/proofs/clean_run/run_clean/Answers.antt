use Rattle.std.proofs.Common.{◌≡◌, ◌++◌, ◌+◌, ◌-◌, ◌<◌, None, length, ap, sym, ◌∙◌, refl, subst, arith, List, ℕ}
use Rattle.ft_isa.specs.declared.output.Output.{Output}
use Rattle.ft_semantics.specs.declared.status.Status.TheVariants.{Running}
use Rattle.ft_semantics.specs.State.{State}
use Rattle.ft_semantics.specs.Run.{Ran, run-zero, status_after, outputs_after}
use Rattle.ft_semantics.proofs.Runs.{HasStopped}
use Rattle.ft_machine.specs.Spans.{span}
use Rattle.ft_machine.proofs.Runs.{has_stopped, still_running}
use Rattle.ft_campaign.specs.declared.clean.Snapshot.{Snapshot}
use Rattle.ft_campaign.specs.Snapshots.{AreLengths, AreSnapshots, IsDue}
use Rattle.ft_campaign.proofs.Keeping.{snapshots_none, snapshots_on, due_first, clean_stopped, clean_whole, run_span}
use Rattle.ft_campaign.proofs.Keeping.{goes_unrefused, pause_running}
use Rattle.ft_campaign.proofs.Queues.{lengths_none, lengths_cut}
use Rattle.ft_campaign.proofs.clean_run.run_clean.Goals as goal

pub loop-k-init : goal.loop-k-init
loop-k-init g c =
    let o = g.P.Program.object c.args.program.now in
    let w = c.args.wild.now in
    let begun = run-zero o None w in
    record {
      state = c.in_ok-machine.ensures.start ∙ sym (ap (λ (r : Ran). r.state) begun);
      wild = c.new-left.ensures ∙ sym (ap (λ (r : Ran). r.wild) begun);
      running = ap (λ (r : Ran). r.state.status) begun;
      outputs = c.new-2.ensures.items ∙ sym (ap (λ (r : Ran). r.outputs) begun);
      lengths = subst (λ (xs : List ℕ). AreLengths o w 0 xs) (sym c.new-lengths.ensures.items) (lengths_none o w);
      snapshots = subst (λ (xs : List Snapshot). AreSnapshots o w 0 xs) (sym c.new-snapshots.ensures.items)
          (snapshots_none o w);
      due = subst (λ (xs : List Snapshot). IsDue c.args.n (length xs) 0) (sym c.new-snapshots.ensures.items)
          (due_first c.args.n);
      within = omega arith;
      steps = omega arith;
    }

pub loop-k-preserved : goal.loop-k-preserved
loop-k-preserved g c =
    let o = g.P.Program.object c.args.program.now in
    let w = c.args.wild.now in
    let k = c.loop-k.k in
    let v = c.loop-k.invariant in
    let s = c.loop-k.machine in
    let left = c.loop-k.left in
    let due = c.in_ok-due.ensures.due in
    let after = c.in_ok-due.ensures.after in
    let most = c.in_ok-most.ensures.few in
    let went = c.go-gone.ensures in
    let a = went.goes in
    let t = c.go-gone.result.taken in
    let few = went.few in
    let at = run_span o w k t s left v.state v.wild in
    let state = a.state_is ∙ sym (ap (λ (r : Ran). r.state) at) in
    let running = still_running c.status-status.result (sym c.ne.ensures ∙ c.if-ne.false) in
    let goes = goes_unrefused c.go-gone.result.pause (sym c.eq.ensures ∙ c.if-eq.false) in
    let all = went.all (pause_running c.go-gone.result.pause goes (sym a.status_is
    ∙ ap (λ (q : State). q.status) (sym a.state_is) ∙ sym c.status-status.ensures ∙ running)) in
    record {
      state = state;
      wild = a.wild_is ∙ sym (ap (λ (r : Ran). r.wild) at);
      running = sym (ap (λ (q : State). q.status) state) ∙ sym c.status-status.ensures ∙ running;
      outputs = went.heard goes ∙ ap (λ (os : List Output). os ++ (span o t s left).outputs) v.outputs
          ∙ sym (ap (λ (r : Ran). r.outputs) at);
      lengths = subst (λ j. AreLengths o w (k + j) c.keep_lengths.new.lengths.items) (sym all)
          (c.in_ok-most.ensures.lengths w k v.state v.lengths);
      snapshots = snapshots_on o w (k + 1) (k + t) c.keep_snapshot.new.snapshots.items c.in_ok-due.ensures.snapshots
          (let covered = due.covered in omega (arith, covered, few, most, after));
      due = due;
      within = (let limit = due.within in omega (arith, limit, few, most, after));
      steps = (let counted = c.count.ensures in let before = v.steps in omega (arith, counted, before));
    }

pub returns-then-ne-clause-clean : goal.returns-then-ne-clause-clean
returns-then-ne-clause-clean g c =
    let o = g.P.Program.object c.args.program.now in
    let w = c.args.wild.now in
    let k = c.loop-k.k in
    let v = c.loop-k.invariant in
    let s = c.loop-k.machine in
    let left = c.loop-k.left in
    let due = c.in_ok-due.ensures.due in
    let after = c.in_ok-due.ensures.after in
    let most = c.in_ok-most.ensures.few in
    let went = c.go-gone.ensures in
    let a = went.goes in
    let t = c.go-gone.result.taken in
    let few = went.few in
    let some = went.some c.in_ok-most.ensures.some in
    let at = λ (j : ℕ). run_span o w k j s left v.state v.wild in
    let last : k + t - 1 + 1 ≡ k + t = omega (arith, some) in
    let before : k + (t - 1) ≡ k + t - 1 = omega (arith, some) in
    let below : t - 1 < t = omega (arith, some) in
    let state = a.state_is ∙ sym (ap (λ (r : Ran). r.state) (at t)) in
    let status = c.status-status.ensures ∙ ap (λ (q : State). q.status) state ∙ ap (status_after o None w) (sym last) in
    let goes = goes_unrefused c.go-gone.result.pause (sym c.eq.ensures ∙ c.if-eq.false) in
    clean_stopped o w (k + t - 1) c.args.n (record {
      outputs = c.go-gone.new.outlet.outputs;
      lengths = c.truncate.new.self;
      snapshots = c.keep_snapshot.new.snapshots;
      status = c.status-status.result;
      last = c.loop-k.k + c.go-gone.result.taken - 1;
    }) (let limit = due.within in omega (arith, limit, few, most, after, some))
    (subst HasStopped status (has_stopped c.status-status.result (sym c.ne.ensures ∙ c.if-ne.true)))
    (went.heard goes ∙ ap (λ (os : List Output). os ++ (span o t s left).outputs) v.outputs
    ∙ sym (ap (λ (r : Ran). r.outputs) (at t)) ∙ ap (outputs_after o None w) (sym last))
    status refl
    (ap (status_after o None w) (sym before) ∙ ap (λ (r : Ran). r.state.status) (at (t - 1)) ∙ a.running (t - 1) below)
    (subst (λ (j : ℕ). AreLengths o w j c.truncate.new.self.items) (sym last)
    (subst (λ (xs : List ℕ). AreLengths o w (k + t) xs) (sym c.truncate.ensures.items)
    (lengths_cut o w (k + c.in_ok-most.most) (k + t) c.keep_lengths.new.lengths.items
    (c.in_ok-most.ensures.lengths w k v.state v.lengths) (omega (arith, few)))))
    (snapshots_on o w (k + 1) (k + t - 1 + 1) c.keep_snapshot.new.snapshots.items c.in_ok-due.ensures.snapshots
    (let covered = due.covered in omega (arith, covered, few, most, after, last)))

pub returns-clause-clean : goal.returns-clause-clean
returns-clause-clean g c =
    let o = g.P.Program.object c.args.program.now in
    let w = c.args.wild.now in
    let v = c.loop-k.invariant in
    let test = c.loop-k-test.false in
    let within = v.within in
    let whole : c.loop-k.k ≡ c.args.n = omega (arith, test, within) in
    clean_whole o w c.args.n (record {
      outputs = c.loop-k.list.outputs;
      lengths = c.loop-k.lengths;
      snapshots = c.loop-k.snapshots;
      status = Running;
      last = c.args.n;
    }) (subst (λ j. status_after o None w j ≡ Running) whole v.running)
    (v.outputs ∙ ap (outputs_after o None w) whole) refl
    (subst (λ j. AreLengths o w j c.loop-k.lengths.items) whole v.lengths)
    (subst (λ j. AreSnapshots o w j c.loop-k.snapshots.items) whole v.snapshots)
