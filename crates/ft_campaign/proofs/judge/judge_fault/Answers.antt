use Rattle.std.proofs.Common.{◌≡◌, ◌∙◌, ℕ, ◌+◌, ◌-◌, ◌*◌, ◌/◌, ◌%◌, ◌≤◌, ◌<◌, true, false, List, length, slice_get}
use Rattle.std.proofs.Common.{Some, None, ap, sym, subst, refl, arith}
use Rattle.std.proofs.lemmas.Option.{slice_get_read}
use Rattle.ft_isa.specs.declared.plan.Wild.{Wild}
use Rattle.ft_isa.specs.declared.plan.Strike.{Strike}
use Rattle.ft_types.specs.declared.object.Object.{Object}
use Rattle.ft_semantics.specs.State.{State, is_cell}
use Rattle.ft_semantics.specs.Strike.{struck_state}
use Rattle.ft_semantics.specs.Run.{Ran, is_struck}
use Rattle.ft_machine.specs.Spans.{span}
use Rattle.ft_machine.proofs.Runs.{run_has_cells}
use Rattle.ft_campaign.specs.declared.clean.Snapshot.{Snapshot}
use Rattle.ft_campaign.specs.Snapshots.{IsEnd, IsCost, idle, upto}
use Rattle.ft_campaign.proofs.Begun.{snapshot_there, racing_begun, running_at_strike, count_at, struck_early}
use Rattle.ft_campaign.proofs.Racing.{count_fits, ends_from}
use Rattle.ft_campaign.proofs.judge.judge_fault.Goals as goal

pub bounds-snapshots-fault : goal.bounds-snapshots-fault
bounds-snapshots-fault g c =
    let o = g.P.Program.object c.args.program.now in
    let struck = sym (c.is_struck.ensures o c.args.trial.wild.now c.args.trial.n c.requires.clean)
    ∙ c.if-not-is_struck.false in
    let here = snapshot_there o c.args.trial.fault c.args.trial.wild.now c.args.trial.n c.args.clean.now
    c.requires.clean struck in
    subst (λ (xs : List Snapshot). c.args.trial.fault.step / 1024 < length xs) (sym c.as_slice-snapshots.ensures.value)
    here

pub copy_from-requires : goal.copy_from-requires
copy_from-requires g c =
    let o = g.P.Program.object c.args.program.now in
    let struck = sym (c.is_struck.ensures o c.args.trial.wild.now c.args.trial.n c.requires.clean)
    ∙ c.if-not-is_struck.false in
    let here = snapshot_there o c.args.trial.fault c.args.trial.wild.now c.args.trial.n c.args.clean.now
    c.requires.clean struck in
    let found : slice_get c.args.clean.now.snapshots.items (c.args.trial.fault.step / 1024)
    ≡ Some c.index-snapshots-fault.result
    = ap (λ (xs : List Snapshot). slice_get xs (c.args.trial.fault.step / 1024))
    (sym c.as_slice-snapshots.ensures.value)
    ∙ slice_get_read c.as_slice-snapshots.result.now (length c.as_slice-snapshots.result.now)
    (c.args.trial.fault.step / 1024) c.index-snapshots-fault.result refl
    (subst (λ (xs : List Snapshot). c.args.trial.fault.step / 1024 < length xs) (sym c.as_slice-snapshots.ensures.value)
    here) c.index-snapshots-fault.is in
    let is = c.requires.clean.kept.snapshots_are (c.args.trial.fault.step / 1024) c.index-snapshots-fault.result found
    in
    (λ a. c.requires.cells a ∙ sym (run_has_cells o None c.args.trial.wild.now (1024 * (c.args.trial.fault.step / 1024))
    a) ∙ sym (ap (λ (q : State). is_cell q.cells a) is.state))

pub count_outputs-count-requires-clause-running : goal.count_outputs-count-requires-clause-running
count_outputs-count-requires-clause-running g c =
    let o = g.P.Program.object c.args.program.now in
    let struck = sym (c.is_struck.ensures o c.args.trial.wild.now c.args.trial.n c.requires.clean)
    ∙ c.if-not-is_struck.false in
    let here = snapshot_there o c.args.trial.fault c.args.trial.wild.now c.args.trial.n c.args.clean.now
    c.requires.clean struck in
    let found : slice_get c.args.clean.now.snapshots.items (c.args.trial.fault.step / 1024)
    ≡ Some c.index-snapshots-fault.result
    = ap (λ (xs : List Snapshot). slice_get xs (c.args.trial.fault.step / 1024))
    (sym c.as_slice-snapshots.ensures.value)
    ∙ slice_get_read c.as_slice-snapshots.result.now (length c.as_slice-snapshots.result.now)
    (c.args.trial.fault.step / 1024) c.index-snapshots-fault.result refl
    (subst (λ (xs : List Snapshot). c.args.trial.fault.step / 1024 < length xs) (sym c.as_slice-snapshots.ensures.value)
    here) c.index-snapshots-fault.is in
    let is = c.requires.clean.kept.snapshots_are (c.args.trial.fault.step / 1024) c.index-snapshots-fault.result found
    in
    let run_is : span o (c.args.trial.fault.step % 1024) c.copy_from.new.self c.copy_from-2.new.self
    ≡ span o (c.args.trial.fault.step % 1024) c.index-snapshots-fault.result.machine
    c.index-snapshots-fault.result.wild
    = ap (λ q. span o (c.args.trial.fault.step % 1024) q c.copy_from-2.new.self) c.copy_from.ensures
    ∙ ap (λ v. span o (c.args.trial.fault.step % 1024) c.index-snapshots-fault.result.machine v) c.copy_from-2.ensures
    in
    ap (λ (r : Ran). r.state.status) run_is ∙ running_at_strike o c.args.trial.fault c.args.trial.wild.now
    c.args.trial.n c.index-snapshots-fault.result is struck

pub overflow_add-snapshot : goal.overflow_add-snapshot
overflow_add-snapshot g c =
    let o = g.P.Program.object c.args.program.now in
    let struck = sym (c.is_struck.ensures o c.args.trial.wild.now c.args.trial.n c.requires.clean)
    ∙ c.if-not-is_struck.false in
    let here = snapshot_there o c.args.trial.fault c.args.trial.wild.now c.args.trial.n c.args.clean.now
    c.requires.clean struck in
    let found : slice_get c.args.clean.now.snapshots.items (c.args.trial.fault.step / 1024)
    ≡ Some c.index-snapshots-fault.result
    = ap (λ (xs : List Snapshot). slice_get xs (c.args.trial.fault.step / 1024))
    (sym c.as_slice-snapshots.ensures.value)
    ∙ slice_get_read c.as_slice-snapshots.result.now (length c.as_slice-snapshots.result.now)
    (c.args.trial.fault.step / 1024) c.index-snapshots-fault.result refl
    (subst (λ (xs : List Snapshot). c.args.trial.fault.step / 1024 < length xs) (sym c.as_slice-snapshots.ensures.value)
    here) c.index-snapshots-fault.is in
    let is = c.requires.clean.kept.snapshots_are (c.args.trial.fault.step / 1024) c.index-snapshots-fault.result found
    in
    let run_is : span o (c.args.trial.fault.step % 1024) c.copy_from.new.self c.copy_from-2.new.self
    ≡ span o (c.args.trial.fault.step % 1024) c.index-snapshots-fault.result.machine
    c.index-snapshots-fault.result.wild
    = ap (λ q. span o (c.args.trial.fault.step % 1024) q c.copy_from-2.new.self) c.copy_from.ensures
    ∙ ap (λ v. span o (c.args.trial.fault.step % 1024) c.index-snapshots-fault.result.machine v) c.copy_from-2.ensures
    in
    let at = ap (λ k. c.index-snapshots-fault.result.count + k) (c.count_outputs-count.ensures.count
    ∙ ap (λ (r : Ran). length r.outputs) run_is) in
    let all = count_at o c.args.trial.fault c.args.trial.wild.now c.args.trial.n c.index-snapshots-fault.result is
    struck in
    let early = struck_early o c.args.trial.fault c.args.trial.wild.now c.args.trial.n struck in
    let few = count_fits o c.args.trial.wild.now c.args.trial.fault.step c.args.trial.n (omega (arith, early)) in
    let long = ap length c.requires.clean.outputs in
    omega (arith, at, all, few, long, c.len-limit.ensures, c.len-limit.type_inv)

pub judge_run-requires-clause-racing : goal.judge_run-requires-clause-racing
judge_run-requires-clause-racing g c =
    let o = g.P.Program.object c.args.program.now in
    let struck = sym (c.is_struck.ensures o c.args.trial.wild.now c.args.trial.n c.requires.clean)
    ∙ c.if-not-is_struck.false in
    let here = snapshot_there o c.args.trial.fault c.args.trial.wild.now c.args.trial.n c.args.clean.now
    c.requires.clean struck in
    let found : slice_get c.args.clean.now.snapshots.items (c.args.trial.fault.step / 1024)
    ≡ Some c.index-snapshots-fault.result
    = ap (λ (xs : List Snapshot). slice_get xs (c.args.trial.fault.step / 1024))
    (sym c.as_slice-snapshots.ensures.value)
    ∙ slice_get_read c.as_slice-snapshots.result.now (length c.as_slice-snapshots.result.now)
    (c.args.trial.fault.step / 1024) c.index-snapshots-fault.result refl
    (subst (λ (xs : List Snapshot). c.args.trial.fault.step / 1024 < length xs) (sym c.as_slice-snapshots.ensures.value)
    here) c.index-snapshots-fault.is in
    let is = c.requires.clean.kept.snapshots_are (c.args.trial.fault.step / 1024) c.index-snapshots-fault.result found
    in
    let run_is : span o (c.args.trial.fault.step % 1024) c.copy_from.new.self c.copy_from-2.new.self
    ≡ span o (c.args.trial.fault.step % 1024) c.index-snapshots-fault.result.machine
    c.index-snapshots-fault.result.wild
    = ap (λ q. span o (c.args.trial.fault.step % 1024) q c.copy_from-2.new.self) c.copy_from.ensures
    ∙ ap (λ v. span o (c.args.trial.fault.step % 1024) c.index-snapshots-fault.result.machine v) c.copy_from-2.ensures
    in
    let at = ap (λ k. c.index-snapshots-fault.result.count + k) (c.count_outputs-count.ensures.count
    ∙ ap (λ (r : Ran). length r.outputs) run_is) in
    racing_begun o c.args.trial.fault c.args.trial.wild.now c.args.trial.n c.index-snapshots-fault.result is struck
    c.strike.new.self c.count_outputs-count.new.wild
    (c.index-snapshots-fault.result.count + c.count_outputs-count.result)
    (c.strike.ensures.struck ∙ ap (λ q. struck_state q c.args.trial.fault.site c.args.trial.fault.value)
    (c.count_outputs-count.ensures.state ∙ ap (λ (r : Ran). r.state) run_is))
    (c.count_outputs-count.ensures.wild ∙ ap (λ (r : Ran). r.wild) run_is) at

-- the cost of a fault that strikes something
cost : (o : Object) (x : Strike) (w : List Wild) (n old mid new d : ℕ) → is_struck o (Some x) w n ≡ true → mid
    ≡ old + x.step % 1024 → ((e : ℕ) → IsEnd o x w n e → x.step ≤ e) →
    ((e : ℕ) → IsEnd o x w n e → new ≤ mid + (e - x.step)) → IsCost o w n x d → new ≤ old + d
cost o x w n old mid new d struck begun from raced (idle h) = (let bad : true ≡ false = sym struck ∙ h in absurd (cc))
cost o x w n old mid new d struck begun from raced (upto e is same) = let a = from e is in let b = raced e is in
    omega (arith, a, b, begun, same)

pub returns-clause-steps : goal.returns-clause-steps
returns-clause-steps g c =
    let o = g.P.Program.object c.args.program.now in
    let struck = sym (c.is_struck.ensures o c.args.trial.wild.now c.args.trial.n c.requires.clean)
    ∙ c.if-not-is_struck.false in
    let here = snapshot_there o c.args.trial.fault c.args.trial.wild.now c.args.trial.n c.args.clean.now
    c.requires.clean struck in
    let found : slice_get c.args.clean.now.snapshots.items (c.args.trial.fault.step / 1024)
    ≡ Some c.index-snapshots-fault.result
    = ap (λ (xs : List Snapshot). slice_get xs (c.args.trial.fault.step / 1024))
    (sym c.as_slice-snapshots.ensures.value)
    ∙ slice_get_read c.as_slice-snapshots.result.now (length c.as_slice-snapshots.result.now)
    (c.args.trial.fault.step / 1024) c.index-snapshots-fault.result refl
    (subst (λ (xs : List Snapshot). c.args.trial.fault.step / 1024 < length xs) (sym c.as_slice-snapshots.ensures.value)
    here) c.index-snapshots-fault.is in
    let is = c.requires.clean.kept.snapshots_are (c.args.trial.fault.step / 1024) c.index-snapshots-fault.result found
    in
    let run_is : span o (c.args.trial.fault.step % 1024) c.copy_from.new.self c.copy_from-2.new.self
    ≡ span o (c.args.trial.fault.step % 1024) c.index-snapshots-fault.result.machine
    c.index-snapshots-fault.result.wild
    = ap (λ q. span o (c.args.trial.fault.step % 1024) q c.copy_from-2.new.self) c.copy_from.ensures
    ∙ ap (λ v. span o (c.args.trial.fault.step % 1024) c.index-snapshots-fault.result.machine v) c.copy_from-2.ensures
    in
    let at = ap (λ k. c.index-snapshots-fault.result.count + k) (c.count_outputs-count.ensures.count
    ∙ ap (λ (r : Ran). length r.outputs) run_is) in
    let racing = racing_begun o c.args.trial.fault c.args.trial.wild.now c.args.trial.n c.index-snapshots-fault.result
    is struck c.strike.new.self c.count_outputs-count.new.wild
    (c.index-snapshots-fault.result.count + c.count_outputs-count.result)
    (c.strike.ensures.struck ∙ ap (λ q. struck_state q c.args.trial.fault.site c.args.trial.fault.value)
    (c.count_outputs-count.ensures.state ∙ ap (λ (r : Ran). r.state) run_is))
    (c.count_outputs-count.ensures.wild ∙ ap (λ (r : Ran). r.wild) run_is) at in
    (λ d h. cost o c.args.trial.fault c.args.trial.wild.now c.args.trial.n c.args.steps.now
    c.count_outputs-count.new.steps c.judge_run.new.steps d struck c.count_outputs-count.ensures.steps
    (ends_from o c.args.trial.fault c.args.trial.wild.now c.args.trial.n c.args.trial.fault.step c.strike.new.self
    c.count_outputs-count.new.wild (c.index-snapshots-fault.result.count + c.count_outputs-count.result) racing)
    c.judge_run.ensures.steps h)
