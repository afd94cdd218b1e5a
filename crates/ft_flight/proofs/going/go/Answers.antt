use Rattle.std.proofs.Common.{◌≡◌, ◌+◌, ◌-◌, ℕ, List, length, max, [], refl, ap, sym, subst, ◌∙◌, arith}
use Rattle.std.proofs.lemmas.List.Elements.{All-from_get_or}
use Rattle.ft_isa.specs.Words.{IsWord}
use Rattle.ft_types.specs.Objects.{instr_at}
use Rattle.ft_isa.specs.declared.instr.Instr.{Instr}
use Rattle.std.specs.Prelude.{Option}
use Rattle.ft_semantics.specs.declared.status.Status.{Status}
use Rattle.ft_semantics.specs.State.{State}
use Rattle.ft_machine.specs.Processors.{state_over}
use Rattle.ft_machine.specs.Spans.{span}
use Rattle.ft_flight.specs.Rings.{pending_of}
use Rattle.ft_flight.specs.States.{IsFetchedFrom, state_in}
use Rattle.ft_flight.specs.Steps.{Ends, Fills, Took}
use Rattle.ft_flight.proofs.Fetched.{fetched_from}
use Rattle.ft_flight.proofs.Flying.{flight_next, hands_next, whole_next, undetected}
use Rattle.ft_flight.proofs.Lasting.{may_hold}
use Rattle.ft_flight.proofs.Turns.{refit, grown, gained}
use Rattle.ft_flight.proofs.going.go.Goals as goal

pub suspend-requires-clause-from : goal.suspend-requires-clause-from
suspend-requires-clause-from g c =
    let o = g.P.Program.object c.args.program.now in
    let s = state_over c.resume-processor.result (pending_of c.args.state.now.queue) c.args.cells.now in
    let f = c.fill-filled in
    let after = (span o f.result.taken s []).state in
    subst (λ (x : State). IsFetchedFrom o (instr_at o c.args.state.now.fetched) x.fetched x.pc_green)
    (sym f.ensures.fills.state_is)
    (subst (λ (i : Option Instr). IsFetchedFrom o i after.fetched after.pc_green)
    (ap (λ (x : State). x.fetched) (c.resume-processor.ensures c.args.cells.now)) (fetched_from o f.result.taken s []))

pub returns-clause-took : goal.returns-clause-took
returns-clause-took g c =
    let o = g.P.Program.object c.args.program.now in
    let old = c.args.state.now in
    let put = c.suspend.new.state in
    let f = c.fill-filled in
    let first = state_over c.resume-processor.result (pending_of old.queue) c.args.cells.now in
    let last = state_over f.new.processor (pending_of f.new.queue) f.new.cells in
    let begun = c.resume-processor.ensures c.args.cells.now in
    let stands = c.suspend.ensures.stands f.new.cells in
    let plain = refit o first last (state_in o old c.args.cells.now) (state_in o put f.new.cells) f.result.taken
    c.left_out-skip.result
    f.result.seen f.result.count (old.handed - old.seen) f.result.seen f.new.out f.ensures.fills begun stands
    c.left_out-skip.ensures refl in
    record {
      fills = refit o first last (state_in o old c.args.cells.now) (state_in o put f.new.cells) f.result.taken
          c.left_out-skip.result
          f.result.seen f.result.count (old.handed - old.seen) ((put.seen + f.result.seen) - old.seen) f.new.out
          f.ensures.fills begun stands
          c.left_out-skip.ensures (gained put.seen old.seen f.result.seen c.suspend.ensures.seen);
      steps_is = ap (λ n. n + f.result.taken) c.suspend.ensures.steps;
      seen_is = grown put.seen old.seen f.result.seen _ c.suspend.ensures.seen plain.seen_is;
      handed_is = c.greater-state.ensures ∙ ap (λ n. max n (put.seen + f.result.seen)) c.suspend.ensures.handed;
      most = c.limit-most.result;
      limit = c.limit-most.ensures.limit;
      few = f.ensures.few;
      within = f.ensures.within;
      ends = subst (Ends c.end_of-end.result c.limit-most.result f.result.taken f.result.count (length f.new.out))
          (c.status.ensures ∙ sym (ap (λ (x : State). x.status) stands) ∙ ap (λ (x : State). x.status) plain.state_is)
          (c.end_of-end.ensures.ends f.result.count (length f.new.out) f.ensures.within f.ensures.few
          (λ r. f.ensures.all (sym c.status.ensures ∙ r)));
    }

pub returns-clause-flight : goal.returns-clause-flight
returns-clause-flight g c = λ strike saved h.
    flight_next (g.P.Program.object c.args.program.now) saved strike c.args.state.now _ c.args.cells.now _ c.args.steps
    _ _ _ _ h
    (returns-clause-took g c)

pub returns-clause-hands : goal.returns-clause-hands
returns-clause-hands g c = λ strike saved given h.
    hands_next (g.P.Program.object c.args.program.now) saved strike c.args.state.now _ c.args.cells.now _ c.args.steps _
    _ _ _ h
    (returns-clause-took g c) given

pub returns-clause-whole : goal.returns-clause-whole
returns-clause-whole g c = λ strike saved given h.
    whole_next (g.P.Program.object c.args.program.now) saved strike c.args.state.now _ c.args.cells.now _ c.args.steps _
    _ _ _ h
    (returns-clause-took g c) given

pub returns-clause-struck : goal.returns-clause-struck
returns-clause-struck g c = λ saved h.
    undetected (g.P.Program.object c.args.program.now) saved c.args.state.now _ c.args.cells.now _ c.args.steps _ _ _ _
    h
    (returns-clause-took g c)

pub returns-clause-held : goal.returns-clause-held
returns-clause-held g c = λ strike saved h.
    may_hold (g.P.Program.object c.args.program.now) strike _ _ saved (returns-clause-flight g c strike saved h)
    (All-from_get_or IsWord _ 0 (λ k below. omega (arith, c.type_inv.cells k)))
