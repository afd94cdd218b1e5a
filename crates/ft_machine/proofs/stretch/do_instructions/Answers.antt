use Rattle.std.proofs.Common.{◌≡◌, ℕ, ◌+◌, ◌-◌, ◌*◌, ◌/◌, ◌^◌, ◌<◌, ◌≤◌, Option, None, refl, sym, ap, subst, ◌∙◌, arith}
use Rattle.ft_isa.specs.declared.instr.Instr.{Instr}
use Rattle.ft_semantics.specs.declared.status.Status.TheVariants as status
use Rattle.ft_semantics.specs.Step.{next}
use Rattle.ft_machine.specs.declared.bank.Effect.TheVariants as effects
use Rattle.ft_machine.specs.declared.stepped.Pause.TheVariants.{Running, Done, Detected, Refused}
use Rattle.ft_machine.specs.Effects.{doing}
use Rattle.ft_machine.specs.Goes.{Goes}
use Rattle.ft_machine.proofs.Lengths.{has_length}
use Rattle.ft_machine.proofs.Spanned.{there_is}
use Rattle.ft_machine.proofs.Going.{goes_none, goes_then, goes_lost, goes_may, passes_quiet, passes_done}
use Rattle.ft_machine.proofs.Going.{passes_detected, passes_on, passes_last, commit_cell, next_is, same_place}
use Rattle.ft_machine.specs.Banks.{bank_over}
use Rattle.ft_machine.proofs.stretch.do_instructions.Goals as goal

pub returns-in_default-clause-goes : goal.returns-in_default-clause-goes
returns-in_default-clause-goes g c =
    let pending = g.Q.PendingStores.pending in
    let o = g.P.Program.object c.args.program.now in
    let lost = c.in_default.ensures.none in
    let first = c.args.first in
    subst (λ (f : Option Instr). Goes g.T.Outlet o
    (doing (bank_over c.args.file.now (pending c.args.queue.now) c.args.cells.now) first first None) c.args.wild.now
    c.args.outlet.now (record (doing (bank_over c.args.file.now (pending c.args.queue.now) c.args.cells.now) first first
    f) { status = status.Detected }) c.args.wild.now
    c.args.outlet.now 1 Detected) (sym lost)
    (goes_lost g.T.Outlet o (bank_over c.args.file.now (pending c.args.queue.now) c.args.cells.now) first
    c.args.wild.now c.args.outlet.now lost)

pub loop-at-init : goal.loop-at-init
loop-at-init g c =
    let pending = g.Q.PendingStores.pending in
    let o = g.P.Program.object c.args.program.now in
    let s = doing (bank_over c.args.file.now (pending c.args.queue.now) c.args.cells.now) c.args.first c.args.first None
    in
    let w = c.args.wild.now in
    let t = c.args.outlet.now in
    let all = c.instructions_in-all.result in
    let at = c.place_of-at.result in
    let room = c.place_of.result in
    let pc : c.args.first ≡ 1 + at / 16 = omega (arith, c.in-Some.ensures.some.0, c.place_of-at.ensures) in
    let none : 0 ≡ 2 * (all - (at + room - at) / 16) = omega (arith, c.place_of.ensures) in
    let in_limit : at < at + room = omega (
      arith,
      c.instructions_in-all.ensures.some c.requires.some,
      c.place_of.ensures,
    ) in
    let in_code : at < c.place_of-end.result = omega (
      arith,
      c.in-Some.ensures.some.1,
      c.place_of-at.ensures,
      c.place_of-end.ensures,
    ) in
    record {
      whole = omega (arith, c.place_of-at.ensures);
      limit_whole = omega (arith, c.place_of-at.ensures, c.place_of.ensures);
      within = omega arith;
      past = c.stretch_end-past.ensures.limit;
      there = omega (arith, c.stretch_end-past.ensures.end, c.place_of-end.ensures);
      left = omega (arith, c.place_of.ensures);
      some = omega (arith, c.stretch_end-past.ensures.some at in_limit in_code);
      goes = subst (λ q. Goes g.T.Outlet o s w t (doing
          (bank_over c.args.file.now (pending c.args.queue.now) c.args.cells.now) q q None) w t
          (2 * (all - (at + room - at) / 16)) Running) pc
          (subst (λ n. Goes g.T.Outlet o s w t s w t n Running) none (goes_none g.T.Outlet o s w t refl));
    }

pub fetch-requires-clause-there : goal.fetch-requires-clause-there
fetch-requires-clause-there g c = omega (
  arith,
  c.loop-at-test.true,
  c.loop-at.invariant.there,
  c.loop-at.invariant.whole,
  c.counts-count.ensures.instrs,
)

pub execute-requires : goal.execute-requires
execute-requires g c = has_length (g.P.Program.object c.args.program.now) (c.loop-at.at / 16) c.fetch.result
    c.requires.spellable c.fetch.ensures

-- an instruction before the end fits within the limit
has_room : (at past limit : ℕ) → at < past → past ≤ limit → at ≡ 16 * (at / 16) → limit ≡ 16 * (limit / 16) →
    at + 16 ≤ limit
has_room at past limit lt le whole limit_whole = omega (arith, lt, le, whole, limit_whole)

-- one more instruction takes two more steps
on_done : (all limit at : ℕ) → at + 16 ≤ limit → limit - at ≤ 16 * all → 2 * (all - (limit - at) / 16) + 2
    ≡ 2 * (all - (limit - (at + 16)) / 16)
on_done all limit at room left = omega (arith, room, left)

-- the number of steps taken does not depend on where the next instruction is
same_rest : (all to rest : ℕ) → 2 * (all - rest / 16) ≡ 2 * (all - (to + rest - to) / 16)
same_rest all to rest = ap (λ n. 2 * (all - n / 16)) (omega arith)

next_number : (at : ℕ) → at / 16 + 1 ≡ (at + 16) / 16
next_number at = omega arith

next_place : (i : ℕ) → i < 2 ^ 32 → next (1 + i) ≡ 1 + (i + 1)
next_place i small = next_is i small ∙ same_place i

pub loop-at-preserved-in-On : goal.loop-at-preserved-in-On
loop-at-preserved-in-On g c =
    let pending = g.Q.PendingStores.pending in
    let o = g.P.Program.object c.args.program.now in
    let s = doing (bank_over c.args.file.now (pending c.args.queue.now) c.args.cells.now) c.args.first c.args.first None
    in
    let v = c.loop-at.invariant in
    let all = c.instructions_in-all.result in
    let limit = c.loop-at.limit in
    let i = c.loop-at.at / 16 in
    let w = c.args.wild.now in
    let t = c.args.outlet.now in
    let left = c.execute.new.wild in
    let new = (bank_over c.execute.new.self (pending c.execute.new.queue) c.execute.new.cells) in
    let at = there_is o i c.fetch.result c.fetch.ensures in
    let room = has_room c.loop-at.at c.loop-at.past limit c.loop-at-test.true v.past v.whole v.limit_whole in
    let done = on_done all limit c.loop-at.at room v.left in
    let small : i < 2 ^ 32 = omega (
      arith,
      c.loop-at-test.true,
      v.there,
      c.counts-count.ensures.instrs,
      c.requires.spellable.few_instrs,
    ) in
    record {
      whole = omega (arith, v.whole);
      limit_whole = v.limit_whole;
      within = room;
      past = v.past;
      there = v.there;
      left = omega (arith, v.left);
      some = omega (arith, room, v.left);
      goes = subst (λ n. Goes g.T.Outlet o s w t (doing new (1 + n) (1 + n) None) left c.loop-at.outlet
          (2 * (all - (limit - (c.loop-at.at + 16)) / 16)) Running) (next_number c.loop-at.at)
          (subst (λ q. Goes g.T.Outlet o s w t (doing new q q None) left c.loop-at.outlet
          (2 * (all - (limit - (c.loop-at.at + 16)) / 16)) Running) (next_place i small)
          (goes_then g.T.Outlet o s (bank_over c.loop-at.file (pending c.loop-at.queue) c.loop-at.cells) new i
          c.fetch.result effects.On w c.loop-at.wild left t
          c.loop-at.outlet c.loop-at.outlet (2 * (all - (limit - c.loop-at.at) / 16))
          (2 * (all - (limit - (c.loop-at.at + 16)) / 16)) Running v.goes at c.in-On.ensures
          (passes_quiet g.T.Outlet c.loop-at.outlet) done));
    }

pub returns-in_default-index_at-clause-goes : goal.returns-in_default-index_at-clause-goes
returns-in_default-index_at-clause-goes g c =
    let pending = g.Q.PendingStores.pending in
    let o = g.P.Program.object c.args.program.now in
    let s = doing (bank_over c.args.file.now (pending c.args.queue.now) c.args.cells.now) c.args.first c.args.first None
    in
    let v = c.loop-at.invariant in
    let all = c.instructions_in-all.result in
    let limit = c.loop-at.limit in
    let i = c.loop-at.at / 16 in
    let w = c.args.wild.now in
    let t = c.args.outlet.now in
    let left = c.execute.new.wild in
    let new = (bank_over c.execute.new.self (pending c.execute.new.queue) c.execute.new.cells) in
    let at = there_is o i c.fetch.result c.fetch.ensures in
    let room = has_room c.loop-at.at c.loop-at.past limit c.loop-at-test.true v.past v.whole v.limit_whole in
    let done = on_done all limit c.loop-at.at room v.left in
    goes_then g.T.Outlet o s (bank_over c.loop-at.file (pending c.loop-at.queue) c.loop-at.cells) new i c.fetch.result
    (effects.To c.in-To.target) w c.loop-at.wild left t
    c.loop-at.outlet c.loop-at.outlet (2 * (all - (limit - c.loop-at.at) / 16)) c.steps_but.result Running v.goes at
    c.in-To.ensures (passes_quiet g.T.Outlet c.loop-at.outlet) (done ∙ sym c.steps_but.ensures)

pub loop-at-preserved-in-To : goal.loop-at-preserved-in-To
loop-at-preserved-in-To g c =
    let pending = g.Q.PendingStores.pending in
    let o = g.P.Program.object c.args.program.now in
    let s = doing (bank_over c.args.file.now (pending c.args.queue.now) c.args.cells.now) c.args.first c.args.first None
    in
    let v = c.loop-at.invariant in
    let all = c.instructions_in-all.result in
    let limit = c.loop-at.limit in
    let i = c.loop-at.at / 16 in
    let w = c.args.wild.now in
    let t = c.args.outlet.now in
    let left = c.execute.new.wild in
    let new = (bank_over c.execute.new.self (pending c.execute.new.queue) c.execute.new.cells) in
    let at = there_is o i c.fetch.result c.fetch.ensures in
    let room = has_room c.loop-at.at c.loop-at.past limit c.loop-at-test.true v.past v.whole v.limit_whole in
    let done = on_done all limit c.loop-at.at room v.left in
    let to = c.place_of-at-in-To.result in
    let rest = limit - (c.loop-at.at + 16) in
    let pc : c.in-To.target ≡ 1 + to / 16 = omega (
      arith,
      c.in-Some-index_at.ensures.some.0,
      c.place_of-at-in-To.ensures,
    ) in
    record {
      whole = omega (arith, c.place_of-at-in-To.ensures);
      limit_whole = omega (arith, c.place_of-at-in-To.ensures, room, v.whole, v.limit_whole);
      within = omega arith;
      past = c.stretch_end-past-in-To.ensures.limit;
      there = omega (arith, c.stretch_end-past-in-To.ensures.end, c.place_of-end.ensures);
      left = omega (arith, v.left);
      some = omega (arith, v.left, room);
      goes = subst (λ q. Goes g.T.Outlet o s w t (doing new q q None) left c.loop-at.outlet
          (2 * (all - (to + rest - to) / 16)) Running) pc
          (goes_then g.T.Outlet o s (bank_over c.loop-at.file (pending c.loop-at.queue) c.loop-at.cells) new i
          c.fetch.result (effects.To c.in-To.target) w c.loop-at.wild
          left t c.loop-at.outlet c.loop-at.outlet (2 * (all - (limit - c.loop-at.at) / 16))
          (2 * (all - (to + rest - to) / 16)) Running v.goes at c.in-To.ensures
          (passes_quiet g.T.Outlet c.loop-at.outlet) (done ∙ same_rest all to rest));
    }

pub take-requires : goal.take-requires
take-requires g c =
    let pending = g.Q.PendingStores.pending in
    let o = g.P.Program.object c.args.program.now in
    let pc = 1 + c.loop-at.at / 16 in
    goes_may g.T.Outlet o (doing (bank_over c.args.file.now (pending c.args.queue.now) c.args.cells.now) c.args.first
    c.args.first None) (doing (bank_over c.loop-at.file (pending c.loop-at.queue) c.loop-at.cells) pc pc None)
    c.args.wild.now c.loop-at.wild c.args.outlet.now c.loop-at.outlet
    (2 * (c.instructions_in-all.result - (c.loop-at.limit - c.loop-at.at) / 16)) Running c.loop-at.invariant.goes
    c.requires.may c.in-Commit.output
    (commit_cell (bank_over c.loop-at.file (pending c.loop-at.queue) c.loop-at.cells)
    (bank_over c.execute.new.self (pending c.execute.new.queue) c.execute.new.cells) pc c.fetch.result
    c.in-Commit.output c.loop-at.wild
    c.execute.new.wild c.in-Commit.ensures)

pub returns-then-not-take-clause-goes : goal.returns-then-not-take-clause-goes
returns-then-not-take-clause-goes g c =
    let pending = g.Q.PendingStores.pending in
    let o = g.P.Program.object c.args.program.now in
    let s = doing (bank_over c.args.file.now (pending c.args.queue.now) c.args.cells.now) c.args.first c.args.first None
    in
    let v = c.loop-at.invariant in
    let all = c.instructions_in-all.result in
    let limit = c.loop-at.limit in
    let i = c.loop-at.at / 16 in
    let w = c.args.wild.now in
    let t = c.args.outlet.now in
    let left = c.execute.new.wild in
    let new = (bank_over c.execute.new.self (pending c.execute.new.queue) c.execute.new.cells) in
    let at = there_is o i c.fetch.result c.fetch.ensures in
    let room = has_room c.loop-at.at c.loop-at.past limit c.loop-at-test.true v.past v.whole v.limit_whole in
    let done = on_done all limit c.loop-at.at room v.left in
    let small : i < 2 ^ 32 = omega (
      arith,
      c.loop-at-test.true,
      v.there,
      c.counts-count.ensures.instrs,
      c.requires.spellable.few_instrs,
    ) in
    rw c.number_at.ensures (subst (λ n. Goes g.T.Outlet o s w t (doing new (1 + n) (1 + n) None) left c.take.new.self
    c.steps_but-then-not-take.result Refused) (next_number c.loop-at.at)
    (subst (λ q. Goes g.T.Outlet o s w t (doing new q q None) left c.take.new.self c.steps_but-then-not-take.result
    Refused) (next_place i small)
    (goes_then g.T.Outlet o s (bank_over c.loop-at.file (pending c.loop-at.queue) c.loop-at.cells) new i c.fetch.result
    (effects.Commit c.in-Commit.output) w c.loop-at.wild
    left t c.loop-at.outlet c.take.new.self (2 * (all - (limit - c.loop-at.at) / 16)) c.steps_but-then-not-take.result
    Refused v.goes at c.in-Commit.ensures (passes_last g.T.Outlet c.in-Commit.output c.take.result c.loop-at.outlet
    c.take.new.self c.if-not-take.true c.take.ensures.heard c.take.ensures.still) (done
    ∙ sym c.steps_but-then-not-take.ensures))))

pub loop-at-preserved : goal.loop-at-preserved
loop-at-preserved g c =
    let pending = g.Q.PendingStores.pending in
    let o = g.P.Program.object c.args.program.now in
    let s = doing (bank_over c.args.file.now (pending c.args.queue.now) c.args.cells.now) c.args.first c.args.first None
    in
    let v = c.loop-at.invariant in
    let all = c.instructions_in-all.result in
    let limit = c.loop-at.limit in
    let i = c.loop-at.at / 16 in
    let w = c.args.wild.now in
    let t = c.args.outlet.now in
    let left = c.execute.new.wild in
    let new = (bank_over c.execute.new.self (pending c.execute.new.queue) c.execute.new.cells) in
    let at = there_is o i c.fetch.result c.fetch.ensures in
    let room = has_room c.loop-at.at c.loop-at.past limit c.loop-at-test.true v.past v.whole v.limit_whole in
    let done = on_done all limit c.loop-at.at room v.left in
    let small : i < 2 ^ 32 = omega (
      arith,
      c.loop-at-test.true,
      v.there,
      c.counts-count.ensures.instrs,
      c.requires.spellable.few_instrs,
    ) in
    record {
      whole = omega (arith, v.whole);
      limit_whole = v.limit_whole;
      within = room;
      past = v.past;
      there = v.there;
      left = omega (arith, v.left);
      some = omega (arith, room, v.left);
      goes = subst (λ n. Goes g.T.Outlet o s w t (doing new (1 + n) (1 + n) None) left c.take.new.self
          (2 * (all - (limit - (c.loop-at.at + 16)) / 16)) Running) (next_number c.loop-at.at)
          (subst (λ q. Goes g.T.Outlet o s w t (doing new q q None) left c.take.new.self
          (2 * (all - (limit - (c.loop-at.at + 16)) / 16)) Running) (next_place i small)
          (goes_then g.T.Outlet o s (bank_over c.loop-at.file (pending c.loop-at.queue) c.loop-at.cells) new i
          c.fetch.result (effects.Commit c.in-Commit.output) w
          c.loop-at.wild left t c.loop-at.outlet c.take.new.self (2 * (all - (limit - c.loop-at.at) / 16))
          (2 * (all - (limit - (c.loop-at.at + 16)) / 16)) Running v.goes at c.in-Commit.ensures
          (passes_on g.T.Outlet c.in-Commit.output c.take.result c.loop-at.outlet c.take.new.self c.if-not-take.false
          c.take.ensures.heard c.take.ensures.still) done));
    }

pub returns-in-Done-clause-goes : goal.returns-in-Done-clause-goes
returns-in-Done-clause-goes g c =
    let pending = g.Q.PendingStores.pending in
    let o = g.P.Program.object c.args.program.now in
    let s = doing (bank_over c.args.file.now (pending c.args.queue.now) c.args.cells.now) c.args.first c.args.first None
    in
    let v = c.loop-at.invariant in
    let all = c.instructions_in-all.result in
    let limit = c.loop-at.limit in
    let i = c.loop-at.at / 16 in
    let w = c.args.wild.now in
    let t = c.args.outlet.now in
    let left = c.execute.new.wild in
    let new = (bank_over c.execute.new.self (pending c.execute.new.queue) c.execute.new.cells) in
    let at = there_is o i c.fetch.result c.fetch.ensures in
    let room = has_room c.loop-at.at c.loop-at.past limit c.loop-at-test.true v.past v.whole v.limit_whole in
    let done = on_done all limit c.loop-at.at room v.left in
    let pc = 1 + i in
    rw c.number_at-in-Done.ensures (subst (λ (f : Option Instr).
    Goes g.T.Outlet o s w t (record (doing new pc pc f) { status = status.Done }) left c.loop-at.outlet
    c.steps_but-in-Done.result Done) (sym at)
    (goes_then g.T.Outlet o s (bank_over c.loop-at.file (pending c.loop-at.queue) c.loop-at.cells) new i c.fetch.result
    effects.Done w c.loop-at.wild left t c.loop-at.outlet
    c.loop-at.outlet (2 * (all - (limit - c.loop-at.at) / 16)) c.steps_but-in-Done.result Done v.goes at
    c.in-Done.ensures (passes_done g.T.Outlet c.loop-at.outlet) (done ∙ sym c.steps_but-in-Done.ensures)))

pub returns-in-Detected-clause-goes : goal.returns-in-Detected-clause-goes
returns-in-Detected-clause-goes g c =
    let pending = g.Q.PendingStores.pending in
    let o = g.P.Program.object c.args.program.now in
    let s = doing (bank_over c.args.file.now (pending c.args.queue.now) c.args.cells.now) c.args.first c.args.first None
    in
    let v = c.loop-at.invariant in
    let all = c.instructions_in-all.result in
    let limit = c.loop-at.limit in
    let i = c.loop-at.at / 16 in
    let w = c.args.wild.now in
    let t = c.args.outlet.now in
    let left = c.execute.new.wild in
    let new = (bank_over c.execute.new.self (pending c.execute.new.queue) c.execute.new.cells) in
    let at = there_is o i c.fetch.result c.fetch.ensures in
    let room = has_room c.loop-at.at c.loop-at.past limit c.loop-at-test.true v.past v.whole v.limit_whole in
    let done = on_done all limit c.loop-at.at room v.left in
    let pc = 1 + i in
    rw c.number_at-in-Detected.ensures (subst (λ (f : Option Instr).
    Goes g.T.Outlet o s w t (record (doing new pc pc f) { status = status.Detected }) left c.loop-at.outlet
    c.steps_but-in-Detected.result Detected) (sym at)
    (goes_then g.T.Outlet o s (bank_over c.loop-at.file (pending c.loop-at.queue) c.loop-at.cells) new i c.fetch.result
    effects.Detected w c.loop-at.wild left t
    c.loop-at.outlet c.loop-at.outlet (2 * (all - (limit - c.loop-at.at) / 16)) c.steps_but-in-Detected.result
    Detected v.goes at c.in-Detected.ensures (passes_detected g.T.Outlet c.loop-at.outlet) (done
    ∙ sym c.steps_but-in-Detected.ensures)))
