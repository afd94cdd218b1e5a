use Rattle.std.proofs.Common.{◌≡◌, ◌+◌, ◌*◌, ◌/◌, ◌%◌, ◌<◌, ◌^◌, ◌++◌, ◌∷◌, [], ℕ, List, None, Some, length, slice_get}
use Rattle.std.proofs.Common.{IfSome, ap, sym, subst, ◌∙◌, arith, add-zero}
use Rattle.ft_isa.specs.declared.instr.Instr.{Instr}
use Rattle.ft_isa.specs.declared.plan.Wild.{Wild}
use Rattle.ft_types.specs.declared.object.Object.{Object}
use Rattle.ft_semantics.specs.declared.status.Status.TheVariants.{Running}
use Rattle.ft_semantics.specs.State.{State}
use Rattle.ft_semantics.specs.Run.{state_after, status_after}
use Rattle.ft_machine.proofs.Spanned.{there_is}
use Rattle.ft_campaign.specs.Snapshots.{AreLengths, IsReady, LeadsOn}
use Rattle.ft_campaign.proofs.Queues.{lengths_two, ready_after}
use Rattle.ft_campaign.proofs.lengths.keep_straight.Goals as goal

two_more : (k n : ℕ) → k + n + 2 ≡ k + (n + 2)
two_more k n = omega arith

-- the lengths before both steps of an instruction, kept at once
both_kept : (o : Object) (w : List Wild) (k n pc b : ℕ) (xs ys : List ℕ) → ys ≡ xs ++ b ∷ b ∷ [] →
    AreLengths o w (k + n) xs → (status_after o None w (k + n) ≡ Running → IsReady pc b (state_after o None w (k + n)))
    → AreLengths o w (k + (n + 2)) ys
both_kept o w k n pc b xs ys more old ready =
    subst (AreLengths o w (k + (n + 2))) (sym more)
    (subst (λ j. AreLengths o w j (xs ++ b ∷ b ∷ [])) (two_more k n) (lengths_two o w (k + n) xs pc b old ready))

-- the machine is ready for the instruction after this one
ready_then : (o : Object) (w : List Wild) (k n i b c : ℕ) (x : Instr) → (status_after o None w (k + n) ≡ Running →
    IsReady (1 + i) b (state_after o None w (k + n))) → slice_get o.instrs (16 * i / 16) ≡ Some x → i < 65536 →
    LeadsOn x b c → status_after o None w (k + (n + 2)) ≡ Running →
    IsReady (1 + (i + 1)) c (state_after o None w (k + (n + 2)))
ready_then o w k n i b c x ready there few leads running =
    subst (λ j. IsReady (1 + (i + 1)) c (state_after o None w j)) (two_more k n)
    (subst (λ p. IsReady p c (state_after o None w (k + n + 2))) (more i)
    (ready_after o w (k + n) (1 + i) b c x ready (there_is o i x (ap (slice_get o.instrs) (sym (place i)) ∙ there))
    (low i few) leads (ap (status_after o None w) (two_more k n) ∙ running)))
  where
    more : (i : ℕ) → 1 + i + 1 ≡ 1 + (i + 1)
    more i = omega arith

    place : (i : ℕ) → 16 * i / 16 ≡ i
    place i = omega arith

    low : (i : ℕ) → i < 65536 → 1 + i + 1 < 2 ^ 64
    low i few = omega arith

ready_at : (pc b i : ℕ) (s : State) → 1 + i ≡ pc → IsReady pc b s → IsReady (1 + i) b s
ready_at pc b i s is ready = subst (λ p. IsReady p b s) (sym is) ready

pub loop-steps-init : goal.loop-steps-init
loop-steps-init g c =
    let o = g.P.Program.object c.args.program.now in
    record {
      few = omega arith;
      lengths = λ w k ready old. subst (λ j. AreLengths o w j c.args.lengths.now.items) (sym (add-zero k)) old;
      ready = λ w k ready there running.
          let first = (c.args.pc + 18446744073709551615) % 18446744073709551616 in
          subst (λ j. IsReady (1 + first) c.args.entries (state_after o None w j)) (sym (add-zero k))
          (ready_at c.args.pc c.args.entries first (state_after o None w k)
          (omega (arith, there, c.requires.spellable.few_instrs, c.ranges.pc.fits)) ready);
    }

pub loop-steps-preserved : goal.loop-steps-preserved
loop-steps-preserved g c =
    let o = g.P.Program.object c.args.program.now in
    let v = c.loop-steps.invariant in
    let there : c.loop-steps.i < length o.instrs =
    (let test = c.if-i-count.true in omega (arith, test, c.counts-count.ensures.instrs)) in
    record {
      few = (let room = c.loop-steps-test.true in room);
      lengths = λ w k ready old. both_kept o w k c.loop-steps.steps (1 + c.loop-steps.i) c.loop-steps.entries
          c.loop-steps.lengths.items _ c.in_ok-extend_from_slice.ensures.items (v.lengths w k ready old)
          (v.ready w k ready there);
      ready = λ w k ready below running. ready_then o w k c.loop-steps.steps c.loop-steps.i c.loop-steps.entries
          c.in-Some.next c.fetch-instr.result (v.ready w k ready there) c.fetch-instr.ensures
          (omega (arith, below, c.requires.spellable.few_instrs))
          (subst (λ r. IfSome r (LeadsOn c.fetch-instr.result c.loop-steps.entries)) c.in-Some.is
          c.entries_after.ensures) running;
    }

pub returns-in_default-clause-lengths : goal.returns-in_default-clause-lengths
returns-in_default-clause-lengths g c = λ w k ready old.
    let o = g.P.Program.object c.args.program.now in
    let v = c.loop-steps.invariant in
    let test = c.if-i-count.true in
    both_kept o w k c.loop-steps.steps (1 + c.loop-steps.i) c.loop-steps.entries c.loop-steps.lengths.items _
    c.in_ok-extend_from_slice.ensures.items (v.lengths w k ready old)
    (v.ready w k ready (omega (arith, test, c.counts-count.ensures.instrs)))
