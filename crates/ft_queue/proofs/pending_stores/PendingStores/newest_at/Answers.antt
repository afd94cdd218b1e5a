use Rattle.std.proofs.Common.{◌<◌, refl, sym, ◌∙◌, length, get_or, arith}
use Rattle.std.proofs.lemmas.Option.{slice_get-get_or}
use Rattle.ft_isa.specs.Pending.{newest_at}
use Rattle.ft_queue.proofs.PendingLemmas.{newest_now, newest_before}
use Rattle.ft_queue.proofs.pending_stores.PendingStores.newest_at.Goals as goal
use Rattle.ft_queue.proofs.pending_stores.PendingStores.newest_at.Goals.{in-Some+then-a-addr, in-Some+else-a-addr}
use Rattle.ft_queue.proofs.pending_stores.PendingStores.newest_at.Goals.{in_default}

pub loop-i-init : goal.loop-i-init
unfolding newest_at
loop-i-init g c = refl

pub loop-i-preserved : goal.loop-i-preserved
loop-i-preserved g c =
    let q = g.Self.PendingStores.pending c.args.self.now in
    let below : c.loop-i.i < length q = omega (arith, c.loop-i-test.true, c.len-i-end.ensures.pairs) in
    elim c.match-get.branch [
      | in-Some+then-a-addr w ↦ w.newest-is ∙ newest_now q c.loop-i.i c.args.addr (w.in-Some.a, w.in-Some.value) below
          (sym c.get.ensures ∙ w.in-Some.is) w.if-a-addr.true
      | in-Some+else-a-addr w ↦ w.newest-is ∙ c.loop-i.invariant
          ∙ newest_before q c.loop-i.i c.args.addr (w.in-Some.a, w.in-Some.value) below (sym c.get.ensures
          ∙ w.in-Some.is) w.if-a-addr.false
      | in_default w ↦ absurd (w.in_default.not-Some (get_or q c.loop-i.i (0, 0)) (c.get.ensures
          ∙ slice_get-get_or q c.loop-i.i (0, 0) below))
    ]
