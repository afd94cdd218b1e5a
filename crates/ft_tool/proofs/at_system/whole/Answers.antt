use Rattle.std.proofs.Common.{◌≢◌, [], OnErr, subst, sym}
use Rattle.ft_edge.specs.Gathered.{IsFront}
use Rattle.ft_tool.proofs.AtTypes.{front_broken, front_flushed}
use Rattle.ft_tool.proofs.at_system.whole.Goals as goal

pub returns-then-status-eq-NOT_WRITTEN-clause-write_failure :
    goal.returns-then-status-eq-NOT_WRITTEN-clause-write_failure
returns-then-status-eq-NOT_WRITTEN-clause-write_failure g c = λ four files agree rest left.
    front_broken _ _ _ _ _ _ (c.program-status.ensures.write_failure four files agree rest left)
    (g.met.K.Gathers.tells c.args.out) (g.met.K.Gathers.tells c.program-status.new.out) c.requires.out
    (subst (λ whole. IsFront c.discard.result.taken.bytes whole) c.into_sink-gathered.ensures c.discard.ensures.front)

pub returns-in-Err-default-clause-write_failure : goal.returns-in-Err-default-clause-write_failure
returns-in-Err-default-clause-write_failure g c = λ four files agree rest left.
    front_flushed _ _ _ _ _ _ c.into_sink-gathered.result.0.out.taken.bytes c.into_sink-gathered.result.0.gathered.items
    _
    (λ a b d. c.program-status.ensures.headline a b d files agree rest left) c.if-status-eq-NOT_WRITTEN.false
    c.program-status.ensures.load_failure_puts_nothing c.program-status.ensures.no_memory_puts_nothing
    (g.met.K.Gathers.tells c.args.out) (g.met.K.Gathers.tells c.program-status.new.out) c.requires.out
    (sym c.into_sink-gathered.ensures)
    (subst (λ r. OnErr r (c.into_sink-gathered.result.0.gathered.items ≢ [])) c.in-Err-default.is-0
    c.finish.ensures.err)
    (subst (λ whole. IsFront c.finish.result.1.taken.bytes whole) c.into_sink-gathered.ensures c.finish.ensures.front)
