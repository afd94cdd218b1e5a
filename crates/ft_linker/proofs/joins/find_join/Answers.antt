use Rattle.std.proofs.Common.{get_or, sym, ◌∙◌}
use Rattle.std.proofs.lemmas.Option.{slice_get-get_or}
use Rattle.ft_linker.specs.declared.joins.Join.{Join}
use Rattle.ft_linker.proofs.Joining.{join_here, join_later, join_never}
use Rattle.ft_linker.proofs.joins.find_join.Goals as goal

no_join : Join
no_join = record { module_of = 0; block = 0; to_module = 0; to_block = 0 }

pub loop-i-preserved : goal.loop-i-preserved
unfolding no_join
loop-i-preserved c = c.loop-i.invariant ∙ join_later c.args.entry c.args.joins.now c.loop-i.i
    (get_or c.args.joins.now c.loop-i.i no_join) (slice_get-get_or c.args.joins.now c.loop-i.i no_join
    c.loop-i-test.true) (sym c.if-is_from.ensures)

pub returns-then-is_from : goal.returns-then-is_from
unfolding no_join
returns-then-is_from c = sym (c.loop-i.invariant ∙ join_here c.args.entry c.args.joins.now c.loop-i.i
    (get_or c.args.joins.now c.loop-i.i no_join) (slice_get-get_or c.args.joins.now c.loop-i.i no_join
    c.loop-i-test.true) (sym c.if-is_from.ensures))

pub returns : goal.returns
returns c = sym (c.loop-i.invariant ∙ join_never c.args.entry c.args.joins.now c.loop-i.i c.loop-i-test.false)
