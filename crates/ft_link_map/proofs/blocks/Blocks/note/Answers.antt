use Rattle.std.proofs.Common.{◌||◌, ap, ◌∙◌}
use Rattle.std.specs.Ordering.{nat_cmp, is_eq, ordering_then}
use Rattle.ft_link_map.specs.Held.{knows_block}
use Rattle.ft_link_map.proofs.NamedSets.{cond_is_or, same_place}
use Rattle.ft_link_map.proofs.blocks.Blocks.note.Goals as goal

pub returns-clause-noted : goal.returns-clause-noted
unfolding knows_block
returns-clause-noted c = λ m b.
    let known = knows_block c.args.self.now m b in
    c.in_ok-added.ensures.updates.0 (m, b) ∙ cond_is_or
    (is_eq (ordering_then (nat_cmp c.args.module m) (nat_cmp c.args.block b))) known
    ∙ ap (λ t. t || known) (same_place c.args.module c.args.block m b)
