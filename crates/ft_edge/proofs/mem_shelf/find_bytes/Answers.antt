use Rattle.std.proofs.Common.{ap, sym, ◌∙◌, true, false, Some, map, nat_eq}
use Rattle.std.specs.Ordering.{nat_cmp}
use Rattle.std.specs.Cmp.Lexicographic.{slice_cmp, pointwise, nat_list_cmp_total}
use Rattle.std.specs.FinMap.{find, get-from_entries}
use Rattle.ft_edge.specs.Stored.{entry_of}
use Rattle.ft_edge.proofs.Found.{find_entry}
use Rattle.ft_edge.proofs.mem_shelf.find_bytes.Goals as goal

pub returns-then-eq : goal.returns-then-eq
returns-then-eq c =
    ap Some c.as_slice.ensures.value
    ∙ sym (c.loop-stored.invariant ∙ find_entry _ c.in-Some.stored.now _ _ true c.in-Some.ensures.steps
    (sym c.if-eq.true ∙ c.eq.ensures ∙ ap (pointwise nat_eq c.args.name.now) c.as_str.ensures.value))

pub loop-stored-preserved : goal.loop-stored-preserved
loop-stored-preserved c =
    c.loop-stored.invariant ∙ find_entry _ c.in-Some.stored.now _ _ false c.in-Some.ensures.steps (sym c.if-eq.false
    ∙ c.eq.ensures ∙ ap (pointwise nat_eq c.args.name.now) c.as_str.ensures.value)

pub loop-stored-init : goal.loop-stored-init
loop-stored-init c =
    get-from_entries nat_list_cmp_total _ _
    ∙ ap (λ files. find (slice_cmp nat_cmp) c.args.name.now (map entry_of files))
    (sym c.into_iter-stored-iterator.ensures.into_iter_gives.0)
