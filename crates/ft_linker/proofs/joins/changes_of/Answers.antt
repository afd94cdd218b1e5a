use Rattle.std.proofs.Common.{◌≡◌, ℕ, ◌<◌, ◌+◌, ◌-◌, ◌∷◌, length, map, drop, get_or, sym, subst, arith}
use Rattle.std.proofs.lemmas.Option.{slice_get-get_or}
use Rattle.ft_isa.proofs.Lists.{all_there}
use Rattle.ft_modules.specs.Linked.{change_of}
use Rattle.ft_linker.specs.Changes.{Holds}
use Rattle.ft_linker.specs.Joins.{HasBoth, link_as}
use Rattle.ft_linker.specs.declared.joins.Join.{Join}
use Rattle.ft_linker.proofs.Joining.{change_next, change_none}
use Rattle.ft_linker.proofs.joins.changes_of.Goals as goal

no_join : Join
no_join = record { module_of = 0; block = 0; to_module = 0; to_block = 0 }

pub loop-i-init : goal.loop-i-init
loop-i-init c = change_none c.args.objects.now c.args.joins.now (length c.args.joins.now) c.new-changes.result
    (omega arith) c.new-changes.ensures

pub address-from-requires : goal.address-from-requires
unfolding no_join
address-from-requires c =
    let k = c.loop-i.i - 1 in
    let lt : k < length c.args.joins.now = omega (arith, c.loop-i.auto.i, c.loop-i-test.true) in
    let both = all_there (HasBoth c.args.objects.now) c.args.joins.now k (get_or c.args.joins.now k no_join)
    c.requires.there (slice_get-get_or c.args.joins.now k no_join lt) in
    record { can = c.requires.can; starts = c.requires.starts; there = both.from }

pub address-to-requires : goal.address-to-requires
unfolding no_join
address-to-requires c =
    let k = c.loop-i.i - 1 in
    let lt : k < length c.args.joins.now = omega (arith, c.loop-i.auto.i, c.loop-i-test.true) in
    let both = all_there (HasBoth c.args.objects.now) c.args.joins.now k (get_or c.args.joins.now k no_join)
    c.requires.there (slice_get-get_or c.args.joins.now k no_join lt) in
    record { can = c.requires.can; starts = c.requires.starts; there = both.to }

pub code_type-kind-requires : goal.code_type-kind-requires
unfolding no_join
code_type-kind-requires c =
    let k = c.loop-i.i - 1 in
    let lt : k < length c.args.joins.now = omega (arith, c.loop-i.auto.i, c.loop-i-test.true) in
    let both = all_there (HasBoth c.args.objects.now) c.args.joins.now k (get_or c.args.joins.now k no_join)
    c.requires.there (slice_get-get_or c.args.joins.now k no_join lt) in
    record { can = c.requires.can; starts = c.requires.starts; there = both.to }

pub loop-i-preserved : goal.loop-i-preserved
unfolding no_join
loop-i-preserved c =
    let ms = c.args.objects.now in
    let js = c.args.joins.now in
    let k = c.loop-i.i - 1 in
    let j = get_or js k no_join in
    let lt : k < length js = omega (arith, c.loop-i.auto.i, c.loop-i-test.true) in
    let next : c.loop-i.i ≡ k + 1 = omega (arith, c.loop-i-test.true) in
    let sent = c.in_ok-send.ensures (change_of ms (link_as j)) (map (change_of ms) (map link_as (drop c.loop-i.i js)))
    (sym c.address-from.ensures) (λ i. record {
      address = sym c.address-to.ensures i;
      code_type = sym c.code_type-kind.ensures i;
    }) c.loop-i.invariant in
    change_next ms js k j c.send.new.self (slice_get-get_or js k no_join lt)
    (subst (λ (n : ℕ). Holds c.send.new.self (change_of ms (link_as j) ∷ map (change_of ms) (map link_as (drop n js))))
    next sent)
