use Rattle.std.proofs.Common.{sym, ap, ◌∙◌, subst, ◌≤◌, suc, ◌+◌, ◌≡◌, length, arith}
use Rattle.ft_isa.proofs.Lists.{all_there}
use Rattle.ft_types.specs.Spellable.{IsSpellable}
use Rattle.ft_modules.specs.declared.before.Before.{Before}
use Rattle.ft_modules.specs.Linked.{after_module, before_module, nothing_before}
use Rattle.ft_linker.specs.Tables.{Fits, HasTypedMoves}
use Rattle.ft_linker.proofs.Mapped.{at_index}
use Rattle.ft_linker.proofs.Stacking.{all_next, before_first, module_fits, taken}
use Rattle.ft_modules.proofs.Laying.{before_next}
use Rattle.ft_linker.proofs.laying.lay.Goals as goal

pub loop-m-init : goal.loop-m-init
loop-m-init c = record { start = before_first c.args.objects.now; tables = c.new-laid.ensures }

pub add-requires : goal.add-requires
add-requires c =
    let o = c.index-objects-m.result in
    let there = at_index c.args.objects.now c.loop-m.m o c.loop-m-test.true c.index-objects-m.is in
    record {
      spelled = all_there IsSpellable c.args.objects.now c.loop-m.m o c.requires.spelled there;
      typed = all_there HasTypedMoves c.args.objects.now c.loop-m.m o c.requires.typed there;
      fits = subst (λ (k : Before). Fits k o) (sym c.loop-m.invariant.start)
          (module_fits c.args.objects.now c.loop-m.m o c.requires.few there);
    }

pub after-start-requires : goal.after-start-requires
after-start-requires c =
    let o = c.index-objects-m.result in
    let there = at_index c.args.objects.now c.loop-m.m o c.loop-m-test.true c.index-objects-m.is in
    subst (λ (k : Before). Fits k o) (sym c.loop-m.invariant.start)
    (module_fits c.args.objects.now c.loop-m.m o c.requires.few there)

pub loop-m-preserved : goal.loop-m-preserved
loop-m-preserved c =
    let o = c.index-objects-m.result in
    let there = at_index c.args.objects.now c.loop-m.m o c.loop-m-test.true c.index-objects-m.is in
    let next : suc c.loop-m.m ≡ c.loop-m.m + 1 = omega arith in
    record {
      start = c.after-start.ensures ∙ ap (λ (k : Before). after_module k o) c.loop-m.invariant.start
          ∙ sym (before_next nothing_before c.args.objects.now c.loop-m.m o there)
          ∙ ap (before_module nothing_before c.args.objects.now) next;
      tables = all_next c.args.objects.now c.loop-m.m o c.loop-m.start c.loop-m.laid c.add.new.self there
          c.loop-m.invariant.start c.loop-m.invariant.tables c.in_ok-add.ensures;
    }

pub returns : goal.returns
returns c =
    let all : length c.args.objects.now ≤ c.loop-m.m = omega (arith, c.loop-m-test.false) in
    taken c.args.objects.now c.loop-m.m c.loop-m.laid all c.loop-m.invariant.tables
