use Rattle.std.proofs.Common.{List, [], ◌∷◌, ◌++◌, length, sym, subst, ap, ◌∙◌, arith}
use Rattle.ft_types.specs.declared.object.Object.{Object}
use Rattle.ft_modules.specs.LinkRefusals.{are_few}
use Rattle.ft_linker.specs.Linking.{AreAdded, added_refusal}
use Rattle.ft_linker.specs.Totals.{totals_of}
use Rattle.ft_linker.proofs.Adding.{added_more, counted, few_by_totals, has_few_of}
use Rattle.ft_linker.proofs.modules.Modules.add.Goals as goal

pub with-totals-requires : goal.with-totals-requires
with-totals-requires c = record {
  spelled = c.requires.spelled;
  few = has_few_of c.self.inside.totals c.self.inside.objects.items c.self.invariant.1 c.self.invariant.0.few;
}

pub check_module-requires : goal.check_module-requires
check_module-requires c =
    let ms = c.self.inside.objects.items in
    let o = c.args.object in
    let same = c.as_slice.ensures.value in
    let long = ap length same in
    let few = counted ms c.self.invariant.0 in
    record {
      spelled = c.requires.spelled;
      counted = omega (arith, long, few);
      few = c.are_few-few.ensures ∙ few_by_totals c.with-totals.result (ms
          ++ o ∷ []) (c.with-totals.ensures ms c.self.invariant.1)
          ∙ ap (λ (z : List Object). are_few (z ++ o ∷ [])) (sym same);
    }

pub invariant_of-self : goal.invariant_of-self
invariant_of-self c =
    let same = c.in-Err-push.ensures.items in
    (subst AreAdded (sym same) c.self.invariant.0, c.self.invariant.1 ∙ ap totals_of (sym same))

pub invariant_of-self-2 : goal.invariant_of-self-2
invariant_of-self-2 c =
    let ms = c.self.inside.objects.items in
    let o = c.args.object in
    let longer = c.in-Ok-push.ensures.items in
    let unrefused = ap (λ (z : List Object). added_refusal z o) (sym c.as_slice.ensures.value)
    ∙ c.in-Ok.ensures.unrefused in (
      subst AreAdded (sym longer) (added_more ms o c.self.invariant.0 c.requires.spelled c.requires.accepted unrefused),
      c.with-totals.ensures ms c.self.invariant.1 ∙ ap totals_of (sym longer),
    )
