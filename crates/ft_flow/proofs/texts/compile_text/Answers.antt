use Rattle.std.proofs.Common.{◌≡◌, [], Ok, length, subst, rules}
use Rattle.ft_lower.specs.Cutting.{blocks_onto}
use Rattle.ft_lower.specs.Well.{IsWell}
use Rattle.ft_compile.specs.FlowObjects.{StandsForFlow}
use Rattle.ft_flow.specs.PartsAt.{parts_at}
use Rattle.ft_flow.specs.Texts.{read_text}
use Rattle.ft_flow.proofs.StandsForTexts.{stands_for_text}
use Rattle.ft_flow.proofs.texts.compile_text.Goals as goal

pub returns-in-Ok-object_of-clause-ok : goal.returns-in-Ok-object_of-clause-ok
returns-in-Ok-object_of-clause-ok c =
    let t = parts_at c.in-Ok.parts in
    let o = c.in-Ok-object_of.object in
    let bs = blocks_onto [] c.in-Ok-spares_of.steps.items in
    let read : read_text c.args.text.now ≡ Ok t = search rules in
    let same = c.in-Ok-spares_of.ensures.spared in
    let stands : StandsForFlow t.names t.inits bs o =
    subst (λ l. StandsForFlow t.names l bs o) c.deref.ensures.value c.in-Ok-object_of.ensures.stands in (
      t,
      read,
      stands_for_text t o (subst (λ x. IsWell t.vars (length t.inits) x) same c.in-Ok-spares_of.ensures.well)
          (subst (λ x. StandsForFlow t.names t.inits x o) same stands),
    )
