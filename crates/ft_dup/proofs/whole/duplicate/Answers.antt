-- The computed starts are as defined, so the targets' places are too; a lemma proves what the runs do.
use Rattle.std.proofs.Common.{◌≡◌, ◌<◌, [], sym, ap, ◌∙◌, subst, length, slice_index}
use Rattle.std.specs.List.{All}
use Rattle.ft_lower.specs.Cutting.{blocks_of, blocks_onto}
use Rattle.ft_lower.specs.Size.{pairs_of}
use Rattle.ft_lower.proofs.Cuts.{all_of_row}
use Rattle.ft_dup.specs.Shape.{HasTarget}
use Rattle.ft_dup.specs.Images.{starts, row_images}
use Rattle.ft_dup.proofs.WellFormedBlocks.{targets_there, images_there}
use Rattle.ft_dup.proofs.Laying.{blocks_length, images_onto}
use Rattle.ft_dup.proofs.WholeRuns.{runs_as}
use Rattle.ft_dup.proofs.whole.duplicate.Goals as goal

pub put_steps-requires-clause-pairs : goal.put_steps-requires-clause-pairs
put_steps-requires-clause-pairs c =
    subst (All (λ i. All (λ p. p < 32) (pairs_of i))) (sym c.deref-3.ensures.value)
    (all_of_row (λ i. All (λ p. p < 32) (pairs_of i)) c.args.flow.now.steps.items c.requires.pairs)

pub put_steps-requires-clause-targets : goal.put_steps-requires-clause-targets
put_steps-requires-clause-targets c =
    let e : c.deref-2.result.now ≡ starts (blocks_of c.args.flow.now) = c.deref-2.ensures.value
    ∙ c.in_ok-starts.ensures.starts ∙ ap (λ l. starts (blocks_onto [] l)) c.deref.ensures.value in
    subst (All (HasTarget (length c.deref-2.result.now))) (sym c.deref-3.ensures.value)
    (all_of_row (HasTarget (length c.deref-2.result.now)) c.args.flow.now.steps.items
    (targets_there c.deref-2.result.now (blocks_of c.args.flow.now) e c.requires.targets))

pub returns-clause-instrs : goal.returns-clause-instrs
returns-clause-instrs c =
    let e : c.deref-2.result.now ≡ starts (blocks_of c.args.flow.now) = c.deref-2.ensures.value
    ∙ c.in_ok-starts.ensures.starts ∙ ap (λ l. starts (blocks_onto [] l)) c.deref.ensures.value in
    c.in_ok-instrs.ensures ∙ ap (row_images (slice_index c.deref-2.result.now)) c.deref-3.ensures.value
    ∙ sym (images_onto (slice_index c.deref-2.result.now) c.args.flow.now.steps.items)
    ∙ images_there c.deref-2.result.now (blocks_of c.args.flow.now) e c.requires.targets

pub returns-clause-runs : goal.returns-clause-runs
returns-clause-runs c = runs_as c.args.flow.now.vars c.args.flow.now.cells (blocks_of c.args.flow.now)

pub returns-clause-size : goal.returns-clause-size
returns-clause-size c =
    ap length c.in_ok-instrs.ensures
    ∙ ap (λ l. length (row_images (slice_index c.deref-2.result.now) l)) c.deref-3.ensures.value
    ∙ ap length (sym (images_onto (slice_index c.deref-2.result.now) c.args.flow.now.steps.items))
    ∙ blocks_length (slice_index c.deref-2.result.now) (blocks_of c.args.flow.now)
