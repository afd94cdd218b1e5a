use Rattle.std.proofs.Common.{sym, ap, ◌∙◌, subst}
use Rattle.ft_types.specs.Spellable.{IsSpellable}
use Rattle.ft_typing.specs.Accepted.{IsAccepted}
use Rattle.ft_typing.proofs.Acceptance.{accepted_is_unrefused}
use Rattle.ft_format.specs.Broken.{object_of}
use Rattle.ft_demo.proofs.demonstration.show_sample.Goals as goal

pub show-requires-clause-spellable : goal.show-requires-clause-spellable
show-requires-clause-spellable c =
    subst IsSpellable (sym (ap object_of (c.view_of-view.ensures ∙ c.as_slice.ensures.value)))
    c.in_ok-bytes.ensures.spellable

pub show-requires-clause-accepted : goal.show-requires-clause-accepted
show-requires-clause-accepted c =
    subst IsAccepted (sym (ap object_of (c.view_of-view.ensures ∙ c.as_slice.ensures.value)))
    c.in_ok-bytes.ensures.accepted

pub show-requires-clause-unrefused : goal.show-requires-clause-unrefused
show-requires-clause-unrefused c = (accepted_is_unrefused (object_of c.view_of-view.result)).0
    (subst IsAccepted (sym (ap object_of (c.view_of-view.ensures ∙ c.as_slice.ensures.value)))
    c.in_ok-bytes.ensures.accepted)
