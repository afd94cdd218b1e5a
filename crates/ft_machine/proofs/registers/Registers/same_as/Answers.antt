use Rattle.std.proofs.Common.{◌≡◌, ap, sym, ◌∙◌, refl, eqb, rules}
use lib.Pointwise.{pointwise}
use Rattle.ft_machine.specs.Arrays.{registers_of}
use Rattle.ft_machine.proofs.SameArrays.{same_register_words, same_register_colours, words_decide, colours_decide}
use Rattle.ft_machine.proofs.SameArrays.{not_true, not_false}
use Rattle.ft_machine.proofs.registers.Registers.same_as.Goals as goal

pub returns-then-ne : goal.returns-then-ne
returns-then-ne c =
    let h = words_decide c.as_slice.result.now c.as_slice-2.result.now
    (pointwise eqb c.as_slice.result.now c.as_slice-2.result.now) refl in
    let off = not_true c.ne.result (pointwise eqb c.as_slice.result.now c.as_slice-2.result.now) c.ne.ensures
    c.if-ne.true in (
      λ t. absurd (cc),
      λ e. (let same = same_register_words c.self.inside.words c.other.inside.words
          c.self.inside.colours c.other.inside.colours c.self.told c.other.told (c.self.view_is ∙ e
          ∙ sym c.other.view_is) in sym off ∙ h.1 (c.as_slice.ensures ∙ same ∙ sym c.as_slice-2.ensures)),
    )

pub returns : goal.returns
returns c =
    let w = words_decide c.as_slice.result.now c.as_slice-2.result.now
    (pointwise eqb c.as_slice.result.now c.as_slice-2.result.now) refl in
    let on = w.0 (not_false c.ne.result (pointwise eqb c.as_slice.result.now c.as_slice-2.result.now) c.ne.ensures
    c.if-ne.false) in
    let h = colours_decide c.as_slice-3.result.now c.as_slice-4.result.now c.eq.result c.eq.ensures in
    let words : c.self.inside.words ≡ c.other.inside.words = sym c.as_slice.ensures ∙ on ∙ c.as_slice-2.ensures in (
      λ t.
          sym c.self.view_is ∙ ap (λ xs. registers_of xs c.self.inside.colours) words
          ∙ ap (λ cs. registers_of c.other.inside.words cs) (sym c.as_slice-3.ensures ∙ h.0 t ∙ c.as_slice-4.ensures)
          ∙ c.other.view_is,
      λ e. h.1 (c.as_slice-3.ensures ∙ same_register_colours c.self.inside.words c.other.inside.words
          c.self.inside.colours c.other.inside.colours (search rules) (search rules) (c.self.view_is ∙ e
          ∙ sym c.other.view_is) ∙ sym c.as_slice-4.ensures),
    )
