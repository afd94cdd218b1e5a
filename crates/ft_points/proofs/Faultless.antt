-- Without a fault, a state at the start of a block whose rows have partners is certified.
use Rattle.std.proofs.Common.{◌≡◌, ℕ, true, ◌&&◌, ◌==◌, List, slice_get}
use Rattle.std.proofs.Common.{Option, Some, None, refl, sym, ap, ◌∙◌, subst, eq-eqb, eqb-true}
use Rattle.std.specs.List.{list_all}
use Rattle.std.specs.Option.{is_none}
use Rattle.std.proofs.lemmas.Bool.{and_parts, and_from}
use Rattle.std.proofs.lemmas.List.Sums.{AllPass-from_list_all}
use Rattle.ft_isa.proofs.Lists.{all_pass, all_there}
use Rattle.ft_static.specs.Expression.{Valuation}
use Rattle.ft_static.specs.Form.{value_polynomial}
use Rattle.ft_types.specs.declared.object.Object.{Object}
use Rattle.ft_types.specs.declared.object.Block.{Block}
use Rattle.ft_types.specs.declared.object.RegType.{RegType}
use Rattle.ft_types.specs.Objects.{reg_rows, queue_rows}
use Rattle.ft_types.specs.Spellable.{IsSpellable}
use Rattle.ft_semantics.specs.declared.status.Status.TheVariants.{Running}
use Rattle.ft_semantics.specs.State.{State, word}
use Rattle.ft_semantics.specs.Strike.{is_running}
use Rattle.ft_typing.specs.TypedWord.{block_at}
use Rattle.ft_typing.specs.Context.{Context, typed_row, start_context, integer_form_of}
use Rattle.ft_typing.specs.Accepted.{has_none, IsAccepted}
use Rattle.ft_tolerance.specs.TypedState.{Place, FitsContext, Fits, IsPlace}
use Rattle.ft_points.specs.Certified.{are_partners, has_partner, is_paired, is_confirmed, is_certified_for}
use Rattle.ft_points.specs.Certified.{is_certified}
use Rattle.ft_points.proofs.Rows.{rows_rise, known_after, any_at, any_from}
use Rattle.ft_points.proofs.Certified.{begins}

module _ (o : Object) (v : Valuation) (t : ℕ) (s : State) (spelled : IsSpellable o)
    (fits : FitsContext o v (start_context o t) s) where
  abbrev rows : List RegType
  rows = reg_rows o t

  row_word : (k : ℕ) (r : RegType) → slice_get rows k ≡ Some r → word s r.reg
      ≡ value_polynomial (integer_form_of o r.expr) v
  row_word k r e =
      (fits.registers r.reg.number (typed_row o r) (known_after o 0 rows _ k r (rows_rise o t spelled) e)).word

  -- a row with a partner is confirmed
  confirms : (k : ℕ) (r : RegType) → slice_get rows k ≡ Some r → has_partner rows r ≡ true → is_confirmed s rows r
      ≡ true
  confirms k r e h =
      let f = any_at (are_partners r) rows h in
      let pair = and_parts _ _ f.passes in
      let same : r.expr ≡ f.element.expr = eqb-true r.expr f.element.expr pair.1 in
      let words : word s r.reg ≡ word s f.element.reg = row_word k r e
      ∙ ap (λ n. value_polynomial (integer_form_of o n) v) same ∙ sym (row_word f.place f.element f.there) in
      any_from (λ q. are_partners r q && (word s r.reg == word s q.reg)) rows f.place f.element f.there
      (and_from _ _ f.passes (eq-eqb (word s r.reg) (word s f.element.reg) words))

  certified_start : (b : Block) → b.code_type ≡ t → is_paired o t ≡ true → is_certified_for o s (Some b) ≡ true
  certified_start b e h = subst (λ (n : ℕ). ((s.d == 0) && has_none (queue_rows o n)
      && list_all (is_confirmed s (reg_rows o n)) (reg_rows o n)) ≡ true) (sym e)
      (let p = and_parts _ _ h in
      and_from _ _ (and_from _ _ (eq-eqb s.d 0 fits.d) p.0)
      (all_pass (is_confirmed s rows) rows (λ k r there. confirms k r there
      (all_there (λ q. has_partner rows q ≡ true) rows k r (AllPass-from_list_all (has_partner rows) rows p.1) there))))

-- a state that fits the start of a block whose rows have partners is certified
pub faultless : (o : Object) (p : Place) (s : State) (b : Block) → IsSpellable o → IsAccepted o → IsPlace o p →
    s.status ≡ Running → Fits o p s → s.fetched ≡ None → block_at o s.pc_green ≡ Some b →
    is_paired o b.code_type ≡ true → is_certified o s ≡ true
faultless o p s b spelled acc at go fits none e h =
    let start = begins o p b spelled acc at (ap (block_at o) (sym fits.pc_green) ∙ e) in
    let here = certified_start o p.valuation b.code_type s spelled
    (subst (λ (z : Context). FitsContext o p.valuation z s) start.context fits.context) b refl h in
    and_from _ _ (and_from _ _ (and_from _ _ (ap is_running go) (ap is_none none))
    (eq-eqb s.pc_green s.pc_blue (fits.pc_green ∙ sym fits.pc_blue)))
    (subst (λ (x : Option Block). is_certified_for o s x ≡ true) (sym e) here)
