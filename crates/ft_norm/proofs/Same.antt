-- In an interner, equal forms have the same number.
use Rattle.std.proofs.Common.{◌≡◌, ◌↔◌, ◌==◌, List, Option, Some, sym, ap, ◌∙◌, subst, IsTrue, inl, inr}
use Rattle.std.proofs.lemmas.Bool.Decides.{Decides-eqb}
use Rattle.ft_static.specs.Form.{Form as Normal, integer_form, memory_form, form_denotation}
use Rattle.ft_static.specs.Expression.{Expression, HasWords, IsLawful, Valuation, denotation}
use Rattle.ft_static.specs.NormalForm.{norm}
use Rattle.ft_static.proofs.Denote.{norm_denotes}
use Rattle.ft_norm.specs.declared.entry.Entry.{Entry}
use Rattle.ft_norm.specs.declared.form.Form.{Form}
use Rattle.ft_norm.specs.Held.{IsHeld, held, polynomial, updates_held}
use Rattle.ft_norm.specs.Entries.{AreEntries, IsDistinct, forms_of}

-- numbers are equal exactly when the forms are
pub one_number : (es : List Entry) (fs : List Normal) (a b : Form) → AreEntries es → forms_of es ≡ fs → IsHeld fs a →
    IsTrue (a.0 == b.0) ↔ (held fs a ≡ held fs b)
one_number es fs a b h v i = (
  λ t. ap (λ k. held fs (record { 0 = k })) ((Decides-eqb a.0 b.0).0 t),
  λ e. (Decides-eqb a.0 b.0).1 (elim i [
    | inl x ↦ d.one a.0 b.0 (integer_form (polynomial fs a)) x.found (sym e ∙ x.found)
    | inr x ↦ d.one a.0 b.0 (memory_form (updates_held fs a)) x.found (sym e ∙ x.found)
  ]),
)
  where
    d : IsDistinct fs
    d = subst IsDistinct v h.distinct

-- expressions with the same form denote the same value
pub one_form_denotes : (x y : Expression) (s : Valuation) (f g : Option Normal) → f ≡ g → f ≡ Some (norm x) → g
    ≡ Some (norm y) → HasWords x → HasWords y → IsLawful s → denotation x s ≡ denotation y s
one_form_denotes x y s f g e h k a b lawful =
    let n : Some (norm x) ≡ Some (norm y) = sym h ∙ (e ∙ k) in
    let m : norm x ≡ norm y = cc in
    sym (norm_denotes x s lawful a) ∙ (ap (λ z. form_denotation z s) m ∙ norm_denotes y s lawful b)
