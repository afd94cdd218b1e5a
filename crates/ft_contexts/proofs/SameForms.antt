-- The code's test of two lists of forms decides whether they are the same.
use Rattle.std.proofs.Common.{◌≡◌, Bool, List, ap, Decides}
use Rattle.std.proofs.lemmas.Bool.Decides.{Decides-eqb, Decides-like}
use Rattle.std.proofs.lemmas.Slice.Eq.{slice_eq-Decides}
use lib.Pointwise.{pointwise}
use Rattle.ft_norm.specs.declared.form.Form.{Form}
use Rattle.ft_norm.specs.contracts.form.FormPartialEq.TheImpl as form

-- the test of two forms decides whether they are the same
form_decides : (a b : Form) → Decides ((form.ghosts).eq a b) (a ≡ b)
form_decides a b = Decides-like _ (λ h. ap (λ x. let f : Form = record { 0 = x } in f) h)
    (λ e. ap (λ (f : Form). f.0) e) (Decides-eqb a.0 b.0)

-- the test of two lists of forms decides whether they are the same
pub forms_decide : (xs ys : List Form) (r : Bool) → r ≡ pointwise (form.ghosts).eq xs ys → Decides r (xs ≡ ys)
forms_decide = slice_eq-Decides form_decides
