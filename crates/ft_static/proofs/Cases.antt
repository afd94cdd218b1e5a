-- Proofs by cases on a comparison or a test.
use Rattle.std.proofs.Common.{◌≡◌, Bool, true, false, if◌then◌else◌, refl}
use Rattle.std.specs.declared.cmp.Ordering.{Ordering}
use Rattle.std.specs.declared.cmp.Ordering.TheVariants.{Less, Equal, Greater}
use Rattle.ft_static.specs.NormalForm.{by_order}

-- what holds of each choice holds of the chosen one
pub by_cases : {A : Type 0} (P : A → Type 0) (o : Ordering) (x y z : A) → (o ≡ Less → P x) → (o ≡ Equal → P y) →
    (o ≡ Greater → P z) → P (by_order o x y z)
by_cases P Less x y z f g h = f refl
by_cases P Equal x y z f g h = g refl
by_cases P Greater x y z f g h = h refl

-- what holds of both branches holds of the taken one
pub if_cases : {A : Type 0} (P : A → Type 0) (b : Bool) (x y : A) → (b ≡ true → P x) → (b ≡ false → P y) →
    P (if b then x else y)
if_cases P true x y f g = f refl
if_cases P false x y f g = g refl
