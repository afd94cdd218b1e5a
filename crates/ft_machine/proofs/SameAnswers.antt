-- The code's test for equal answers to wild loads is exact.
use Rattle.std.proofs.Common.{◌≡◌, Bool, List, refl, ap, Decides}
use Rattle.std.proofs.lemmas.Bool.Decides.{Decides-eqb, Decides-like}
use Rattle.std.proofs.lemmas.Slice.Eq.{slice_eq-Decides}
use lib.Pointwise.{pointwise}
use Rattle.ft_isa.specs.declared.plan.Wild.{Wild}
use Rattle.ft_isa.specs.declared.plan.Wild.TheVariants.{Word, Stop}
use Rattle.ft_isa.specs.contracts.plan.WildPartialEq.TheImpl as same

wild_decides : (a b : Wild) → Decides (same.eq-value.it a b) (a ≡ b)
wild_decides (Word v) (Word u) = Decides-like _ (λ e. ap Word e) (λ e. cc) (Decides-eqb v u)
wild_decides (Word v) Stop = (λ t. absurd (cc), λ e. absurd (cc))
wild_decides Stop (Word u) = (λ t. absurd (cc), λ e. absurd (cc))
wild_decides Stop Stop = (λ t. refl, λ e. refl)

pub answers_decide : (xs ys : List Wild) (r : Bool) → r ≡ pointwise same.eq-value.it xs ys → Decides r (xs ≡ ys)
answers_decide xs ys r e = slice_eq-Decides wild_decides xs ys r e
