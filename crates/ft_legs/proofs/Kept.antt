-- A copy that is certified is a point.
use Rattle.std.proofs.Common.{◌≡◌, ℕ, ◌+◌, ◌≤◌, Bool, true, List, Option, Some, sym, ap, ◌∙◌, subst}
use Rattle.ft_isa.specs.declared.plan.Strike.{Strike}
use Rattle.ft_isa.specs.declared.plan.Wild.{Wild}
use Rattle.ft_types.specs.declared.object.Object.{Object}
use Rattle.ft_types.specs.Spellable.{IsSpellable}
use Rattle.ft_typing.specs.Accepted.{IsAccepted}
use Rattle.ft_semantics.specs.State.{State}
use Rattle.ft_semantics.specs.Strike.{struck_before}
use Rattle.ft_points.specs.Certified.{is_certified}
use Rattle.ft_points.specs.Points.{IsPoint, run_from}
use Rattle.ft_points.proofs.Renewing.{point_renewed}

-- a copy that is certified is a point
pub copy_is_point : (o : Object) (n : ℕ) (s : State) (strike : Option Strike) (w : List Wild) (k : ℕ) (t u : State)
    (b : Bool) → IsSpellable o → u ≡ t → b ≡ is_certified o u → IsAccepted o → IsPoint o n s →
    ((x : Strike) → strike ≡ Some x → x.step ≤ k) → t ≡ struck_before strike k (run_from o s strike w k).state →
    b ≡ true → IsPoint o (n + k) u
copy_is_point o n s strike w k t u b spelled copied test acc h le is passed =
    let all : u ≡ struck_before strike k (run_from o s strike w k).state = copied ∙ is in
    subst (λ (x : State). IsPoint o (n + k) x) (sym all)
    (point_renewed o n s strike w k spelled acc h le (ap (is_certified o) (sym all) ∙ sym test ∙ passed))
