-- Static queues: after a pair is added, and after the oldest is removed.
use Rattle.std.proofs.Common.{suc, List, [], ◌∷◌, ◌++◌, drop}
use Rattle.ft_static.specs.Form.{Form as Normal}
use Rattle.ft_norm.specs.declared.form.Form.{Form}
use Rattle.ft_norm.specs.Held.{IsInteger}
use Rattle.ft_contexts.specs.Contexts.{HoldsQueue}
use Rattle.ft_contexts.proofs.Lists.{get_pushed}

-- all forms of a static queue are held after a pair of held forms is added
pub more_held : (fs : List Normal) (q : List (Form × Form)) (p : Form × Form) → HoldsQueue fs q → IsInteger fs p.0
    × IsInteger fs p.1 → HoldsQueue fs (q ++ p ∷ [])
more_held fs q p h k i y e = get_pushed q p i y e (λ _ z. IsInteger fs z.0 × IsInteger fs z.1) k (λ j z f. h j z f)

-- all forms of a static queue are held after its oldest pair is removed
pub others_held : (fs : List Normal) (q : List (Form × Form)) → HoldsQueue fs q → HoldsQueue fs (drop 1 q)
others_held fs [] h = h
others_held fs (p ∷ q) h = λ i y e. h (suc i) y e
