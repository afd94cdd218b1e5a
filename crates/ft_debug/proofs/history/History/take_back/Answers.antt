use Rattle.std.proofs.Common.{◌≡◌, ◌-◌, ◌∷◌, length, take, ap, ◌∙◌}
use Rattle.circular_buffer.specs.Buffer.{Buffer, buffer}
use Rattle.ft_debug.proofs.history.History.take_back.Goals as goal

put_first : {X : Type 0} (a b e : Buffer X) (x y : X) → length a.items ≡ 4096 → b
    ≡ buffer (take (length a.items - 1) a.items) a.capacity → x ≡ y → e ≡ buffer (x ∷ b.items) b.capacity → e.items
    ≡ y ∷ take 4095 a.items
put_first a b e x y long eb exy ee =
    ap (λ (r : Buffer _). r.items) ee ∙ ap (λ (r : Buffer _). x ∷ r.items) eb ∙ ap (λ n. x ∷ take (n - 1) a.items) long
    ∙ ap (λ z. z ∷ take 4095 a.items) exy

pub returns-clause-moments : goal.returns-clause-moments
returns-clause-moments c = put_first _ _ _ _ _ c.requires.full.length_is c.pop_back.ensures.items
    c.replace-past.ensures.value c.in-Ok.ensures.ok
