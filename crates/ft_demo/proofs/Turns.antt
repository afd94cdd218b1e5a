-- Turns, one after another.
use Rattle.std.proofs.Common.{◌≡◌, ℕ, suc, ◌<◌, ◌-◌, ◌+◌, List, ◌++◌, sym, ap, ◌∙◌, arith}
use Rattle.std.proofs.Common.{append_assoc}
use Rattle.ft_isa.specs.declared.instr.Instr.{Instr}
use Rattle.ft_demo.specs.Sample.{turn, turns_from}

-- the turns that are left begin with the next one
pub more_turns : (xs ys zs : List Instr) (i n : ℕ) → i < n → ys ≡ xs ++ turn (i + 1) → xs ++ turns_from (i + 1) (n - i)
    ≡ zs
    → ys ++ turns_from (i + 1 + 1) (n - (i + 1)) ≡ zs
more_turns xs ys zs i n lt e h =
    let left : n - i ≡ suc (n - (i + 1)) = omega (arith, lt) in
    let next : i + 1 + 1 ≡ suc (i + 1) = omega arith in
    ap (λ ws. ws ++ turns_from (i + 1 + 1) (n - (i + 1))) e
    ∙ append_assoc xs (turn (i + 1)) (turns_from (i + 1 + 1) (n - (i + 1)))
    ∙ ap (λ k. xs ++ (turn (i + 1) ++ turns_from k (n - (i + 1)))) next
    ∙ sym (ap (λ m. xs ++ turns_from (i + 1) m) left) ∙ h
