-- A budget is spent only if more was counted than it had.
use Rattle.std.proofs.Common.{◌≡◌, ◌≢◌, ℕ, ◌+◌, ◌^◌, ◌<◌, ◌≤◌, IfSome, Option, None, Some, ap, arith}
use Rattle.ft_meter.specs.Budgets.{counted}

-- as long as no more is counted than was left, the budget is not spent
pub not_spent : (x y : Option ℕ) (cost : ℕ) → counted y ≤ counted x + cost →
    IfSome x (λ l. l < 2 ^ 64 → cost ≤ l → y ≢ None)
not_spent None y cost h = record {}
not_spent (Some l) y cost h = λ f k e. (let z : counted y ≡ 18446744073709551616 = ap counted e in
    omega (arith, h, f, k, z))
