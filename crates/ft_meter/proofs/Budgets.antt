-- What a budget counts when units are taken.
use Rattle.std.proofs.Common.{ℕ, ◌+◌, ◌-◌, ◌<◌, ◌≤◌, arith, None, Some}
use Rattle.ft_meter.specs.Budgets.{counted}

-- granted units count as many as they are
granting : (m l u : ℕ) → u ≤ l → m - (l - u) ≤ m - l + u
granting m l u h = omega (arith, h)

-- one more than all is at most what is counted with the units refused
refusing : (m l u : ℕ) → l < u → m + 1 ≤ m - l + u
refusing m l u h = omega (arith, h)

-- granted units count as many as they are
pub granted : (l u : ℕ) → u ≤ l → counted (Some (l - u)) ≤ counted (Some l) + u
granted l u h = granting 18446744073709551615 l u h

-- refused units count as no more than they are
pub refused : (l u : ℕ) → l < u → counted None ≤ counted (Some l) + u
refused l u h = refusing 18446744073709551615 l u h
