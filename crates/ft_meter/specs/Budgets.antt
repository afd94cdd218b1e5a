-- What a budget has counted, and when it is spent.
use Rattle.std.specs.Prelude.{ℕ, ◌-◌, ◌^◌, Bool, true, false, Option, None, Some}

-- the steps counted, if so many are left: 2 ^ 64 - 1 if none is left, and one more after a refusal
abbrev pub counted : Option ℕ → ℕ
counted None = 2 ^ 64
counted (Some left) = 2 ^ 64 - 1 - left

-- steps or work were refused
abbrev pub is_spent : Option ℕ → Option ℕ → Bool
is_spent None work = true
is_spent (Some steps) None = true
is_spent (Some steps) (Some work) = false
