-- Registers and their numbers.
use Rattle.std.proofs.Common.{◌≡◌, ℕ, ◌<◌, Bool, true, false, Some, ap, sym, nat_lt, refl}
use Rattle.std.proofs.lemmas.Bool.{ltb-true, lt-ltb, true≢false}
use Rattle.std.proofs.Math.Bridge.{le_prop}
use Rattle.ft_isa.specs.Registers.{reg_if, reg_of}
use Rattle.ft_isa.specs.declared.reg.Reg.{Reg}

-- for a number below 64, `reg_if` returns the register with that number
pub some_reg : (n : ℕ) (b : Bool) (e : nat_lt n 64 ≡ b) (h : n < 64) → b ≡ true →
    Some (record { number = n; in_range = h }) ≡ reg_if n b e
some_reg n true e h t = ap (λ p. Some (record { number = n; in_range = p })) (le_prop h (ltb-true n 64 e))
some_reg n false e h t = absurd (true≢false (sym t))

-- a register's number is read back as that register
pub reg_of-number : (reg : Reg) → reg_of reg.number ≡ Some reg
reg_of-number reg = sym (some_reg reg.number (nat_lt reg.number 64) refl reg.in_range
    (lt-ltb reg.number 64 reg.in_range))

-- a register made from a number has that number
reg_if-number : (n : ℕ) (b : Bool) (e : nat_lt n 64 ≡ b) (reg : Reg) → reg_if n b e ≡ Some reg → reg.number ≡ n
reg_if-number n true e reg f = let same : record { number = n; in_range = ltb-true n 64 e } ≡ reg = cc in
    sym (ap (λ (r : Reg). r.number) same)
reg_if-number n false e reg f = absurd cc

-- the register that `reg_of` returns for a number has that number
pub number-reg_of : (n : ℕ) (reg : Reg) → reg_of n ≡ Some reg → reg.number ≡ n
number-reg_of n reg f = reg_if-number n (nat_lt n 64) refl reg f
