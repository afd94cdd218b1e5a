-- The faults that are tried.
use Rattle.std.proofs.Common.{◌≡◌, ℕ, zero, suc, ◌+◌, ◌*◌, ◌≤◌, [], ◌∷◌, ◌++◌, length, Option, Some, None, refl, ap}
use Rattle.std.proofs.Common.{sym, ◌∙◌, arith, length-append}
use Rattle.std.specs.Option.{option_map, option_to_list}
use Rattle.ft_isa.specs.Registers.{reg_of}
use Rattle.ft_isa.proofs.Registers.{reg_of-number}
use Rattle.ft_isa.specs.declared.reg.Reg.{Reg}
use Rattle.ft_isa.specs.declared.plan.Site.TheVariants.{R}
use Rattle.ft_isa.specs.declared.plan.Strike.{Strike}
use Rattle.ft_demo.specs.Demonstrations.{fault, first_faults}

-- fault j, in terms of the register with number j
pub fault_is : (j : ℕ) (register : Reg) → register.number ≡ j → fault j
    ≡ Some (record { step = 16 * j; site = R register; value = j })
fault_is j register e =
    let whole : Reg → Strike = λ r. record { step = 16 * j; site = R r; value = j } in
    ap (option_map whole) (ap reg_of (sym e) ∙ reg_of-number register)

pub no_faults : first_faults 0 ≡ []
unfolding first_faults
no_faults = refl

-- the first n + 1 faults are the first n and fault n
pub more_faults : (n : ℕ) (x : Strike) → fault n ≡ Some x → first_faults (n + 1) ≡ first_faults n ++ x ∷ []
unfolding first_faults
more_faults n x e = let next : n + 1 ≡ suc n = omega arith in
    ap first_faults next ∙ ap (λ f. first_faults n ++ option_to_list f) e

at_most_one : (f : Option Strike) → length (option_to_list f) ≤ 1
at_most_one None = omega arith
at_most_one (Some x) = omega arith

-- the list of the first n faults has at most n elements
pub few_faults : (n : ℕ) → length (first_faults n) ≤ n
unfolding first_faults
few_faults zero = omega arith
few_faults (suc n) = let long = length-append (first_faults n) (option_to_list (fault n)) in
    omega (arith, long, at_most_one (fault n), few_faults n)
