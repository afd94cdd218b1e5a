-- Sets of names and blocks after one more is added.
use Rattle.std.proofs.Common.{◌≡◌, ℕ, ◌==◌, ◌&&◌, ◌||◌, Bool, true, false, cond, refl, ap, ◌∙◌, arith}
use Rattle.std.specs.Ordering.{nat_cmp, ordering_then, is_eq}
use Rattle.std.specs.declared.cmp.Ordering.{Ordering}
use Rattle.std.specs.declared.cmp.Ordering.TheVariants.{Less, Equal, Greater}

-- a conditional whose first branch is `true` is a disjunction
pub cond_is_or : (b x : Bool) → cond b true x ≡ (b || x)
cond_is_or true x = refl
cond_is_or false x = refl

-- a comparison by two keys finds equality exactly when both keys compare as equal
first_of_two : (o p : Ordering) → is_eq (ordering_then o p) ≡ (is_eq o && is_eq p)
first_of_two Less p = refl
first_of_two Equal p = refl
first_of_two Greater p = refl

-- numbers compare as equal exactly when they are the same
same_number : (a b : ℕ) → is_eq (nat_cmp a b) ≡ (a == b)
same_number a b = grind arith

-- two places are the same exactly when their modules and their block numbers are
pub same_place : (a b m n : ℕ) → is_eq (ordering_then (nat_cmp a m) (nat_cmp b n)) ≡ ((a == m) && (b == n))
same_place a b m n = first_of_two (nat_cmp a m) (nat_cmp b n) ∙ ap (λ x. x && is_eq (nat_cmp b n)) (same_number a m)
    ∙ ap (λ x. (a == m) && x) (same_number b n)
