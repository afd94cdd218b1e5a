-- What follows if no rule is broken.
use Rattle.std.proofs.Common.{◌≡◌, Bool, true, false, List, [], ◌∷◌, Option, None, Some, refl}
use Rattle.std.specs.List.{AllByRecursion}
use Rattle.ft_format.specs.declared.object_error.ObjectError.{ObjectError}
use Rattle.ft_format.specs.Rules.{must, ◌next◌}

-- a required test holds if its rule is not broken
pub held : (b : Bool) (e : ObjectError) → must b e ≡ None → b ≡ true
held true e h = refl
held false e h = absurd (cc)

-- if no rule is broken, none of the first rules is, and none of the next
pub both : (a b : Option ObjectError) → (a next b) ≡ None → (a ≡ None) × (b ≡ None)
both None b h = (refl, h)
both (Some e) b h = absurd (cc)

-- the two halves of `both`
pub first_none : (r s : Option ObjectError) → (r next s) ≡ None → r ≡ None
first_none r s h = (both r s h).0

pub rest_none : (r s : Option ObjectError) → (r next s) ≡ None → s ≡ None
rest_none r s h = (both r s h).1

-- a chain of rules, in order; if it is unbroken, so is each of its rules
abbrev pub chain : List (Option ObjectError) → Option ObjectError
chain [] = None
chain (r ∷ []) = r
chain (r ∷ s ∷ rs) = r next chain (s ∷ rs)

abbrev pub AreHeld : List (Option ObjectError) → Type 0
AreHeld rs = AllByRecursion (λ r. r ≡ None) rs

pub each : (rs : List (Option ObjectError)) → chain rs ≡ None → AreHeld rs
each [] n = tt
each (r ∷ []) n = (n, tt)
each (r ∷ s ∷ rs) n = let two = both r (chain (s ∷ rs)) n in (two.0, each (s ∷ rs) two.1)

-- the rules after the first three are not broken
pub after_three : (a b c rest : Option ObjectError) → (a next b next c next rest) ≡ None → rest ≡ None
after_three a b c rest h = (both c rest (both b (c next rest) (both a (b next c next rest) h).1).1).1

-- two unbroken lists of rules make an unbroken one
pub neither : (a b : Option ObjectError) → a ≡ None → b ≡ None → (a next b) ≡ None
neither a b p q = rw p q
