-- How lists of declarations grow.
use Rattle.std.proofs.Common.{◌≡◌, List, [], ◌∷◌, ◌++◌, length, refl, ap, arith}
use Rattle.ft_syntax.specs.declared.decl.Decl.{Decl}
use Rattle.ft_syntax.specs.Syntax.{declared, declared_list}

-- the plain form of an empty list of declarations is empty
pub declared_empty : declared_list [] ≡ []
unfolding declared_list
declared_empty = refl

-- appending a declaration to a list appends it to the plain list
pub declared_push : (ds : List Decl) (d : Decl) → declared_list (ds ++ d ∷ []) ≡ declared_list ds ++ declared d ∷ []
unfolding declared_list
declared_push [] d = refl
declared_push (x ∷ ds) d = ap (λ v. declared x ∷ v) (declared_push ds d)

-- the plain list is as long as the code's
pub declared_length : (ds : List Decl) → length (declared_list ds) ≡ length ds
unfolding declared_list
declared_length [] = refl
declared_length (d ∷ ds) = omega (arith, declared_length ds)
