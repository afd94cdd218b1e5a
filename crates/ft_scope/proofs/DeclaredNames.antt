-- Lists of declarations, taken apart at one of them.
use Rattle.std.proofs.Common.{◌≡◌, ℕ, suc, ◌+◌, ◌<◌, List, [], ◌∷◌, ◌++◌, length, take, drop, get_or, refl, ap, ◌∙◌}
use Rattle.std.proofs.Common.{drop-cons, add-one}
use Rattle.std.proofs.Math.Seq.{take-suc}
use Rattle.ft_syntax.specs.declared.decl.Decl.{Decl}
use Rattle.ft_syntax.specs.declared.decl.Decl.TheVariants.{Cell}
use Rattle.ft_syntax.specs.Syntax.{declared, declared_list}
use Rattle.ft_syntax.proofs.DeclaredLists.{declared_push}

declared_first : (d : Decl) (ds : List Decl) → declared_list (d ∷ ds) ≡ declared d ∷ declared_list ds
unfolding declared_list
declared_first d ds = refl

-- the declarations from i on are declaration i and those after it
pub declared_drop : (all : List Decl) (i : ℕ) (d : Decl) → i < length all → declared_list (drop i all)
    ≡ declared (get_or all i d) ∷ declared_list (drop (i + 1) all)
declared_drop all i d h = rw add-one (ap declared_list (drop-cons all i d h)
    ∙ declared_first (get_or all i d) (drop (suc i) all))

-- the first i + 1 declarations are the first i and declaration i
pub declared_take : (all : List Decl) (i : ℕ) (d : Decl) → i < length all → declared_list (take (i + 1) all)
    ≡ declared_list (take i all) ++ declared (get_or all i d) ∷ []
declared_take all i d h = rw add-one (ap declared_list (take-suc all i d h)
    ∙ declared_push (take i all) (get_or all i d))

-- the default for an index outside a list
abbrev pub outside : Decl
outside = Cell (record { text = record { ref_ptr = (0, 0); now = [] }; at = 0 }) 0
