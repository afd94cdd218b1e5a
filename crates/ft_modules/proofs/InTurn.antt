-- Modules are tested in the order in which they are added.
use Rattle.std.proofs.Common.{◌≡◌, ℕ, suc, ◌+◌, List, [], ◌∷◌, ◌++◌, length, Option, Some, None, refl, sym, ap, ◌∙◌}
use Rattle.std.proofs.Common.{arith}
use Rattle.std.specs.Option.{option_or}
use Rattle.std.proofs.lemmas.List.{append_assoc, append-nil}
use Rattle.ft_types.specs.declared.object.Object.{Object}
use Rattle.ft_types.specs.declared.object.Cell.{Cell}
use Rattle.ft_modules.specs.LinkRefusals.{module_refusal, modules_refusal}

-- `option_or` with `None` on the right changes nothing
or_nothing : {X : Type 0} (a : Option X) → option_or a None ≡ a
or_nothing None = refl
or_nothing (Some x) = refl

-- `option_or` is associative
or_grouped : {X : Type 0} (a b c : Option X) → option_or a (option_or b c) ≡ option_or (option_or a b) c
or_grouped None b c = refl
or_grouped (Some x) b c = refl

-- the refusal of a list of modules with one more at the end is the refusal of the list, or else that of the last module
one_more : (earlier : List Object) (m : ℕ) (cells : List Cell) (os : List Object) (o : Object) →
    modules_refusal earlier m cells (os ++ o ∷ [])
    ≡ option_or (modules_refusal earlier m cells os) (module_refusal (earlier ++ os) (m + length os) cells o)
unfolding modules_refusal
one_more earlier m cells [] o =
    let count : m ≡ m + 0 = omega arith in
    or_nothing (module_refusal earlier m cells o) ∙ (λ i. module_refusal (sym (append-nil earlier) i) (count i) cells o)
one_more earlier m cells (y ∷ ys) o =
    let count : suc m + length ys ≡ m + suc (length ys) = omega arith in
    ap (option_or (module_refusal earlier m cells y)) (one_more (earlier ++ y ∷ []) (suc m) cells ys o
    ∙ (λ i. option_or (modules_refusal (earlier ++ y ∷ []) (suc m) cells ys)
    (module_refusal (append_assoc earlier (y ∷ []) ys i) (count i) cells o)))
    ∙ or_grouped (module_refusal earlier m cells y) (modules_refusal (earlier ++ y ∷ []) (suc m) cells ys)
    (module_refusal (earlier ++ y ∷ ys) (m + suc (length ys)) cells o)

-- likewise if no modules come before them
pub in_turn : (cells : List Cell) (os : List Object) (o : Object) → modules_refusal [] 0 cells (os ++ o ∷ [])
    ≡ option_or (modules_refusal [] 0 cells os) (module_refusal os (length os) cells o)
in_turn cells os o =
    let count : 0 + length os ≡ length os = omega arith in
    one_more [] 0 cells os o ∙ (λ i. option_or (modules_refusal [] 0 cells os) (module_refusal os (count i) cells o))
