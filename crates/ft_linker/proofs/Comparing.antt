-- Names and cells compared element by element.
use Rattle.std.proofs.Common.{◌≡◌, ℕ, suc, ◌+◌, ◌≤◌, Bool, true, false, ◌&&◌, ◌==◌, List, [], ◌∷◌, length, drop}
use Rattle.std.proofs.Common.{slice_get, Some, refl, ap, ◌∙◌, eq-eqb}
use Rattle.std.proofs.lemmas.Bool.{ne_eqb}
use Rattle.std.proofs.lemmas.List.{drop_all}
use Rattle.ft_isa.proofs.Lists.{drop_next}
use Rattle.ft_types.specs.declared.object.Cell.{Cell}
use Rattle.ft_modules.specs.Links.{same_name}
use Rattle.ft_modules.specs.LinkRefusals.{same_cell, same_cells}

-- NAMES

pub names_go : (a b : List ℕ) (k x y : ℕ) → slice_get a k ≡ Some x → slice_get b k ≡ Some y → x ≡ y →
    same_name (drop k a) (drop k b) ≡ same_name (drop (k + 1) a) (drop (k + 1) b)
names_go a b k x y e f same = (λ i. same_name (drop_next a k x e i) (drop_next b k y f i))
    ∙ ap (λ t. t && same_name (drop (k + 1) a) (drop (k + 1) b)) (eq-eqb x y same)

pub names_stop : (a b : List ℕ) (k x y : ℕ) → slice_get a k ≡ Some x → slice_get b k ≡ Some y → (x ≡ y → ⊥) →
    same_name (drop k a) (drop k b) ≡ false
names_stop a b k x y e f other = (λ i. same_name (drop_next a k x e i) (drop_next b k y f i))
    ∙ ap (λ t. t && same_name (drop (k + 1) a) (drop (k + 1) b)) (ne_eqb x y other)

pub names_end : (a b : List ℕ) (k : ℕ) → length a ≤ k → length b ≤ k → same_name (drop k a) (drop k b) ≡ true
names_end a b k le lf = λ i. same_name (drop_all k a le i) (drop_all k b lf i)

pub names_long : (a b : List ℕ) → (length a ≡ length b → ⊥) → same_name a b ≡ false
names_long [] [] h = absurd (h refl)
names_long [] (y ∷ ys) h = refl
names_long (x ∷ xs) [] h = refl
names_long (x ∷ xs) (y ∷ ys) h = ap (λ t. (x == y) && t) (names_long xs ys (λ e. h (ap suc e))) ∙ and_false (x == y)
  where
    and_false : (b : Bool) → (b && false) ≡ false
    and_false true = refl
    and_false false = refl

-- CELLS

pub cells_go : (a b : List Cell) (k : ℕ) (x y : Cell) → slice_get a k ≡ Some x → slice_get b k ≡ Some y → same_cell x y
    ≡ true → same_cells (drop k a) (drop k b) ≡ same_cells (drop (k + 1) a) (drop (k + 1) b)
cells_go a b k x y e f same = (λ i. same_cells (drop_next a k x e i) (drop_next b k y f i))
    ∙ ap (λ t. t && same_cells (drop (k + 1) a) (drop (k + 1) b)) same

pub cells_stop : (a b : List Cell) (k : ℕ) (x y : Cell) → slice_get a k ≡ Some x → slice_get b k ≡ Some y →
    same_cell x y ≡ false → same_cells (drop k a) (drop k b) ≡ false
cells_stop a b k x y e f other = (λ i. same_cells (drop_next a k x e i) (drop_next b k y f i))
    ∙ ap (λ t. t && same_cells (drop (k + 1) a) (drop (k + 1) b)) other

pub cells_end : (a b : List Cell) (k : ℕ) → length a ≤ k → length b ≤ k → same_cells (drop k a) (drop k b) ≡ true
cells_end a b k le lf = λ i. same_cells (drop_all k a le i) (drop_all k b lf i)

pub cells_long : (a b : List Cell) → (length a ≡ length b → ⊥) → same_cells a b ≡ false
cells_long [] [] h = absurd (h refl)
cells_long [] (y ∷ ys) h = refl
cells_long (x ∷ xs) [] h = refl
cells_long (x ∷ xs) (y ∷ ys) h = ap (λ t. same_cell x y && t) (cells_long xs ys (λ e. h (ap suc e)))
    ∙ and_false (same_cell x y)
  where
    and_false : (b : Bool) → (b && false) ≡ false
    and_false true = refl
    and_false false = refl
