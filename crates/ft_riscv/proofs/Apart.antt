-- No two rows of the table fit one word.
use Rattle.std.proofs.Common.{◌≡◌, ℕ, Bool, true, false, not, ◌&&◌, ◌||◌, ◌==◌, List, [], ◌∷◌, Option, Some, None, inl}
use Rattle.std.proofs.Common.{inr, refl, arith, sym, ◌∙◌, subst}
use Rattle.std.proofs.lemmas.Bool.{and_parts, cond-true, cond-false}
use Rattle.ft_riscv.specs.declared.table.High.{High}
use Rattle.ft_riscv.specs.declared.table.High.TheVariants.{Any, Seven, Six}
use Rattle.ft_riscv.specs.declared.table.Row.{Row}
use Rattle.ft_riscv.specs.Fields.{opcode, funct3, funct7}
use Rattle.ft_riscv.specs.Table.{table, has_funct3, has_high, fits, spelled, decoded, first_fitting}
use Rattle.ft_riscv.specs.Unambiguous.{IsRow, IsUnambiguous}

-- two wanted numbers differ
abbrev differ : Option ℕ → Option ℕ → Bool
differ (Some a) (Some b) = not (a == b)
differ f g = false

abbrev high_differ : High → High → Bool
high_differ (Seven a) (Seven b) = not (a == b)
high_differ h k = false

abbrev apart : Row → Row → Bool
apart r s = not (r.opcode == s.opcode) || differ r.funct3 s.funct3 || high_differ r.high s.high

abbrev all_apart : Row → List Row → Bool
all_apart r [] = true
all_apart r (s ∷ ss) = apart r s && all_apart r ss

abbrev pairs_apart : List Row → Bool
pairs_apart [] = true
pairs_apart (r ∷ rs) = all_apart r rs && pairs_apart rs

number_not : (a b n : ℕ) → not (a == b) ≡ true → (b == n) ≡ true → (a == n) ≡ false
number_not a b n e f = grind arith

turned_not : (a b n : ℕ) → not (a == b) ≡ true → (n == b) ≡ true → (n == a) ≡ false
turned_not a b n e f = grind arith

funct3_not : (f g : Option ℕ) (w : ℕ) → differ f g ≡ true → has_funct3 g w ≡ true → has_funct3 f w ≡ false
funct3_not (Some a) (Some b) w e h = turned_not a b (funct3 w) e h
funct3_not (Some a) None w e h = absurd cc
funct3_not None g w e h = absurd cc

high_not : (h k : High) (w : ℕ) → high_differ h k ≡ true → has_high k w ≡ true → has_high h w ≡ false
high_not (Seven a) (Seven b) w e f = turned_not a b (funct7 w) e f
high_not (Seven a) Any w e f = absurd cc
high_not (Seven a) (Six b) w e f = absurd cc
high_not Any k w e f = absurd cc
high_not (Six a) k w e f = absurd cc

-- of three pairs of tests one excludes the other
one_not : (x y z a b c d e f : Bool) → (x || y || z) ≡ true → (d && e && f) ≡ true → (x ≡ true → d ≡ true → a ≡ false) →
    (y ≡ true → e ≡ true → b ≡ false) → (z ≡ true → f ≡ true → c ≡ false) → (a && b && c) ≡ false
one_not true y z false b c d e f s t p q r = refl
one_not true y z true b c true e f s t p q r = absurd (let no = p refl refl in cc)
one_not true y z true b c false e f s t p q r = absurd cc
one_not false true z false b c d e f s t p q r = refl
one_not false true z true false c d e f s t p q r = refl
one_not false true z true true c d true f s t p q r = absurd (let no = q refl refl in cc)
one_not false true z true true c true false f s t p q r = absurd cc
one_not false true z true true c false false f s t p q r = absurd cc
one_not false false true false b c d e f s t p q r = refl
one_not false false true true false c d e f s t p q r = refl
one_not false false true true true false d e f s t p q r = refl
one_not false false true true true true d e true s t p q r = absurd (let no = r refl refl in cc)
one_not false false true true true true true true false s t p q r = absurd cc
one_not false false true true true true true false false s t p q r = absurd cc
one_not false false true true true true false e false s t p q r = absurd cc
one_not false false false a b c d e f s t p q r = absurd cc

-- of two rows that differ, at most one fits
apart_not : (r s : Row) (w : ℕ) → apart r s ≡ true → fits s w ≡ true → fits r w ≡ false
apart_not r s w e f =
    one_not _ _ _ _ _ _ _ _ _ e f (number_not r.opcode s.opcode (opcode w)) (funct3_not r.funct3 s.funct3 w)
    (high_not r.high s.high w)

one_apart : (x r : Row) (rows : List Row) → all_apart x rows ≡ true → IsRow r rows → apart x r ≡ true
one_apart x r [] e i = elim i [ ]
one_apart x r (y ∷ rows) e (inl same) = subst (λ s. apart x s ≡ true) (sym same) (and_parts _ _ e).0
one_apart x r (y ∷ rows) e (inr i) = one_apart x r rows (and_parts _ _ e).1 i

-- the row that fits is the first that fits
only : (rows : List Row) → pairs_apart rows ≡ true → (w : ℕ) (r : Row) → IsRow r rows → fits r w ≡ true →
    first_fitting rows w ≡ Some (spelled r.form w)
only [] e w r i f = elim i [ ]
only (x ∷ rows) e w r (inl same) f =
    subst (λ s. first_fitting (s ∷ rows) w ≡ Some (spelled r.form w)) same (cond-true (fits r w) _ _ f)
only (x ∷ rows) e w r (inr i) f =
    cond-false (fits x w) _ _ (apart_not x r w (one_apart x r rows (and_parts _ _ e).0 i) f)
    ∙ only rows (and_parts _ _ e).1 w r i f

pub unambiguous : IsUnambiguous
unfolding table decoded
unambiguous w r i f = only table refl w r i f
