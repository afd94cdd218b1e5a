-- Register rows: what the start of a block knows of its registers, and confirmed rows.
use Rattle.std.proofs.Common.{◌≡◌, ◌≢◌, ◌⊎◌, inl, inr, ⊎_elim, ℕ, zero, suc, ◌<◌, Bool, true, false, cond, not}
use Rattle.std.proofs.Common.{◌||◌, ◌==◌, List, [], ◌∷◌, slice_get, Option, Some, None, refl, sym, ap, ◌∙◌, subst}
use Rattle.std.proofs.Common.{arith, eqb-true, eq-eqb, ne_eqb, length}
use Rattle.std.specs.List.{list_all, list_any}
use Rattle.std.specs.Option.{option_map, unwrap_or}
use Rattle.std.specs.Ordering.{nat_cmp}
use Rattle.std.specs.FinMap as finite
use Rattle.std.proofs.lemmas.Bool.{and_parts}
use Rattle.std.proofs.lemmas.List.Sums.{AllPass-from_list_all}
use Rattle.ft_isa.specs.declared.colour.Colour.{Colour}
use Rattle.ft_isa.specs.declared.colour.Colour.TheVariants.{Green, Blue}
use Rattle.ft_isa.proofs.Lists.{all_there}
use Rattle.ft_types.specs.declared.object.Object.{Object}
use Rattle.ft_types.specs.declared.object.CodeType.{CodeType}
use Rattle.ft_types.specs.declared.object.RegType.{RegType}
use Rattle.ft_types.specs.Objects.{regs_of, reg_rows}
use Rattle.ft_types.specs.Spellable.{AreRising, IsCodeType, IsSpellable}
use Rattle.ft_types.proofs.Maps.{get-insert}
use Rattle.ft_semantics.specs.State.{State, word}
use Rattle.ft_typing.specs.Context.{Typed, TypedRegisters, typed_row, registers_after}
use Rattle.ft_typing.specs.RowWords.{same_colour}
use Rattle.ft_points.specs.Certified.{is_confirmed}

-- LISTS

-- an element that passes a test
pub record Passing {X : Type 0} (p : X → Bool) (xs : List X) : Type 0 where
  pub element : X
  pub place : ℕ
  pub there : slice_get xs place ≡ Some element
  pub passes : p element ≡ true

-- if any element passes a test, some element does
pub any_at : {X : Type 0} (p : X → Bool) (xs : List X) → list_any p xs ≡ true → Passing p xs
any_at p [] h = cc
any_at p (x ∷ xs) h = by_test (p x) refl h (any_at p xs)
  where
    by_test : (b : Bool) → p x ≡ b → (b || list_any p xs) ≡ true → (list_any p xs ≡ true → Passing p xs) →
        Passing p (x ∷ xs)
    by_test true e h rest = record { element = x; place = 0; there = refl; passes = e }
    by_test false e h rest = (let f = rest h in
        record { element = f.element; place = suc f.place; there = f.there; passes = f.passes })

-- if some element passes a test, any does
pub any_from : {X : Type 0} (p : X → Bool) (xs : List X) (k : ℕ) (x : X) → slice_get xs k ≡ Some x → p x ≡ true →
    list_any p xs ≡ true
any_from p [] k x e h = cc
any_from p (y ∷ ys) zero x e h = let same : y ≡ x = cc in ap (λ b. b || list_any p ys) (ap p same ∙ h)
any_from p (y ∷ ys) (suc k) x e h = ap (λ b. p y || b) (any_from p ys k x e h) ∙ or_true (p y)
  where
    or_true : (b : Bool) → (b || true) ≡ true
    or_true true = refl
    or_true false = refl

-- ROWS

-- the register numbers of a code type's rows increase
pub rows_rise : (o : Object) (t : ℕ) → IsSpellable o → AreRising 0 (reg_rows o t)
rows_rise o t spelled = by_type (slice_get o.types t) refl
  where
    by_type : (x : Option CodeType) → slice_get o.types t ≡ x → AreRising 0 (unwrap_or (option_map regs_of x) [])
    by_type None e = tt
    by_type (Some x) e = (all_there (IsCodeType (length o.types) o.nodes) o.types t x spelled.types e).rising

-- a row among others that says this of register r
pub record RowFor (o : Object) (rows : List RegType) (r : ℕ) (y : Typed) : Type 0 where
  pub row : RegType
  pub place : ℕ
  pub there : slice_get rows place ≡ Some row
  pub number : row.reg.number ≡ r
  pub says : typed_row o row ≡ y

-- one row of the next lemma
row_by : (o : Object) (x : RegType) (rows : List RegType) (u : Option Typed) (r : ℕ) (y : Typed) (b : Bool) →
    (b ≡ true → r ≡ x.reg.number) → cond b (Some (typed_row o x)) u ≡ Some y → (u ≡ Some y) ⊎ RowFor o (x ∷ rows) r y
row_by o x rows u r y true f e = (let same : typed_row o x ≡ y = cc in
    inr (record { row = x; place = 0; there = refl; number = sym (f refl); says = same }))
row_by o x rows u r y false f e = inl e

-- what is known of a register after the rows was known before, or comes from a row
known_from : (o : Object) (rows : List RegType) (m : TypedRegisters) (r : ℕ) (y : Typed) →
    finite.get (registers_after o m rows) r ≡ Some y → (finite.get m r ≡ Some y) ⊎ RowFor o rows r y
unfolding registers_after
known_from o [] m r y e = inl e
known_from o (x ∷ rows) m r y e =
    ⊎_elim
    (λ (f : finite.get (finite.insert m x.reg.number (typed_row o x)) r ≡ Some y).
    row_by o x rows (finite.get m r) r y (r == x.reg.number) (λ i. eqb-true r x.reg.number i)
    (sym (get-insert m x.reg.number (typed_row o x) r) ∙ f))
    (λ (h : RowFor o rows r y). inr (record {
      row = h.row;
      place = suc h.place;
      there = h.there;
      number = h.number;
      says = h.says;
    }))
    (known_from o rows (finite.insert m x.reg.number (typed_row o x)) r y e)

-- what is known of a register at the start of a block comes from a row
pub row_for : (o : Object) (rows : List RegType) (r : ℕ) (y : Typed) →
    finite.get (registers_after o finite.empty rows) r ≡ Some y → RowFor o rows r y
row_for o rows r y e =
    ⊎_elim
    (λ (f : finite.get finite.empty r ≡ Some y). let none = finite.get-empty {X = Typed} nat_cmp r in absurd (cc))
    (λ (h : RowFor o rows r y). h)
    (known_from o rows finite.empty r y e)

-- rows for larger numbers leave what is known of a register
kept_below : (o : Object) (least : ℕ) (rows : List RegType) (m : TypedRegisters) (r : ℕ) → AreRising least rows →
    r < least → finite.get (registers_after o m rows) r ≡ finite.get m r
unfolding registers_after
kept_below o least [] m r rise lt = refl
kept_below o least (x ∷ rows) m r rise lt =
    let n = x.reg.number in
    let le = rise.0 in
    kept_below o (suc n) rows (finite.insert m n (typed_row o x)) r rise.1 (omega arith)
    ∙ get-insert m n (typed_row o x) r
    ∙ ap (λ b. cond b (Some (typed_row o x)) (finite.get m r)) (ne_eqb r n (λ i. omega arith))

-- each of some rising rows says what is known of its register after them
pub known_after : (o : Object) (least : ℕ) (rows : List RegType) (m : TypedRegisters) (k : ℕ) (x : RegType) →
    AreRising least rows → slice_get rows k ≡ Some x → finite.get (registers_after o m rows) x.reg.number
    ≡ Some (typed_row o x)
unfolding registers_after
known_after o least [] m k x rise e = cc
known_after o least (y ∷ rows) m zero x rise e =
    let same : y ≡ x = cc in
    let n = y.reg.number in
    subst (λ (z : RegType). finite.get (registers_after o (finite.insert m n (typed_row o y)) rows) z.reg.number
    ≡ Some (typed_row o z)) same
    (kept_below o (suc n) rows (finite.insert m n (typed_row o y)) n rise.1 (omega arith)
    ∙ get-insert m n (typed_row o y) n
    ∙ ap (λ b. cond b (Some (typed_row o y)) (finite.get m n)) (eq-eqb n n refl))
known_after o least (y ∷ rows) m (suc k) x rise e =
    known_after o (suc y.reg.number) rows (finite.insert m y.reg.number (typed_row o y)) k x rise.1 e

-- CONFIRMED ROWS

-- what is not true is false
not_true : (b : Bool) → not b ≡ true → b ≡ false
not_true true e = cc
not_true false e = refl

-- colours are different if the test says so
pub other_colour : (a b : Colour) → same_colour a b ≡ false → a ≢ b
unfolding same_colour
other_colour Green Green e = cc
other_colour Green Blue e = λ i. cc
other_colour Blue Green e = λ i. cc
other_colour Blue Blue e = cc

-- a row of the other colour with the same expression, whose register has the same word
pub record Confirmed (s : State) (rows : List RegType) (r : RegType) : Type 0 where
  pub partner : RegType
  pub place : ℕ
  pub there : slice_get rows place ≡ Some partner
  pub colours : r.colour ≢ partner.colour
  pub expr : r.expr ≡ partner.expr
  pub words : word s r.reg ≡ word s partner.reg

-- if each row is confirmed, a row has a partner whose register has the same word
pub confirmed_at : (s : State) (rows : List RegType) (k : ℕ) (r : RegType) → list_all (is_confirmed s rows) rows ≡ true
    → slice_get rows k ≡ Some r → Confirmed s rows r
confirmed_at s rows k r h e =
    let f = any_at _ rows (all_there (λ q. is_confirmed s rows q ≡ true) rows k r
    (AllPass-from_list_all (is_confirmed s rows) rows h) e) in
    let both = and_parts _ _ f.passes in
    let pair = and_parts _ _ both.0 in
    record {
      partner = f.element;
      place = f.place;
      there = f.there;
      colours = other_colour r.colour f.element.colour (not_true _ pair.0);
      expr = eqb-true r.expr f.element.expr pair.1;
      words = eqb-true (word s r.reg) (word s f.element.reg) both.1;
    }
