-- The two registers of a pair, and what the registers and the cells hold of a flow's state.
use Rattle.std.proofs.Common.{◌≡◌, ◌≢◌, ℕ, zero, suc, ◌+◌, ◌<◌, true, false, cond, List, [], ◌∷◌, length, Option, Some}
use Rattle.std.proofs.Common.{inl, inr, refl, sym, ap, ◌∙◌, subst, arith, slice_get, slice_index, slice_set, nat_lt}
use Rattle.std.specs.Option.{unwrap_or}
use Rattle.std.proofs.lemmas.Bool.{ne_eqb, eq-eqb, cases_eq, lt-ltb}
use Rattle.std.proofs.lemmas.Option.{slice_get-get_or}
use Rattle.std.proofs.lemmas.List.{get_or-set_same, length-set}
use Rattle.ft_isa.specs.Words.{IsWord, apply, cell_address}
use Rattle.ft_isa.specs.declared.colour.Colour.TheVariants.{Green, Blue}
use Rattle.ft_isa.specs.declared.colour.Coloured.{Coloured}
use Rattle.ft_isa.specs.declared.reg.Reg.{Reg}
use Rattle.ft_isa.specs.declared.op.Op.TheVariants as op
use Rattle.ft_isa.proofs.Registers.{some_reg}
use Rattle.ft_semantics.specs.State.{Registers, Cells, held, with_held, cell_at, with_cell}
use Rattle.ft_types.proofs.Maps.{get-insert}
use Rattle.ft_lower.specs.Flow.{FlowState, with_pair}
use Rattle.ft_lower.specs.Well.{Known, learn, forget}
use Rattle.ft_lower.proofs.Expressions.{same_pair, other_pair}
use Rattle.ft_dup.specs.Images.{green, blue, register_zero}
use Rattle.ft_dup.proofs.Stretches.{col, held_same, held_other}

-- THE REGISTERS OF A PAIR

-- the green register of pair p has number p
green_number : (p : ℕ) → p < 32 → (green p).number ≡ p
green_number p h =
    let l : p < 64 = omega arith in
    ap (λ (r : Option Reg). (unwrap_or r register_zero).number) (sym (some_reg p (nat_lt p 64) refl l (lt-ltb p 64 l)))

-- the blue register of pair p has number 32 + p
pub blue_number : (p : ℕ) → p < 32 → (blue p).number ≡ 32 + p
blue_number p h =
    let l : 32 + p < 64 = omega arith in
    ap (λ (r : Option Reg). (unwrap_or r register_zero).number)
    (sym (some_reg (32 + p) (nat_lt (32 + p) 64) refl l (lt-ltb (32 + p) 64 l)))

-- no green register is a blue one
green_no_blue : (p q : ℕ) → p < 32 → q < 32 → (green p).number ≢ (blue q).number
green_no_blue p q h k e = let f : p ≡ 32 + q = sym (green_number p h) ∙ e ∙ blue_number q k in omega arith

-- different pairs have different green registers
pub greens_differ : (p q : ℕ) → p < 32 → q < 32 → q ≢ p → (green q).number ≢ (green p).number
greens_differ p q h k ne e = ne (sym (green_number q k) ∙ e ∙ green_number p h)

-- different pairs have different blue registers
pub blues_differ : (p q : ℕ) → p < 32 → q < 32 → q ≢ p → (blue q).number ≢ (blue p).number
blues_differ p q h k ne e = ne (let f : 32 + q ≡ 32 + p = sym (blue_number q k) ∙ e ∙ blue_number p h in omega arith)

-- WORDS

-- adding 0 leaves a word unchanged
pub add_nothing : (a : ℕ) → IsWord a → apply op.Add a 0 ≡ a
unfolding apply
add_nothing a h = omega arith

-- PAIRS

-- both registers of pair q hold its word
pub record Pair (m : Registers) (ps : ℕ → ℕ) (q : ℕ) : Type 0 where
  pub below : q < 32
  pub word : IsWord (ps q)
  pub green : held m (green q).number ≡ col Green (ps q)
  pub blue : held m (blue q).number ≡ col Blue (ps q)

-- each known pair holds its word
abbrev pub PairsHeld : Known → Registers → (ℕ → ℕ) → Type 0
PairsHeld k m ps = (q : ℕ) → k q ≡ true → Pair m ps q

-- the registers after pair p was written
abbrev pub two_held : Registers → ℕ → Coloured → Coloured → Registers
two_held m p x y = with_held (with_held m (green p).number x) (blue p).number y

-- the green register of a written pair holds what was written to it
pub green_read : (m : Registers) (p : ℕ) (x y : Coloured) → p < 32 → held (two_held m p x y) (green p).number ≡ x
green_read m p x y h = held_other (with_held m (green p).number x) (blue p).number y (green p).number
    (green_no_blue p p h h) ∙ held_same m (green p).number x

-- the blue register of a written pair holds what was written to it
pub blue_read : (m : Registers) (p : ℕ) (x y : Coloured) → held (two_held m p x y) (blue p).number ≡ y
blue_read m p x y = held_same (with_held m (green p).number x) (blue p).number y

-- a green write leaves the blue registers unchanged
pub blue_left : (m : Registers) (p q : ℕ) (x : Coloured) → p < 32 → q < 32 →
    held (with_held m (green p).number x) (blue q).number ≡ held m (blue q).number
blue_left m p q x h k = held_other m (green p).number x (blue q).number (λ e. green_no_blue p q h k (sym e))

-- every other pair still holds its word after the write
pub pair_kept : (m : Registers) (ps qs : ℕ → ℕ) (p q : ℕ) (x y : Coloured) → p < 32 → q ≢ p → qs q ≡ ps q →
    Pair m ps q → Pair (two_held m p x y) qs q
pair_kept m ps qs p q x y lt ne e h =
    let b = h.below in
    record {
      below = b;
      word = subst IsWord (sym e) h.word;
      green = held_other (with_held m (green p).number x) (blue p).number y (green q).number (green_no_blue q p b lt)
          ∙ held_other m (green p).number x (green q).number (greens_differ p q lt b ne) ∙ h.green
          ∙ ap (col Green) (sym e);
      blue = held_other (with_held m (green p).number x) (blue p).number y (blue q).number (blues_differ p q lt b ne)
          ∙ blue_left m p q x lt b ∙ h.blue ∙ ap (col Blue) (sym e);
    }

-- a pair written with one word in both colours holds that word
pair_put : (m : Registers) (qs : ℕ → ℕ) (p v : ℕ) → p < 32 → IsWord v → qs p ≡ v →
    Pair (two_held m p (col Green v) (col Blue v)) qs p
pair_put m qs p v lt h e = record {
  below = lt;
  word = subst IsWord (sym e) h;
  green = green_read m p (col Green v) (col Blue v) lt ∙ ap (col Green) (sym e);
  blue = blue_read m p (col Green v) (col Blue v) ∙ ap (col Blue) (sym e);
}

-- any other pair that is known after p is learned was known before
pub learned : (k : Known) (p q : ℕ) → q ≢ p → learn p k q ≡ true → k q ≡ true
learned k p q ne h = sym (ap (λ b. cond b true (k q)) (ne_eqb q p ne)) ∙ h

-- a pair that is known after p is forgotten is another one, and was known before
pub forgotten : (k : Known) (p q : ℕ) → forget p k q ≡ true → (q ≢ p) × (k q ≡ true)
forgotten k p q h = elim (cases_eq q p) [
  | inl e ↦ absurd (not_false (sym (ap (λ b. cond b false (k q)) (eq-eqb q p e))
      ∙ h))
  | inr ne ↦ (ne, sym (ap (λ b. cond b false (k q)) (ne_eqb q p ne)) ∙ h)
]
  where
    not_false : false ≡ true → ⊥
    not_false e = cc

-- a pair is learned if the same word is written to both its registers
pub holds_learn : (k : Known) (n : Registers) (f : FlowState) (p v : ℕ) → p < 32 → IsWord v →
    ((q : ℕ) → q ≢ p → k q ≡ true → Pair n f.pairs q) →
    PairsHeld (learn p k) (two_held n p (col Green v) (col Blue v)) (with_pair p v f).pairs
holds_learn k n f p v lt h old = λ q known.
    elim (cases_eq q p) [
      | inl e ↦ subst (λ x. Pair (two_held n p (col Green v) (col Blue v)) (with_pair p v f).pairs x) (sym e)
          (pair_put n (with_pair p v f).pairs p v lt h (same_pair p v f))
      | inr ne ↦ pair_kept n f.pairs (with_pair p v f).pairs p q (col Green v) (col Blue v) lt ne
          (other_pair p v f q ne) (old q ne (learned k p q ne known))
    ]

-- a pair is forgotten if anything is written to its registers; the other known pairs still hold their words
pub holds_forget : (k : Known) (m : Registers) (f : FlowState) (p v : ℕ) (x y : Coloured) → p < 32 →
    PairsHeld k m f.pairs → PairsHeld (forget p k) (two_held m p x y) (with_pair p v f).pairs
holds_forget k m f p v x y lt old = λ q known.
    let u = forgotten k p q known in pair_kept m f.pairs (with_pair p v f).pairs p q x y lt u.0 (other_pair p v f q u.0)
    (old q u.1)

-- CELLS

-- memory holds these words at the cells' addresses
abbrev pub CellsHold : Cells → List ℕ → Type 0
CellsHold m cs = (c : ℕ) → cell_at m (cell_address c) ≡ slice_get cs c

-- memory holds the word of each existing cell at its address
pub cell_there : (m : Cells) (cs : List ℕ) (c : ℕ) → CellsHold m cs → c < length cs → cell_at m (cell_address c)
    ≡ Some (slice_index cs c)
cell_there m cs c h lt = h c ∙ slice_get-get_or cs c 0 lt

-- setting an element leaves the others unchanged
get_set_other : (cs : List ℕ) (c v d : ℕ) → d ≢ c → slice_get (slice_set cs c v) d ≡ slice_get cs d
get_set_other [] c v d ne = refl
get_set_other (x ∷ cs) zero v zero ne = absurd (ne refl)
get_set_other (x ∷ cs) zero v (suc d) ne = refl
get_set_other (x ∷ cs) (suc c) v zero ne = refl
get_set_other (x ∷ cs) (suc c) v (suc d) ne = get_set_other cs c v d (λ e. ne (ap suc e))

-- memory still holds the cells' words after a cell is set in both
pub cells_set : (m : Cells) (cs : List ℕ) (c v : ℕ) → c < length cs → CellsHold m cs →
    CellsHold (with_cell m (cell_address c) v) (slice_set cs c v)
cells_set m cs c v lt h = λ d.
    get-insert m (cell_address c) v (cell_address d)
    ∙ elim (cases_eq d c) [
      | inl e ↦
          let within : c < length (slice_set cs c v) = omega (arith, length-set {A = ℕ}) in
          ap (λ b. cond b (Some v) (cell_at m (cell_address d)))
          (eq-eqb (cell_address d) (cell_address c) (ap cell_address e))
          ∙ sym (ap (slice_get (slice_set cs c v)) e ∙ slice_get-get_or (slice_set cs c v) c 0 within
          ∙ ap Some (get_or-set_same cs c v 0 lt))
      | inr ne ↦
          ap (λ b. cond b (Some v) (cell_at m (cell_address d))) (ne_eqb (cell_address d) (cell_address c) (λ e.
          ne (omega arith)))
          ∙ h d
          ∙ sym (get_set_other cs c v d ne)
    ]
