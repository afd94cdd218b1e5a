-- Maps with numbered entries whose values come from arrays.
use Rattle.std.proofs.Common.{◌≡◌, ℕ, zero, suc, ◌+◌, ◌-◌, ◌<◌, ◌≤◌, Bool, true, false, ◌&&◌, cond, Option, Some, None}
use Rattle.std.proofs.Common.{List, length, refl, ap, sym, subst, ◌∙◌, arith, ◌==◌, inl, inr, IsTrue, nat_lt, nat_le}
use Rattle.std.proofs.Common.{get_or, set, replicate}
use Rattle.std.specs.Prelude.{slice_get}
use Rattle.std.proofs.lemmas.Bool.{eqb-true, ne_eqb}
use Rattle.std.proofs.lemmas.Bool.Decides.{eqb_tells, nat_tests}
use Rattle.std.proofs.lemmas.List.{get_or-set_same, get_or-set_other, length-set, get_or-replicate}
use Rattle.std.proofs.lemmas.Option.{slice_get_cases, slice_get-get_or}
use Rattle.std.specs.Option.{unwrap_or}
use Rattle.std.specs.Cmp.{nat_cmp_total}
use Rattle.std.specs.FinMap.{get, insert, same_map, nat_cmp-IsAntisymmetric}
use Rattle.ft_isa.specs.declared.colour.Colour.{Colour}
use Rattle.ft_isa.specs.declared.colour.Colour.TheVariants.{Green}
use Rattle.ft_isa.specs.declared.colour.Coloured.{Coloured}
use Rattle.ft_isa.specs.Words.{cell_address}
use Rattle.ft_types.proofs.Maps.{get-insert}
use Rattle.ft_semantics.proofs.Tabulated.{Tells, cells_tell, tabulated, untabulated}
use Rattle.ft_semantics.specs.State.{tabulate, held, with_held, green_zero, cell_at, is_cell, with_cell}
use Rattle.ft_machine.specs.Arrays.{held_in, registers_of, word_in, cells_of}
use Rattle.ft_machine.proofs.Tabulated.{cells_there}

chosen : {X : Type 0} (b : Bool) (x y : X) (o : Option X) → (b ≡ true → x ≡ y) → cond b (Some x) o ≡ cond b (Some y) o
chosen true x y o h = ap Some (h refl)
chosen false x y o h = refl

-- maps agree at a key if their values there agree
pub alike : {X : Type 0} (n : ℕ) (key : ℕ → ℕ) (f g : ℕ → X) (q : ℕ) →
    ((i : ℕ) → i < n → (q == key i) ≡ true → f i ≡ g i) → get (tabulate n key f) q ≡ get (tabulate n key g) q
unfolding tabulate
alike zero key f g q h = refl
alike (suc n) key f g q h =
    get-insert (tabulate n key f) (key n) (f n) q
    ∙ chosen (q == key n) (f n) (g n) (get (tabulate n key f) q) (h n (omega arith))
    ∙ ap (cond (q == key n) (Some (g n))) (alike n key f g q (λ i below. h i (omega arith)))
    ∙ sym (get-insert (tabulate n key g) (key n) (g n) q)

-- equal values give equal maps
pub same_tabulated : {X : Type 0} (n : ℕ) (key : ℕ → ℕ) (f g : ℕ → X) → ((i : ℕ) → i < n → f i ≡ g i) → tabulate n key f
    ≡ tabulate n key g
same_tabulated n key f g h = same_map nat_cmp_total nat_cmp-IsAntisymmetric _ _ (λ q.
    alike n key f g q (λ i below _. h i below))

-- if one value changes, the map is the old one with the new value inserted
pub one_put : {X : Type 0} (n : ℕ) (key : ℕ → ℕ) → Tells key → (f g : ℕ → X) (k : ℕ) (v : X) → k < n → g k ≡ v →
    ((i : ℕ) → i < n → (i == k) ≡ false → g i ≡ f i)
    → tabulate n key g ≡ insert (tabulate n key f) (key k) v
one_put n key tells f g k v below here others = same_map nat_cmp_total nat_cmp-IsAntisymmetric _ _ (λ q.
    elim (eqb_tells q (key k)) [
      | inl e ↦ ap (get (tabulate n key g)) e.1 ∙ tabulated n key tells g k below ∙ ap Some here
          ∙ sym (ap (λ b. cond b (Some v) (get (tabulate n key f) q)) e.0)
      | inr e ↦ alike n key g f q (λ i i_below is.
          others i i_below (sym (tells i k) ∙ ap (λ x. x == key k) (sym (eqb-true q (key i) is)) ∙ e.0))
          ∙ sym (ap (λ b. cond b (Some v) (get (tabulate n key f) q)) e.0)
    ]
    ∙ sym (get-insert (tabulate n key f) (key k) v q))

-- a register's number is its key
pub registers_tell : Tells (λ r. r)
registers_tell i j = refl

-- looking up a register in the map finds what the arrays hold at its number
pub register_read : (words : List ℕ) (colours : List Colour) (r : ℕ) → r < 64 → held (registers_of words colours) r
    ≡ held_in words colours r
unfolding held
register_read words colours r below = ap (λ o. unwrap_or o green_zero)
    (tabulated 64 (λ r. r) registers_tell (held_in words colours) r below)

differs : (i k : ℕ) → (i == k) ≡ false → (i ≡ k → ⊥)
differs i k apart = grind (arith, nat_tests)

other_word : (words : List ℕ) (colours : List Colour) (k i : ℕ) (x : Coloured) → (i == k) ≡ false →
    held_in (set words k x.word) (set colours k x.colour) i ≡ held_in words colours i
other_word words colours k i x apart =
    ap (λ c. record { colour = c; word = get_or (set words k x.word) i 0 })
    (get_or-set_other colours k i x.colour Green (differs i k apart))
    ∙ ap (λ w. record { colour = get_or colours i Green; word = w })
    (get_or-set_other words k i x.word 0 (differs i k apart))

-- writing a register in the arrays writes it in the map
pub register_put : (words : List ℕ) (colours : List Colour) (k : ℕ) (x : Coloured) → length words ≡ 64 → length colours
    ≡ 64 → k < 64
    → registers_of (set words k x.word) (set colours k x.colour) ≡ with_held (registers_of words colours) k x
register_put words colours k x lw lc below =
    one_put 64 (λ r. r) registers_tell (held_in words colours) (held_in (set words k x.word) (set colours k x.colour)) k
    x below
    (ap (λ c. record { colour = c; word = get_or (set words k x.word) k 0 })
    (get_or-set_same colours k x.colour Green (omega arith))
    ∙ ap (λ w. record { colour = x.colour; word = w }) (get_or-set_same words k x.word 0 (omega arith)))
    (λ i _ apart. other_word words colours k i x apart)

-- no cell has an address below that of the first cell
pub no_cell_below : (words : List ℕ) (a : ℕ) → a < 1048576 → cell_at (cells_of words) a ≡ None
no_cell_below words a low = untabulated (length words) cell_address (word_in words) a (λ i _.
    ne_eqb a (cell_address i) (λ e. omega arith))

-- looking up a cell by its address finds the word at its index in the array
pub cell_read : (words : List ℕ) (a : ℕ) → 1048576 ≤ a → cell_at (cells_of words) a ≡ slice_get words (a - 1048576)
cell_read words a high = elim (slice_get_cases words (a - 1048576)).1 [
  | inl e ↦ found words a (a - 1048576) (omega arith) e.1
  | inr e ↦ untabulated (length words) cell_address (word_in words) a (λ i below.
      ne_eqb a (cell_address i) (λ is. too_high words a i high e.0 below is)) ∙ sym e.1
]
  where
    found : (words : List ℕ) (a k : ℕ) → a ≡ cell_address k → k < length words → cell_at (cells_of words) a
        ≡ slice_get words k
    found words a k is below = ap (cell_at (cells_of words)) is
        ∙ tabulated (length words) cell_address cells_tell (word_in words) k below
        ∙ sym (slice_get-get_or words k 0 below)

    too_high : (words : List ℕ) (a i : ℕ) → 1048576 ≤ a → length words ≤ a - 1048576 → i < length words → a
        ≡ cell_address i → ⊥
    too_high words a i high past below is = omega arith

-- the address of a cell gives an index within the array
pub within : (words : List ℕ) (a : ℕ) → IsTrue (is_cell (cells_of words) a) → (1048576 ≤ a)
    × (a - 1048576 < length words)
within words a h = in_range a (length words) (sym (cells_there (word_in words) (length words) a) ∙ h)
  where
    in_range : (a n : ℕ) → (nat_le 1048576 a && nat_lt a (1048576 + n)) ≡ true → (1048576 ≤ a) × (a - 1048576 < n)
    in_range a n h = (grind (arith, nat_tests), grind (arith, nat_tests))

-- writing a cell in the array writes it in the map
pub cell_put : (words : List ℕ) (a v : ℕ) → IsTrue (is_cell (cells_of words) a) → cells_of (set words (a - 1048576) v)
    ≡ with_cell (cells_of words) a v
cell_put words a v h = written words (a - 1048576) v (within words a h).1
    ∙ ap (λ b. with_cell (cells_of words) b v) (address a (within words a h).0)
  where
    address : (a : ℕ) → 1048576 ≤ a → cell_address (a - 1048576) ≡ a
    address a h = omega arith

    written : (words : List ℕ) (k v : ℕ) → k < length words → cells_of (set words k v)
        ≡ with_cell (cells_of words) (cell_address k) v
    written words k v below =
        ap (λ n. tabulate n cell_address (word_in (set words k v))) (length-set words k v)
        ∙ one_put (length words) cell_address cells_tell (word_in words) (word_in (set words k v)) k v below
        (get_or-set_same words k v 0 below) (λ i _ apart. get_or-set_other words k i v 0 (differs i k apart))

-- n cells and m cells have the same addresses only if n is m
pub as_many : (n m : ℕ) → ((a : ℕ) → (nat_le 1048576 a && nat_lt a (1048576 + n))
    ≡ (nat_le 1048576 a && nat_lt a (1048576 + m))) → n ≡ m
as_many n m h = let low = h (1048576 + n) in let high = h (1048576 + m) in grind (arith, nat_tests)

-- arrays of cells with the same addresses have the same length
pub as_many_words : (xs ys : List ℕ) → ((a : ℕ) → is_cell (cells_of xs) a ≡ is_cell (cells_of ys) a) → length xs
    ≡ length ys
as_many_words xs ys h = as_many (length xs) (length ys) (λ a. sym (cells_there (word_in xs) (length xs) a) ∙ h a
    ∙ cells_there (word_in ys) (length ys) a)

-- the arrays at the start hold green 0 in each register
pub registers_at_first : registers_of (replicate 64 0) (replicate 64 Green) ≡ tabulate 64 (λ r. r) (λ _. green_zero)
registers_at_first = same_tabulated 64 (λ r. r) _ _ (λ i below.
    ap (λ c. record { colour = c; word = get_or (replicate 64 0) i 0 }) (get_or-replicate 64 i Green Green below)
    ∙ ap (λ w. record { colour = Green; word = w }) (get_or-replicate 64 i 0 0 below))

-- an array represents the map with these values if they are its words
pub filled : (words : List ℕ) (k n : ℕ) (f : ℕ → ℕ) → length words ≡ k → k ≡ n →
    ((i : ℕ) → i < k → get_or words i 0 ≡ f i) → cells_of words ≡ tabulate n cell_address f
filled words k n f e same h =
    ap (λ m. tabulate m cell_address (word_in words)) (e ∙ same)
    ∙ same_tabulated n cell_address (word_in words) f (λ i below. h i (subst (λ m. i < m) (sym same) below))
